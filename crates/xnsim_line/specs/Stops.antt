-- Runs of scripts up to a stop.
use Rattle.std.specs.Prelude.{◌≡◌, ℕ, ◌+◌, Bool, true, false, cond, is_some, List, [], ◌∷◌, ◌++◌, map, Option, None, Some, codes}
use Rattle.std.specs.List.{flat_map}
use Rattle.std.specs.Io.KnownBytes.{Appends}
use Rattle.xn_model.specs.Worlds as model
use Rattle.xn_model.specs.Worlds.{World, drain_for}
use Rattle.xn_model.specs.Calls.{pick_of}
use Rattle.xn_model.specs.Images.{blocks_in, joined}
use Rattle.xn_kernel.specs.Kernels.{is_in_flight}
use Rattle.image_model.specs.Report.{IsSoundImage}
use Rattle.templates.specs.Language.{types_of_image}
use Rattle.xn_state.specs.declared.reply.Reply.{Reply}
use Rattle.xn_state.specs.declared.event.Event.{Event}
use Rattle.xn_state.specs.Events.{event_of, reply_of}
use Rattle.world.specs.Worlds.{is_any_in_flight}
use Rattle.script.specs.Replies.{reply_line}
use Rattle.script.specs.Scripts.{LineSpells}
use Rattle.xnsim_line.specs.declared.invocation.Stop.{Stop}
use Rattle.xnsim_line.specs.Runs.{opened_world, IsMountedRun, IsPrintedRun, IsRun, IsRunLine}

-- how many block writes a reply tells
abbrev pub writes_of : model.Reply → ℕ
writes_of model.Landed = 1
writes_of model.Fault = 1
writes_of (model.Drained writes) = writes
writes_of _ = 0

-- a sync that fails
abbrev pub is_failed_sync : model.Event → Bool
is_failed_sync (model.FailSync b) = true
is_failed_sync _ = false

-- how many block writes came of an event; a sync that fails is no block write
abbrev pub writes_by : model.Event → model.Reply → ℕ
writes_by e r = cond (is_failed_sync e) 0 (writes_of r)

abbrev pub writes_in : List model.Event → List model.Reply → ℕ
writes_in [] rs = 0
writes_in (e ∷ es) [] = 0
writes_in (e ∷ es) (r ∷ rs) = writes_by e r + writes_in es rs

-- a client's drain
abbrev pub is_drain : model.Event → Bool
is_drain (model.Client fs model.Drain) = true
is_drain _ = false

-- an event that writes one block by itself: it lands a write that is under way, or lets it fail
abbrev pub is_write : World → model.Event → Bool
is_write w (model.Land b) = is_in_flight w.state b
is_write w (model.Fail b stays) = is_in_flight w.state b
is_write w _ = false

-- a drain that is not refused, with so many rounds done, after which there is one more
pub record IsCutDrain (w : World) (writes : ℕ) (after : World) : Type 0 where
  pub up : w.down ≡ false
  pub calm : is_any_in_flight w.state ≡ false
  pub rounds : drain_for writes 0 w ≡ (writes, after)
  pub more : is_some (pick_of after.state) ≡ true

-- Of this event a block write comes after so many, and is held back; the world is as before that write.
abbrev pub IsHeldBack : World → model.Event → ℕ → World → Type 0
IsHeldBack w (model.Client fs model.Drain) writes after = IsCutDrain w writes after
IsHeldBack w e writes after = (is_write w e ≡ true) × (writes ≡ 0) × (after ≡ w)

-- what is left of a run's events: none, or the first of them is held back
abbrev pub IsEnd : World → List Event → ℕ → World → Type 0
IsEnd w [] writes after = after ≡ w
IsEnd w (event ∷ rest) writes after = IsHeldBack w (event_of event) writes after

-- what is printed where a run ends
abbrev pub end_line : List Event → List ℕ
end_line [] = []
end_line (event ∷ rest) = codes "stopped" ++ 10 ∷ []

-- what is on the disk where a run ends: the newest bytes, or those that are settled where a stop loses the others
abbrev pub image_left : Bool → List Event → World → List (List ℕ)
image_left loses [] w = w.image
image_left loses (event ∷ rest) w = cond loses (model.left w []) w.image

-- What was printed by a run up to a stop, and what is then on the disk: all events were run, or those before the one of which a block
-- write would have come after so many in all.
pub record IsStoppedRun (from : World) (events : List Event) (stop : Stop) (old new : Option (List ℕ)) (image : List ℕ) : Type 0 where
  pub done : List Event
  pub rest : List Event
  pub all : done ++ rest ≡ events
  pub replies : List Reply
  pub before : World
  pub run : IsRun from done replies before
  pub writes_left : ℕ
  pub counted : writes_in (map event_of done) (map reply_of replies) + writes_left ≡ stop.writes
  pub after : World
  pub end : IsEnd before rest writes_left after
  pub printed : Appends old new (flat_map reply_line replies ++ end_line rest)
  pub reached : image ≡ joined (image_left stop.loses rest after)

-- a line spells an event, which was run on this world and its reply printed; so many block writes may come after those of the reply
pub record IsLineWithin (from : World) (line : List ℕ) (left : ℕ) (old new : Option (List ℕ)) (after : World) (rest : ℕ) : Type 0 where
  pub run : IsRunLine from line old new after
  pub counted : writes_by (event_of run.event) (reply_of run.reply) + rest ≡ left

-- a line spells an event that is held back, and `stopped` was printed
pub record IsLineHeldBack (from : World) (line : List ℕ) (left : ℕ) (old new : Option (List ℕ)) (after : World) : Type 0 where
  pub event : Event
  pub spells : LineSpells line event
  pub held : IsHeldBack from (event_of event) left after
  pub printed : Appends old new (codes "stopped" ++ 10 ∷ [])

-- a run on a world, to its end or to a stop
abbrev pub IsAskedOn : Option Stop → World → List Event → Option (List ℕ) → Option (List ℕ) → List ℕ → Type 0
IsAskedOn None from events old new image = IsPrintedRun from events old new image
IsAskedOn (Some stop) from events old new image = IsStoppedRun from events stop old new image

-- such a run on the disk of an image, which is sound
pub record IsMountedStop (image : List ℕ) (events : List Event) (stop : Stop) (old new : Option (List ℕ)) (after : List ℕ) : Type 0 where
  pub sound : IsSoundImage (types_of_image (blocks_in image)) image
  pub run : IsStoppedRun (opened_world image) events stop old new after

-- a run on the disk of an image, to its end or to a stop
abbrev pub IsAskedRun : Option Stop → List ℕ → List Event → Option (List ℕ) → Option (List ℕ) → List ℕ → Type 0
IsAskedRun None image events old new after = IsMountedRun image events old new after
IsAskedRun (Some stop) image events old new after = IsMountedStop image events stop old new after
