-- Runs up to a stop.
use Rattle.std.proofs.Common.{◌≡◌, ◌+◌, ℕ, Option, None, Some, List, [], ◌∷◌, ◌++◌, append_assoc, map, length, take, drop, refl, sym, ◌∙◌, ap, subst, arith}
use Rattle.std.specs.Prelude.{Result, Ok, Err, IfOk, IfErr, IsOk, OnOk}
use Rattle.std.specs.List.{flat_map}
use Rattle.std.specs.Io.KnownBytes.{Appends}
use Rattle.std.proofs.lemmas.Bool.{false≢true}
use Rattle.std.proofs.lemmas.List.{map-append, append-nil}
use Rattle.xn_model.specs.Images.{blocks_in, joined}
use Rattle.xn_model.specs.Worlds as model
use Rattle.xn_model.specs.Worlds.{World, Step, Run}
use Rattle.image_model.specs.Report.{IsSoundImage}
use Rattle.templates.specs.Language.{types_of_image}
use Rattle.xn_state.specs.declared.reply.Reply.{Reply}
use Rattle.xn_state.specs.declared.event.Event.{Event}
use Rattle.xn_state.specs.Events.{event_of, reply_of}
use Rattle.script.specs.Replies.{reply_line}
use Rattle.script.specs.Scripts.{AllSpell, LineSpells, SpellEvents}
use Rattle.script.proofs.ForCallers.{zip_push}
use Rattle.xnsim_line.specs.declared.invocation.Stop.{Stop}
use Rattle.xnsim_line.specs.Stops.{writes_by, writes_in, end_line, image_left, IsAskedOn, IsAskedRun, IsHeldBack, IsLineHeldBack, IsLineWithin, IsStoppedRun}
use Rattle.xnsim_line.specs.Runs.{opened_world, IsPrintedRun, IsRun, RunsLines}
use Rattle.xnsim_line.proofs.SpelledLines.{rest_spelled}
use Rattle.xnsim_line.proofs.ScriptRuns.{nothing_printed, printed_more, printed_one_more, ran_one_more}

-- these events were run, their replies printed, the world is this, and so many block writes may still come
pub record IsRunWithin (from : World) (events : List Event) (limit : ℕ) (old new : Option (List ℕ)) (after : World) (left : ℕ) : Type 0 where
  pub replies : List Reply
  pub run : IsRun from events replies after
  pub printed : Appends old new (flat_map reply_line replies)
  pub counted : writes_in (map event_of events) (map reply_of replies) + left ≡ limit

-- one event more, of a run
writes_on : (w : World) (es : List model.Event) (rs : List model.Reply) (after : World) (e : model.Event) (r : model.Reply) → Run w es rs after →
    writes_in (es ++ e ∷ []) (rs ++ r ∷ []) ≡ writes_in es rs + writes_by e r
writes_on w [] [] after e r run = omega arith
writes_on w [] (q ∷ rs) after e r run = absurd run
writes_on w (d ∷ es) [] after e r run = absurd run
writes_on w (d ∷ es) (q ∷ rs) after e r run = let rest = writes_on run.0 es rs after e r run.2 in omega (arith, rest)

-- before the first event
pub none_within : (from : World) (limit : ℕ) (old : Option (List ℕ)) → IsRunWithin from [] limit old old from limit
none_within from limit old = record { replies = []; run = refl; printed = nothing_printed old; counted = omega arith }

-- one event more
pub one_within : (from : World) (events : List Event) (event : Event) (limit : ℕ) (old mid new : Option (List ℕ)) (before after : World) (reply : Reply) (left rest : ℕ) →
    Step before (event_of event) (reply_of reply) after → writes_by (event_of event) (reply_of reply) + rest ≡ left → Appends mid new (reply_line reply) →
    IsRunWithin from events limit old mid before left → IsRunWithin from (events ++ event ∷ []) limit old new after rest
one_within from events event limit old mid new before after reply left rest step spent printed so_far =
    let sent = map-append event_of events (event ∷ []) in
    let told = map-append reply_of so_far.replies (reply ∷ []) in
    let sum = writes_on from (map event_of events) (map reply_of so_far.replies) before (event_of event) (reply_of reply) so_far.run in
    let first = so_far.counted in
    let all : writes_in (map event_of events ++ event_of event ∷ []) (map reply_of so_far.replies ++ reply_of reply ∷ []) + rest ≡ limit = omega (arith, sum, first, spent) in
    record {
      replies = so_far.replies ++ reply ∷ [];
      run = ran_one_more from events event so_far.replies reply before after step so_far.run;
      printed = printed_one_more so_far.replies reply old mid new so_far.printed printed;
      counted = rw (sent, told) all;
    }

-- all events were run
pub ran_to_end : (from : World) (events rest all : List Event) (stop : Stop) (old new : Option (List ℕ)) (after : World) (left : ℕ) (image : List ℕ) →
    IsRunWithin from events stop.writes old new after left → events ++ rest ≡ all → rest ≡ [] → image ≡ joined after.image → IsStoppedRun from all stop old new image
ran_to_end from events rest all stop old new after left image run whole none reached = record {
  done = events;
  rest = [];
  all = ap (λ more. events ++ more) (sym none) ∙ whole;
  replies = run.replies;
  before = after;
  run = run.run;
  writes_left = left;
  counted = run.counted;
  after = after;
  end = refl;
  printed = subst (Appends old new) (sym (append-nil (flat_map reply_line run.replies))) run.printed;
  reached = reached;
}

-- one of them is held back
pub ran_to_stop : (from : World) (events : List Event) (event : Event) (rest all : List Event) (stop : Stop) (old mid new : Option (List ℕ)) (before after : World) (left : ℕ) (image : List ℕ) →
    IsRunWithin from events stop.writes old mid before left → events ++ event ∷ rest ≡ all → IsHeldBack before (event_of event) left after → Appends mid new (end_line (event ∷ rest)) →
    image ≡ joined (image_left stop.loses (event ∷ rest) after) → IsStoppedRun from all stop old new image
ran_to_stop from events event rest all stop old mid new before after left image run whole held printed reached = record {
  done = events;
  rest = event ∷ rest;
  all = whole;
  replies = run.replies;
  before = before;
  run = run.run;
  writes_left = left;
  counted = run.counted;
  after = after;
  end = held;
  printed = printed_more old mid new (flat_map reply_line run.replies) (end_line (event ∷ rest)) run.printed printed;
  reached = reached;
}

-- the events that these lines spell were run
pub record AreLinesWithin (from : World) (lines : List (List ℕ)) (limit : ℕ) (old new : Option (List ℕ)) (after : World) (left : ℕ) : Type 0 where
  pub events : List Event
  pub spelled : AllSpell lines events
  pub ran : IsRunWithin from events limit old new after left

pub no_lines_within : (from : World) (limit : ℕ) (old : Option (List ℕ)) → AreLinesWithin from [] limit old old from limit
no_lines_within from limit old = record { events = []; spelled = tt; ran = none_within from limit old }

-- one line more
pub line_within : (from : World) (lines : List (List ℕ)) (line : List ℕ) (limit : ℕ) (old mid new : Option (List ℕ)) (before after : World) (left rest : ℕ) →
    IsLineWithin before line left mid new after rest → AreLinesWithin from lines limit old mid before left → AreLinesWithin from (lines ++ line ∷ []) limit old new after rest
line_within from lines line limit old mid new before after left rest one so_far = record {
  events = so_far.events ++ one.run.event ∷ [];
  spelled = zip_push LineSpells lines so_far.events line one.run.event so_far.spelled one.run.spells;
  ran = one_within from so_far.events one.run.event limit old mid new before after one.run.reply left rest one.run.step one.counted one.run.printed so_far.ran;
}

-- after the last line
pub lines_to_end : (from : World) (lines all : List (List ℕ)) (stop : Stop) (old new : Option (List ℕ)) (after : World) (left : ℕ) → lines ≡ all →
    AreLinesWithin from lines stop.writes old new after left → RunsLines all (λ events. IsStoppedRun from events stop old new (joined after.image))
lines_to_end from lines all stop old new after left whole so_far = (
  so_far.events,
  subst (λ ls. AllSpell ls so_far.events) whole so_far.spelled,
  ran_to_end from so_far.events [] so_far.events stop old new after left (joined after.image) so_far.ran (append-nil so_far.events) refl refl,
)

-- at a line whose event is held back
pub lines_to_stop : (from : World) (lines all : List (List ℕ)) (line : List ℕ) (stop : Stop) (old mid new : Option (List ℕ)) (before after : World) (left : ℕ)
    (last : List (List ℕ)) → ((event : Event) (rest : List Event) → last ≡ image_left stop.loses (event ∷ rest) after) →
    lines ++ line ∷ [] ≡ take (length lines + 1) all → IsLineHeldBack before line left mid new after → SpellEvents all → AreLinesWithin from lines stop.writes old mid before left →
    RunsLines all (λ events. IsStoppedRun from events stop old new (joined last))
lines_to_stop from lines all line stop old mid new before after left last ends front one given so_far =
    let event = one.event in
    let rest = drop (length lines + 1) given.0 in
    let first = zip_push LineSpells lines so_far.events line event so_far.spelled one.spells in
    let whole = rest_spelled all (length lines + 1) (so_far.events ++ event ∷ []) (subst (λ ls. AllSpell ls (so_far.events ++ event ∷ [])) front first) given in (
      so_far.events ++ event ∷ rest,
      subst (AllSpell all) (append_assoc so_far.events (event ∷ []) rest) whole,
      ran_to_stop from so_far.events event rest (so_far.events ++ event ∷ rest) stop old mid new before after left (joined last) so_far.ran refl one.held one.printed (ap joined (ends event rest)),
    )

-- what was run on an image, to its end or to a stop, was run on a sound one
pub asked_sound : (stop : Option Stop) (image : List ℕ) (events : List Event) (old new : Option (List ℕ)) (after : List ℕ) → IsAskedRun stop image events old new after →
    IsSoundImage (types_of_image (blocks_in image)) image
asked_sound None image events old new after run = run.sound
asked_sound (Some stop) image events old new after run = run.sound

-- what was run on the world of a sound image was run on that image
pub asked_run : (stop : Option Stop) (image : List ℕ) (from : World) (lines : List (List ℕ)) (old new : Option (List ℕ)) (last after : List ℕ) →
    IsSoundImage (types_of_image (blocks_in image)) image → from ≡ opened_world image → after ≡ last →
    RunsLines lines (λ events. IsAskedOn stop from events old new last) → RunsLines lines (λ events. IsAskedRun stop image events old new after)
asked_run None image from lines old new last after sound opened same run =
    (run.0, run.1, record { sound = sound; run = subst (λ w. IsPrintedRun w run.0 old new after) opened (subst (IsPrintedRun from run.0 old new) (sym same) run.2) })
asked_run (Some stop) image from lines old new last after sound opened same run =
    (run.0, run.1, record { sound = sound; run = subst (λ w. IsStoppedRun w run.0 stop old new after) opened (subst (IsStoppedRun from run.0 stop old new) (sym same) run.2) })

-- what was run on a fresh world
pub printed_run : (from start : World) (lines : List (List ℕ)) (old new : Option (List ℕ)) (last after : List ℕ) → from ≡ start → after ≡ last →
    RunsLines lines (λ events. IsPrintedRun from events old new last) → RunsLines lines (λ events. IsPrintedRun start events old new after)
printed_run from start lines old new last after opened same run =
    (run.0, run.1, subst (λ w. IsPrintedRun w run.0 old new after) opened (subst (IsPrintedRun from run.0 old new) (sym same) run.2))

-- a run that ended well, and the bytes after it
pub ended : {A B E : Type 0} (r : Result A E) (ran : Result B E) (X : Type 0) (P Q : A → Type 0) → OnOk r (IsOk ran) → OnOk ran X → IfOk r P → ((a : A) → X → P a → Q a) → IfOk r Q
ended (Ok a) (Ok b) X P Q good run reached gives = gives a run reached
ended (Ok a) (Err e) X P Q good run reached gives = absurd (false≢true good)
ended (Err e) ran X P Q good run reached gives = tt

pub fault_then : {A E : Type 0} (r : Result A E) (P Q : E → Type 0) → IfErr r P → ((e : E) → P e → Q e) → IfErr r Q
fault_then (Ok a) P Q fault gives = tt
fault_then (Err e) P Q fault gives = gives e fault
