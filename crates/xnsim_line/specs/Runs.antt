-- Runs of scripts.
use Rattle.std.specs.Prelude.{◌≡◌, ℕ, List, map, Option}
use Rattle.std.specs.List.{flat_map}
use Rattle.std.specs.Io.KnownBytes.{Appends}
use Rattle.xn_model.specs.Worlds.{World, Run, Step}
use Rattle.xn_model.specs.BareDisks.{mounted_disk}
use Rattle.xn_model.specs.Images.{blocks_in, joined}
use Rattle.image_model.specs.Report.{IsSoundImage}
use Rattle.templates.specs.Templates.{TemplateValue}
use Rattle.templates.specs.Formats.{formatted}
use Rattle.templates.specs.Language.{language, types_of_image}
use Rattle.xn_state.specs.declared.reply.Reply.{Reply}
use Rattle.xn_state.specs.declared.event.Event.{Event}
use Rattle.xn_state.specs.Events.{event_of, reply_of}
use Rattle.script.specs.Replies.{reply_line}
use Rattle.script.specs.Scripts.{AllSpell, LineSpells}

-- the first mount of a fresh disk of so many blocks with these templates
abbrev pub fresh_world : ℕ → List TemplateValue → World
fresh_world blocks templates = mounted_disk language (formatted blocks templates)

-- the first mount of an image's disk
abbrev pub opened_world : List ℕ → World
opened_world image = mounted_disk language (blocks_in image)

-- from this world on the events have these replies in the model, and leave that world
abbrev pub IsRun : World → List Event → List Reply → World → Type 0
IsRun from events replies after = Run from (map event_of events) (map reply_of replies) after

-- what was printed and what is on the disk after such a run
pub record IsPrintedRun (from : World) (events : List Event) (old new : Option (List ℕ)) (image : List ℕ) : Type 0 where
  pub replies : List Reply
  pub after : World
  pub run : IsRun from events replies after
  pub printed : Appends old new (flat_map reply_line replies)
  pub left : image ≡ joined after.image

-- such a run on the disk of an image, which is sound
pub record IsMountedRun (image : List ℕ) (events : List Event) (old new : Option (List ℕ)) (after : List ℕ) : Type 0 where
  pub sound : IsSoundImage (types_of_image (blocks_in image)) image
  pub run : IsPrintedRun (opened_world image) events old new after

-- a line spells an event, which was run on this world and its reply printed, and the world is then that
pub record IsRunLine (from : World) (line : List ℕ) (old new : Option (List ℕ)) (after : World) : Type 0 where
  pub event : Event
  pub spells : LineSpells line event
  pub reply : Reply
  pub step : Step from (event_of event) (reply_of reply) after
  pub printed : Appends old new (reply_line reply)

-- these lines spell events of which this holds
abbrev pub RunsLines : List (List ℕ) → (List Event → Type 0) → Type 0
RunsLines lines Ran = (events : List Event) × AllSpell lines events × Ran events
