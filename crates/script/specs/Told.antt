-- Events as lines tell them.
use Rattle.std.specs.Prelude.{ℕ, List, [], None}
use Rattle.xn_model.specs.Calls as model
use Rattle.xn_state.specs.declared.call.Call.TheVariants.{Init, Propose, MakeRoot, DropRoot, Forget, Read, Pending, Floor, Pick, Drain}
use Rattle.xn_state.specs.declared.event.Event.{Event}
use Rattle.xn_state.specs.declared.event.Event.TheVariants as event
use Rattle.script.specs.declared.told.LineEvent.{LineEvent}
use Rattle.script.specs.declared.told.LineEvent.TheVariants as line
use Rattle.script.specs.Hex.{block_with}
use Rattle.script.specs.Events.{Spells}

-- the edit that has these patches, and nothing else
abbrev pub only_patches : List model.Patch → model.Edit
only_patches patches = record { patches = patches; adds = []; drops = []; after = None }

-- the event that a line tells
abbrev pub told_event : LineEvent → Event
told_event (line.Init fs ty bytes) = event.Call fs (Init ty (block_with bytes.items))
told_event (line.Patches fs block patches) = event.Call fs (Propose block (only_patches patches.items))
told_event (line.Edit fs block edit) = event.Call fs (Propose block edit.value)
told_event (line.MakeRoot fs block) = event.Call fs (MakeRoot block)
told_event (line.DropRoot fs) = event.Call fs DropRoot
told_event (line.Forget fs block) = event.Call fs (Forget block)
told_event (line.Read fs block) = event.Call fs (Read block)
told_event (line.Pending fs) = event.Call fs Pending
told_event (line.Floor fs) = event.Call fs Floor
told_event (line.Pick fs) = event.Call fs Pick
told_event (line.Drain fs) = event.Call fs Drain
told_event (line.Install bytes) = event.Install (block_with bytes.items)
told_event (line.Begin block) = event.Begin block
told_event (line.Land block) = event.Land block
told_event (line.Fail block stays) = event.Fail block stays
told_event (line.Sync block) = event.Sync block
told_event (line.FailSync block) = event.FailSync block
told_event (line.Finish block) = event.Finish block
told_event (line.Crash kept) = event.Crash kept

-- The words spell what is told.
abbrev pub SpellsEvent : List (List ℕ) → LineEvent → Type 0
SpellsEvent words told = Spells words (told_event told)
