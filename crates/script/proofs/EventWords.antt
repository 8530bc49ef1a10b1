-- Words that spell no event.
use Rattle.std.proofs.Common.{ℕ, List, [], ◌∷◌, drop, get_or, codes, arith, ap, subst, sym}
use Rattle.xn_model.specs.Calls as model
use Rattle.xn_state.specs.declared.call.Call.{Call}
use Rattle.xn_state.specs.declared.call.Call.TheVariants.{Init, Propose, MakeRoot, DropRoot, Forget, Read, Root, Kind, Tainted, Pending, Floor, Free, Pick, Drain}
use Rattle.xn_state.specs.declared.event.Event.TheVariants as event
use Rattle.script.specs.Edits.{SpellsEdit}
use Rattle.script.specs.Events.{SpellsCall, SpellNothing}

-- the first byte of the first word
first_byte : List (List ℕ) → ℕ
first_byte words = get_or (get_or words 0 []) 0 0

-- the words behind `edit` and the two words after it spell no edit
no_call : (fs block : List ℕ) (words : List (List ℕ)) → ((edit : model.Edit) → SpellsEdit words edit → ⊥) → (f : ℕ) (call : Call) → SpellsCall (codes "edit" ∷ fs ∷ block ∷ words) f call → ⊥
unfolding first_byte
no_call fs block words none f (Init ty bytes) spells = absurd (omega (arith, ap first_byte spells.2))
no_call fs block words none f (Propose b edit) spells = none edit (subst (λ ws. SpellsEdit ws edit) (sym (ap (drop 3) spells.2)) spells.4)
no_call fs block words none f (MakeRoot b) spells = absurd (omega (arith, ap first_byte spells.1))
no_call fs block words none f DropRoot spells = absurd (omega (arith, ap first_byte spells))
no_call fs block words none f (Forget b) spells = absurd (omega (arith, ap first_byte spells.1))
no_call fs block words none f (Read b) spells = absurd (omega (arith, ap first_byte spells.1))
no_call fs block words none f Root spells = spells
no_call fs block words none f (Kind b) spells = spells
no_call fs block words none f (Tainted b) spells = spells
no_call fs block words none f Pending spells = absurd (omega (arith, ap first_byte spells))
no_call fs block words none f Floor spells = absurd (omega (arith, ap first_byte spells))
no_call fs block words none f Free spells = spells
no_call fs block words none f Pick spells = absurd (omega (arith, ap first_byte spells.0))
no_call fs block words none f Drain spells = absurd (omega (arith, ap first_byte spells.0))

pub no_edit : (fs block : List ℕ) (words : List (List ℕ)) → ((edit : model.Edit) → SpellsEdit words edit → ⊥) → SpellNothing (codes "edit" ∷ fs ∷ block ∷ words)
unfolding first_byte
no_edit fs block words none (event.Call f call) spells = no_call fs block words none f.number call spells
no_edit fs block words none (event.Install bytes) spells = absurd (omega (arith, ap first_byte spells.1))
no_edit fs block words none (event.Begin b) spells = absurd (omega (arith, ap first_byte spells.1))
no_edit fs block words none (event.Land b) spells = absurd (omega (arith, ap first_byte spells.1))
no_edit fs block words none (event.Fail b stays) spells = absurd (omega (arith, ap first_byte spells.1))
no_edit fs block words none (event.Sync b) spells = absurd (omega (arith, ap first_byte spells.1))
no_edit fs block words none (event.FailSync b) spells = absurd (omega (arith, ap first_byte spells.1))
no_edit fs block words none (event.Finish b) spells = absurd (omega (arith, ap first_byte spells.1))
no_edit fs block words none (event.Crash kept) spells = absurd (omega (arith, ap first_byte spells.1))
