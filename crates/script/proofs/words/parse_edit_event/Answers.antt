use Rattle.std.proofs.Common.{rules, ◌∷◌, map, codes}
use Rattle.xn_state.specs.declared.call.Call.TheVariants.{Propose}
use Rattle.xn_state.specs.declared.event.Event.TheVariants as event
use Rattle.script.specs.Events.{Spells}
use Rattle.script.proofs.EventWords.{no_edit}
use Rattle.script.proofs.words.parse_edit_event.Goals as goal

pub returns-in_default-2-clause-none : goal.returns-in_default-2-clause-none
returns-in_default-2-clause-none c = no_edit c.args.fs.now c.args.block.now _ (rw c.in_default-2.is at c.in_ok-edit.ensures.none)

pub returns-clause-some : goal.returns-clause-some
returns-clause-some c =
    let words = codes "edit" ∷ c.args.fs.now ∷ c.args.block.now ∷ map (λ word. word.now) c.args.words.now in
    let spells : Spells words (event.Call c.in-Some-Some.fs (Propose c.in-Some-Some.block c.in-Some.edit)) = search rules in
    c.in_ok-tell_edit.ensures _ spells
