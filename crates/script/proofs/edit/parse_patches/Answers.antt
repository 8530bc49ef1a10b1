use Rattle.script.specs.Edits.{SpellsPatch}
use Rattle.script.proofs.WordLists.{zip_more, zip_all, no_zip}
use Rattle.script.proofs.edit.parse_patches.Goals as goal

pub returns-in_default-clause-none : goal.returns-in_default-clause-none
returns-in_default-clause-none c = no_zip SpellsPatch c.args.words.now c.loop-word.word-index _ c.loop-word-test.true (rw c.in_default.is at c.in_ok-patch.ensures.none)

pub loop-word-preserved : goal.loop-word-preserved
loop-word-preserved c =
    zip_more SpellsPatch c.args.words.now c.loop-word.word-index c.loop-word.patches.items c.push.new.self.items c.in-Some.patch _ c.loop-word-test.true
    (rw c.in-Some.is at c.in_ok-patch.ensures.some) c.in_ok-push.ensures.items c.loop-word.invariant

pub returns-clause-some : goal.returns-clause-some
returns-clause-some c = zip_all SpellsPatch c.args.words.now c.loop-word.word-index c.loop-word.patches.items c.loop-word-test.false c.loop-word.invariant
