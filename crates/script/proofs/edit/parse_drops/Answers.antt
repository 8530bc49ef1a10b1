use Rattle.script.specs.Edits.{SpellsDrop}
use Rattle.script.proofs.WordLists.{zip_more, zip_all, no_zip}
use Rattle.script.proofs.edit.parse_drops.Goals as goal

pub returns-in_default-clause-none : goal.returns-in_default-clause-none
returns-in_default-clause-none c = no_zip SpellsDrop c.args.words.now c.loop-word.word-index _ c.loop-word-test.true c.in_default.ensures.none

pub loop-word-preserved : goal.loop-word-preserved
loop-word-preserved c =
    zip_more SpellsDrop c.args.words.now c.loop-word.word-index c.loop-word.drops.items c.push.new.self.items c.in-Some.block _ c.loop-word-test.true
    c.in-Some.ensures.some c.in_ok-push.ensures.items c.loop-word.invariant

pub returns-clause-some : goal.returns-clause-some
returns-clause-some c = zip_all SpellsDrop c.args.words.now c.loop-word.word-index c.loop-word.drops.items c.loop-word-test.false c.loop-word.invariant
