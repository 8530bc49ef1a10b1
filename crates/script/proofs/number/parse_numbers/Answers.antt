use Rattle.std.proofs.Common.{◌∙◌, arith, rules, sym}
use Rattle.std.proofs.lemmas.Option.{none-some}
use Rattle.script.specs.Numbers.{SpellsNumber}
use Rattle.script.proofs.WordLists.{zip_more, zip_all, no_zip}
use Rattle.script.proofs.number.parse_numbers.Goals as goal

pub returns-in_default-clause-none : goal.returns-in_default-clause-none
returns-in_default-clause-none c = no_zip SpellsNumber c.args.words.now c.loop-word.word-index _ c.loop-word-test.true
    (λ n spells. none-some _ (sym c.in_default.is ∙ c.parse_u32.ensures.readable n (omega (arith, spells.small)) spells.spelled))

pub loop-word-preserved : goal.loop-word-preserved
loop-word-preserved c =
    zip_more SpellsNumber c.args.words.now c.loop-word.word-index c.loop-word.numbers.items c.push.new.self.items c.in-Some.number _ c.loop-word-test.true
    (record { spelled = c.in-Some.ensures.spelled; small = search rules }) c.in_ok-push.ensures.items c.loop-word.invariant

pub returns-clause-some : goal.returns-clause-some
returns-clause-some c = zip_all SpellsNumber c.args.words.now c.loop-word.word-index c.loop-word.numbers.items c.loop-word-test.false c.loop-word.invariant
