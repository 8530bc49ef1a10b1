use Rattle.std.proofs.Common.{◌∙◌, arith, rules, subst}
use Rattle.free_map.specs.Bits.{HasNone}
use Rattle.free_map.proofs.BitRows.{lowest_in_first, none_of}
use Rattle.free_map.proofs.words.Words.lowest.Goals as goal

pub returns-then-word-ne0-clause-some : goal.returns-then-word-ne0-clause-some
returns-then-word-ne0-clause-some c = search (rules, lowest_in_first c.deref-word-items.result.now c.loop-at.at, c.loop-at.invariant, c.deref-word-items.ensures.value, c.self.view_is)

pub returns-clause-none : goal.returns-clause-none
returns-clause-none c =
    let none = none_of c.deref-word-items.result.now (λ w lt. c.loop-at.invariant w (omega (arith, lt, c.loop-at-test.false))) in
    subst HasNone (c.deref-word-items.ensures.value ∙ c.self.view_is) none
