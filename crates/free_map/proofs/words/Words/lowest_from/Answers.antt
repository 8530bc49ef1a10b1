use Rattle.std.proofs.Common.{◌≡◌, ℕ, ◌/◌, ◌<◌, List, length, get_or, ap, subst, arith}
use Rattle.free_map.proofs.BitRows.{later_low, none_later}
use Rattle.free_map.proofs.words.Words.lowest_from.Goals as goal

pub returns-then-index-ne0-clause-some : goal.returns-then-index-ne0-clause-some
returns-then-index-ne0-clause-some c =
    let at = c.args.at in
    let word = c.loop-word.word in
    let later : at / 64 < word = omega (arith, c.loop-word.auto.word) in
    later_low c.args.self.now at word c.lowest_in.result c.in_default.ensures.none later
    (λ v from below. subst (λ (ws : List ℕ). get_or ws v 0 ≡ 0) c.self.view_is (c.loop-word.invariant v from below)) c.lowest_in.ensures

pub returns-clause-none : goal.returns-clause-none
returns-clause-none c =
    let long = ap (λ (ws : List ℕ). length ws) c.self.view_is in
    none_later c.args.self.now c.args.at c.in_default.ensures.none
    (λ v from within.
    let below : v < c.loop-word.word = omega (arith, within, long, c.len-word-end.ensures, c.loop-word-test.false) in
    subst (λ (ws : List ℕ). get_or ws v 0 ≡ 0) c.self.view_is (c.loop-word.invariant v from below))
