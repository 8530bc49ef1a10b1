use Rattle.std.proofs.Common.{◌≡◌, ◌∙◌, ◌<◌, List, ℕ, ap, arith, get_or, rules, subst, sym}
use Rattle.std.proofs.lemmas.List.{get_or_default}
use Rattle.free_map.proofs.BitRows.{lowest_in_word}
use Rattle.free_map.proofs.words.Words.lowest_in.Goals as goal

pub returns : goal.returns
returns c =
    let n = c.index.result.now in
    let is : n ≡ get_or c.args.self.now c.args.at 0 = (c.index.ensures ∙ ap (λ (ws : List ℕ). get_or ws c.args.at n) c.self.view_is) ∙ get_or_default c.args.self.now c.args.at n 0 c.requires.within in
    let some : 0 < n = omega (arith, is, c.requires.some) in
    search (rules, lowest_in_word c.args.self.now c.args.at n, is, some)
