use Rattle.std.proofs.Common.{◌≡◌, ◌∙◌, ◌≤◌, ℕ, true, ap, arith, subst, sym}
use Rattle.std.specs.Prelude.{slice_index}
use Rattle.xn_model.specs.Lives.{life_at}
use Rattle.dependencies.specs.Index.{IsIndex}
use Rattle.dependencies.specs.Oldest.{pends_for}
use Rattle.dependencies.proofs.OldestEntries.{oldest_is_least}
use Rattle.dependencies.proofs.index.Index.least_pending.Goals as goal

pub returns-in-Some : goal.returns-in-Some
returns-in-Some c =
    let cache = c.args.cache.now in
    let mine = subst (IsIndex cache) (sym c.self.view_is) c.requires in
    let fs = c.args.fs.number in
    let place = c.index.result in
    let at = ap (slice_index c.self.inside.oldest) c.index.ensures.value in
    let none_below = λ (n b : ℕ) (here : pends_for fs n (life_at cache b) ≡ true). let le = mine.oldest fs n b (omega arith) here in let P : ℕ → Type 0 = λ x. x ≤ n in subst P (sym at) le in
    c.min.ensures ∙ oldest_is_least fs c.args.most (slice_index c.self.inside.oldest place) c.in-Some._block cache none_below c.in-Some.ensures.some
