-- Parts of the list of named blocks.
use Rattle.std.proofs.Common.{◌≡◌, ℕ, zero, suc, ◌+◌, ◌-◌, ◌≤◌, List, [], ◌∷◌, ◌++◌, take, drop, Some, sym, ◌∙◌, ap, arith, slice_get}
use Rattle.std.proofs.lemmas.Option.{none-some, same_Some}
use Rattle.std.proofs.lemmas.List.{take-append-drop, take-take, drop-take, drop-drop}
use Rattle.crash_check.specs.Parts.{part}

pub part_cut : {A : Type 0} (xs : List A) (from cut to : ℕ) → from ≤ cut → cut ≤ to → part xs from cut ++ part xs cut to ≡ part xs from to
part_cut xs from cut to low high =
    let ys = drop from xs in
    let a : ℕ = cut - from in
    let b : ℕ = to - cut in
    let sum : to - from ≡ a + b = omega arith in
    let at : from + a ≡ cut = omega arith in
    sym (ap (λ n. take n ys) sum
    ∙ (sym (take-append-drop a (take (a + b) ys))
    ∙ (λ i. take-take a (a + b) ys (omega arith) i ++ (drop-take a b ys ∙ ap (take b) (drop-drop a from xs ∙ ap (λ k. drop k xs) at)) i)))

-- a part with one more
pub part_one : {X : Type 0} (xs : List X) (from k : ℕ) (x : X) → from ≤ k → slice_get xs k ≡ Some x → part xs from k ++ x ∷ [] ≡ part xs from (k + 1)
part_one {X} xs from k x low here = ap (λ l. part xs from k ++ l) (sym (single xs k x here)) ∙ part_cut xs from k (k + 1) low (omega arith)
  where
    single : (zs : List X) (n : ℕ) (z : X) → slice_get zs n ≡ Some z → part zs n (n + 1) ≡ z ∷ []
    single [] n z e = absurd (none-some z e)
    single (y ∷ ys) zero z e = ap (λ w. w ∷ []) (same_Some y z e)
    single (y ∷ ys) (suc n) z e =
        let less : suc n + 1 - suc n ≡ n + 1 - n = omega arith in
        ap (λ m. take m (drop n ys)) less ∙ single ys n z e
