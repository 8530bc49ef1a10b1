-- The least place that passes a test.
use Rattle.std.proofs.Common.{◌≡◌, ℕ, ◌<◌, Bool, true, false, cond, List, length, get_or, Some, None, sym, ◌∙◌, ap, arith}
use Rattle.std.specs.Prelude.{nat_lt, position}
use Rattle.std.specs.List.{position_or_len}
use Rattle.std.proofs.lemmas.Bool.{lt-ltb, le-ltb}
use Rattle.std.proofs.lemmas.List.Sums.{position_or_len_is}

pub least_place : {X : Type 0} (p : X → Bool) (xs : List X) (b : ℕ) (d : X) → b < length xs → ((k : ℕ) → k < b → p (get_or xs k d) ≡ false) → p (get_or xs b d) ≡ true → Some b ≡ position p xs
least_place p xs b d within before here =
    let place : position_or_len p xs ≡ b = position_or_len_is p xs b d (omega (arith, within)) before (λ lt. here) in
    let lt = lt-ltb b (length xs) within in
    sym ((λ i. cond (nat_lt (place i) (length xs)) (Some (place i)) None) ∙ ap (λ t. cond t (Some b) None) lt)

pub no_place : {X : Type 0} (p : X → Bool) (xs : List X) (n : ℕ) (d : X) → n ≡ length xs → ((k : ℕ) → k < n → p (get_or xs k d) ≡ false) → None ≡ position p xs
no_place p xs n d all none =
    let place : position_or_len p xs ≡ n = position_or_len_is p xs n d (omega (arith, all)) none (λ lt. absurd (omega (arith, lt, all))) in
    let past = le-ltb n (length xs) (omega (arith, all)) in
    sym ((λ i. cond (nat_lt (place i) (length xs)) (Some (place i)) None) ∙ ap (λ t. cond t (Some n) None) past)
