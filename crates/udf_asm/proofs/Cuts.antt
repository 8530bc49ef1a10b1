-- The parts of a list that is cut at the first element that passes a test.
use Rattle.std.proofs.Common.{◌≡◌, ℕ, ◌+◌, ◌-◌, ◌<◌, ◌≤◌, Bool, true, false, cond, List, [], ◌∷◌, length, take, drop, refl, sym, ap, ◌∙◌, arith}
use Rattle.std.specs.Prelude.{Some, None, nat_lt}
use Rattle.std.specs.List.{slice_split, position, position_or_len}
use Rattle.std.proofs.lemmas.Bool.{ltb-true, ltb-false}
use Rattle.std.proofs.lemmas.List.{take_rest}
use Rattle.std.proofs.lemmas.List.Elements.{All-from_get_or}
use Rattle.std.proofs.lemmas.List.Splits.{slice_split_first, slice_split_none}
use Rattle.std.proofs.lemmas.List.Sums.{fails_before_first}

found : (p : ℕ → Bool) (xs : List ℕ) (end : ℕ) → position p xs ≡ Some end → (position_or_len p xs ≡ end) × (position_or_len p xs < length xs)
found p xs end h = by_test (nat_lt (position_or_len p xs) (length xs)) refl h
  where
    by_test : (t : Bool) → nat_lt (position_or_len p xs) (length xs) ≡ t → cond t (Some (position_or_len p xs)) None ≡ Some end → (position_or_len p xs ≡ end) × (position_or_len p xs < length xs)
    by_test true e g = (cc, ltb-true _ _ e)
    by_test false e g = absurd (cc)

not_found : (p : ℕ → Bool) (xs : List ℕ) → position p xs ≡ None → length xs ≤ position_or_len p xs
not_found p xs h = by_test (nat_lt (position_or_len p xs) (length xs)) refl h
  where
    by_test : (t : Bool) → nat_lt (position_or_len p xs) (length xs) ≡ t → cond t (Some (position_or_len p xs)) None ≡ None → length xs ≤ position_or_len p xs
    by_test true e g = absurd (cc)
    by_test false e g = ltb-false _ _ e

pub slice_split-found : (p : ℕ → Bool) (xs : List ℕ) (end : ℕ) → position p xs ≡ Some end → slice_split p xs ≡ take end xs ∷ slice_split p (take (length xs - (end + 1)) (drop (end + 1) xs))
slice_split-found p xs end h =
    let f = found p xs end h in
    slice_split_first p xs 0 f.1 ∙ ap (λ n. take n xs ∷ slice_split p (drop (n + 1) xs)) f.0
    ∙ ap (λ rest. take end xs ∷ slice_split p rest) (sym (take_rest xs (end + 1)))

pub slice_split-not_found : (p : ℕ → Bool) (xs : List ℕ) → position p xs ≡ None → slice_split p xs ≡ xs ∷ []
slice_split-not_found p xs h =
    let n = not_found p xs h in
    slice_split_none p xs (All-from_get_or (λ x. p x ≡ false) xs 0 (λ k g. fails_before_first p xs k 0 (omega arith)))
