-- A loop that looks for a byte that is not 0.
use Rattle.std.proofs.Common.{◌≡◌, ◌∙◌, ℕ, zero, suc, ◌+◌, ◌<◌, ◌≤◌, Bool, true, false, ◌&&◌, ◌==◌, List, length, drop, get_or, refl, ap, sym, arith}
use Rattle.std.specs.Int.RustNames.{bit_or}
use Rattle.std.specs.List.{slice_range}
use Rattle.std.proofs.lemmas.Bool.{ne_eqb}
use Rattle.std.proofs.lemmas.List.{at_drop_more, at_drop_all}
use Rattle.std.proofs.lemmas.List.Folds.{drop_split, list_all-append}
use Rattle.std.proofs.lemmas.Nat.{le_or_l, le_or_r}
use Rattle.xn_model.specs.Lists.{blank}

-- an `or` is 0 where both numbers are
or-zero : (a b : ℕ) → (bit_or a b == 0) ≡ ((a == 0) && (b == 0))
or-zero zero zero = refl
or-zero zero (suc b) = ne_eqb (bit_or 0 (suc b)) 0 (λ e. let le = le_or_r 0 (suc b) in absurd (omega arith)) ∙ sym (ne_eqb (suc b) 0 (λ e. absurd (omega arith)))
or-zero (suc a) b = ne_eqb (bit_or (suc a) b) 0 (λ e. let le = le_or_l (suc a) b in absurd (omega arith)) ∙ ap (λ q. q && (b == 0)) (sym (ne_eqb (suc a) 0 (λ e. absurd (omega arith))))

and-more : (b p q : Bool) → (b && (p && q)) ≡ ((b && p) && q)
and-more true p q = refl
and-more false p q = refl

and-true : (b : Bool) → (b && true) ≡ b
and-true true = refl
and-true false = refl

module _ (bytes : List ℕ) (i n : ℕ) where
  pub blank-more : (d : ℕ) → i < length bytes → ((n == 0) && blank (drop i bytes)) ≡ ((bit_or n (get_or bytes i d) == 0) && blank (drop (i + 1) bytes))
  blank-more d lt = ap (λ r. (n == 0) && r) (at_drop_more blank bytes i d lt) ∙ and-more (n == 0) (get_or bytes i d == 0) (blank (drop (i + 1) bytes))
      ∙ ap (λ b. b && blank (drop (i + 1) bytes)) (sym (or-zero n (get_or bytes i d)))

  pub blank-end : length bytes ≤ i → ((n == 0) && blank (drop i bytes)) ≡ (n == 0)
  blank-end le = ap (λ r. (n == 0) && r) (at_drop_all blank bytes i le) ∙ and-true (n == 0)

-- two parts that have bytes in common, and together are the rest
module _ (m : List ℕ) (from mid : ℕ) (le : from ≤ mid) where
  either : (x a b c : Bool) → (x && c) ≡ (a && (b && c)) → (x && (b && c)) ≡ (x && c)
  either x a true c h = refl
  either false a false c h = refl
  either true false false c h = sym h
  either true true false c h = sym h

  split : (at end : ℕ) → at ≤ end → blank (drop at m) ≡ (blank (slice_range m at end) && blank (drop end m))
  split at end le = ap blank (drop_split m at end le) ∙ list_all-append (λ x. x == 0) (slice_range m at end) (drop end m)

  pub blank-halves : (blank (slice_range m from (from + mid)) && blank (drop mid m)) ≡ blank (drop from m)
  blank-halves =
      let whole = split from (from + mid) (omega arith) in
      let back = split mid (from + mid) (omega arith) in
      let front = split from mid le in
      let x = blank (slice_range m from (from + mid)) in
      let c = blank (drop (from + mid) m) in
      ap (λ q. x && q) back
      ∙ either x (blank (slice_range m from mid)) (blank (slice_range m mid (from + mid))) c (sym whole ∙ front ∙ ap (λ q. blank (slice_range m from mid) && q) back)
      ∙ sym whole
