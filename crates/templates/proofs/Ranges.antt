-- Numbers in a row: one more at the end, and what a function gives of them.
use Rattle.std.proofs.Common.{◌≡◌, ℕ, zero, suc, ◌+◌, ◌<◌, ◌≤◌, Bool, true, false, ◌∙◌, ap, sym, refl, [], ◌∷◌, ◌++◌, inl, inr, arith}
use Rattle.std.specs.Prelude.{Option, Some, None, filter_map, find}
use Rattle.std.proofs.lemmas.Bool.{cases_eq, cond-true, cond-false}
use Rattle.std.specs.List.{range_with_len}
use Rattle.std.specs.Option.{option_to_list}
use Rattle.std.proofs.lemmas.List.Elements.{filter_map-append}

pub range-more : (a n : ℕ) → range_with_len a (suc n) ≡ range_with_len a n ++ (a + n) ∷ []
range-more a zero = let e : a ≡ a + 0 = omega arith in ap (λ k. k ∷ []) e
range-more a (suc n) =
    let e : (a + 1) + n ≡ a + suc n = omega arith in
    ap (λ l. a ∷ l) (range-more (a + 1) n ∙ ap (λ k. range_with_len (a + 1) n ++ k ∷ []) e)

module _ {Y : Type 0} (f : ℕ → Option Y) where
  single : (k : ℕ) → filter_map f (k ∷ []) ≡ option_to_list (f k)
  single k = by (f k) refl
    where
      by : (o : Option Y) → f k ≡ o → filter_map f (k ∷ []) ≡ option_to_list (f k)
      by None e = rw e refl
      by (Some y) e = rw e refl

  pub upto-more : (n : ℕ) → filter_map f (range_with_len 0 (suc n)) ≡ filter_map f (range_with_len 0 n) ++ option_to_list (f n)
  upto-more n =
      let z : 0 + n ≡ n = omega arith in
      ap (filter_map f) (range-more 0 n) ∙ (filter_map-append f (range_with_len 0 n) ((0 + n) ∷ [])
      ∙ ap (λ l. filter_map f (range_with_len 0 n) ++ l) (single (0 + n) ∙ ap (λ k. option_to_list (f k)) z))

-- the first number of a range that passes a test, and that none does
pub find-first : (p : ℕ → Bool) (a n i : ℕ) → a ≤ i → i < a + n → p i ≡ true → ((k : ℕ) → a ≤ k → k < i → p k ≡ false) → find p (range_with_len a n) ≡ Some i
find-first p a zero i from below passes fails = absurd (omega arith)
find-first p a (suc n) i from below passes fails = elim (cases_eq i a) [
  | inl e ↦ cond-true (p a) (Some a) (find p (range_with_len (a + 1) n)) (ap p (sym e) ∙ passes) ∙ ap Some (sym e)
  | inr ne ↦
      let lt : a < i = omega (arith, from, ne) in
      cond-false (p a) (Some a) (find p (range_with_len (a + 1) n)) (fails a (omega arith) lt)
      ∙ find-first p (a + 1) n i (omega (arith, lt)) (omega (arith, below)) passes (λ k le. fails k (omega (arith, le)))
]

pub find-none : (p : ℕ → Bool) (a n : ℕ) → ((k : ℕ) → a ≤ k → k < a + n → p k ≡ false) → find p (range_with_len a n) ≡ None
find-none p a zero fails = refl
find-none p a (suc n) fails =
    cond-false (p a) (Some a) (find p (range_with_len (a + 1) n)) (fails a (omega arith) (omega arith))
    ∙ find-none p (a + 1) n (λ k le lt. fails k (omega (arith, le)) (omega (arith, lt)))
