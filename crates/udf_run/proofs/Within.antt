-- Numbers in their intervals.
use Rattle.std.proofs.Common.{◌≡◌, ◌≢◌, ℕ, zero, suc, ◌+◌, ◌-◌, ◌/◌, ◌<◌, ◌≤◌, ◌^◌, Bool, true, false, cond, eqb, List, [], ◌∷◌, length, get_or, set, refl, sym, ap, ◌∙◌, subst, arith, ⊎_elim}
use Rattle.std.specs.Prelude.{slice_index}
use Rattle.std.proofs.Math.Nat.{div-mul-le_self, mul-le-mul_left}
use Rattle.std.proofs.lemmas.Nat.{le-div}
use Rattle.std.proofs.lemmas.Bool.{eqb-false, ltb-true, ltb-false}
use Rattle.std.proofs.lemmas.Bool.Decides.{eqb_tells, nat_tests}
use Rattle.udf_code.specs.Tree.{Test, Less, Equal}
use Rattle.udf_verify.specs.Intervals.{Interval}
use Rattle.udf_verify.specs.Intervals.{between, full, interval_of, IsIn, Within, join, merge, widen, without_end, apart, first_a, first_b, other_a, other_b}
use Rattle.udf_verify.specs.Bounds.{with_two}
use Rattle.udf_run.specs.Meaning.{holds}

-- each register holds a number of 32 bits
abbrev pub Fits : List ℕ → Type 0
Fits xs = (r : ℕ) → slice_index xs r < 2 ^ 32

-- the same as Within, but for one register
abbrev pub WithinBut : ℕ → List ℕ → List Interval → Type 0
WithinBut a xs is = (r : ℕ) → r ≢ a → IsIn (slice_index xs r) (interval_of is r)

in_zero : IsIn 0 (between 0 0)
in_zero = record { above = omega arith; below = omega arith }

pub within_set_but : (xs : List ℕ) (is : List Interval) (a v : ℕ) (i : Interval) → length xs ≡ length is → WithinBut a xs is → IsIn v i → Within (set xs a v) (set is a i)
within_set_but [] [] a v i e h p r = in_zero
within_set_but [] (j ∷ is) a v i e h p r = absurd (omega arith)
within_set_but (x ∷ xs) [] a v i e h p r = absurd (omega arith)
within_set_but (x ∷ xs) (j ∷ is) zero v i e h p zero = p
within_set_but (x ∷ xs) (j ∷ is) zero v i e h p (suc r) = h (suc r) (omega arith)
within_set_but (x ∷ xs) (j ∷ is) (suc a) v i e h p zero = h zero (omega arith)
within_set_but (x ∷ xs) (j ∷ is) (suc a) v i e h p (suc r) =
    within_set_but xs is a v i (omega arith) (λ s ne. h (suc s) (omega arith)) p r

pub within_set : (xs : List ℕ) (is : List Interval) (a v : ℕ) (i : Interval) → length xs ≡ length is → Within xs is → IsIn v i → Within (set xs a v) (set is a i)
within_set xs is a v i e h p = within_set_but xs is a v i e (λ r ne. h r) p

-- a register's interval becomes another that its number is in
pub within_narrow : (xs : List ℕ) (is : List Interval) (a : ℕ) (i : Interval) → Within xs is → IsIn (get_or xs a 0) i → Within xs (set is a i)
within_narrow xs [] a i h p r = h r
within_narrow [] (j ∷ is) zero i h p zero = p
within_narrow [] (j ∷ is) zero i h p (suc r) = h (suc r)
within_narrow [] (j ∷ is) (suc a) i h p zero = h zero
within_narrow [] (j ∷ is) (suc a) i h p (suc r) = within_narrow [] is a i (λ s. h (suc s)) p r
within_narrow (x ∷ xs) (j ∷ is) zero i h p zero = p
within_narrow (x ∷ xs) (j ∷ is) zero i h p (suc r) = h (suc r)
within_narrow (x ∷ xs) (j ∷ is) (suc a) i h p zero = h zero
within_narrow (x ∷ xs) (j ∷ is) (suc a) i h p (suc r) = within_narrow xs is a i (λ s. h (suc s)) p r

pub fits_set : (xs : List ℕ) (a v : ℕ) → Fits xs → v < 2 ^ 32 → Fits (set xs a v)
fits_set [] a v h p r = h r
fits_set (x ∷ xs) zero v h p zero = p
fits_set (x ∷ xs) zero v h p (suc r) = h (suc r)
fits_set (x ∷ xs) (suc a) v h p zero = h zero
fits_set (x ∷ xs) (suc a) v h p (suc r) = fits_set xs a v (λ s. h (suc s)) p r

-- the hull of two intervals holds the numbers of each
pub in_join_left : (x : ℕ) (i j : Interval) → IsIn x i → IsIn x (join i j)
in_join_left x i j h = record { above = omega arith; below = omega arith }

pub in_join_right : (x : ℕ) (i j : Interval) → IsIn x j → IsIn x (join i j)
in_join_right x i j h = record { above = omega arith; below = omega arith }

pub interval_of-merge : (is js : List Interval) (r : ℕ) → length is ≡ length js → interval_of (merge is js) r ≡ join (interval_of is r) (interval_of js r)
interval_of-merge [] [] r e = refl
interval_of-merge [] (j ∷ js) r e = absurd (omega arith)
interval_of-merge (i ∷ is) [] r e = absurd (omega arith)
interval_of-merge (i ∷ is) (j ∷ js) zero e = refl
interval_of-merge (i ∷ is) (j ∷ js) (suc r) e = interval_of-merge is js r (omega arith)

pub within_merge_left : (xs : List ℕ) (is js : List Interval) → length is ≡ length js → Within xs is → Within xs (merge is js)
within_merge_left xs is js e h r = subst (λ i. IsIn (slice_index xs r) i) (sym (interval_of-merge is js r e)) (in_join_left _ _ _ (h r))

pub within_merge_right : (xs : List ℕ) (is js : List Interval) → length is ≡ length js → Within xs js → Within xs (merge is js)
within_merge_right xs is js e h r = subst (λ i. IsIn (slice_index xs r) i) (sym (interval_of-merge is js r e)) (in_join_right _ _ _ (h r))

in_full : (x : ℕ) → x < 2 ^ 32 → IsIn x full
in_full x h = record { above = omega arith; below = omega arith }

in_widened : (w : Bool) (x : ℕ) (i : Interval) → x < 2 ^ 32 → (w ≡ false → IsIn x i) → IsIn x (cond w full i)
in_widened true x i f h = in_full x f
in_widened false x i f h = h refl

-- what is not written is in its interval, so each is in its interval after the widening, among the registers where P holds
pub within_widen : (P : ℕ → Type 0) (w : ℕ → Bool) (s : ℕ) (xs : List ℕ) (is : List Interval) → Fits xs → length xs ≡ length is → ((r : ℕ) → P r → w (s + r) ≡ false → IsIn (get_or xs r 0) (interval_of is r)) → (r : ℕ) → P r → IsIn (get_or xs r 0) (interval_of (widen w s is) r)
within_widen P w s [] [] f e h r p = in_zero
within_widen P w s [] (i ∷ is) f e h r p = absurd (omega arith)
within_widen P w s (x ∷ xs) [] f e h r p = absurd (omega arith)
within_widen P w s (x ∷ xs) (i ∷ is) f e h zero p =
    let at : s ≡ s + 0 = omega arith in
    in_widened (w s) x i (f zero) (λ q. h zero p (ap w (sym at) ∙ q))
within_widen P w s (x ∷ xs) (i ∷ is) f e h (suc r) p =
    within_widen (λ q. P (suc q)) w (s + 1) xs is (λ q. f (suc q)) (omega arith) (λ q pq u. let at : s + suc q ≡ s + 1 + q = omega arith in h (suc q) pq (ap w at ∙ u)) r p

-- one interval becomes another that the number there is in
pub in_set : (is : List Interval) (k : ℕ) (i : Interval) (r x : ℕ) → IsIn x (interval_of is r) → (r ≡ k → IsIn x i) → IsIn x (interval_of (set is k i) r)
in_set [] k i r x h p = h
in_set (j ∷ is) zero i zero x h p = p refl
in_set (j ∷ is) zero i (suc r) x h p = h
in_set (j ∷ is) (suc k) i zero x h p = h
in_set (j ∷ is) (suc k) i (suc r) x h p = in_set is k i r x h (λ e. p (ap suc e))

-- division is monotone
pub div_mono : (x y k l : ℕ) → x ≤ y → l ≤ k → 0 < l → x / k ≤ y / l
div_mono x y k l h g p = le-div (x / k) y l p (omega (arith, mul-le-mul_left (x / k) g, div-mul-le_self x k))

-- a test that holds tells where the numbers are
in_first_a : (test : Test) (x y : ℕ) (i j : Interval) → holds test x y ≡ true → IsIn x i → IsIn y j → IsIn x (first_a test i j)
in_first_a Less x y i j t p q = record { above = p.above; below = let h = ltb-true x y t in omega arith }
in_first_a Equal x y i j t p q = record { above = grind (arith, nat_tests); below = grind (arith, nat_tests) }

in_first_b : (test : Test) (x y : ℕ) (i j : Interval) → holds test x y ≡ true → IsIn x i → IsIn y j → IsIn y (first_b test i j)
in_first_b Less x y i j t p q = record { above = let h = ltb-true x y t in omega arith; below = q.below }
in_first_b Equal x y i j t p q = record { above = grind (arith, nat_tests); below = grind (arith, nat_tests) }

in_without : (v x : ℕ) (i : Interval) → x ≢ v → IsIn x i → IsIn x (without_end v i)
in_without v x i ne p =
    ⊎_elim (λ l. subst (λ b. IsIn x (cond b (between (v + 1) i.high) (cond (eqb i.high v) (between i.low (v - 1)) i))) (sym l.0) (record { above = omega arith; below = p.below }))
    (λ l. subst (λ b. IsIn x (cond b (between (v + 1) i.high) (cond (eqb i.high v) (between i.low (v - 1)) i))) (sym l.0)
    (⊎_elim (λ k. subst (λ b. IsIn x (cond b (between i.low (v - 1)) i)) (sym k.0) (record { above = p.above; below = omega arith }))
    (λ k. subst (λ b. IsIn x (cond b (between i.low (v - 1)) i)) (sym k.0) p)
    (eqb_tells i.high v)))
    (eqb_tells i.low v)

in_apart : (x y : ℕ) (i j : Interval) → x ≢ y → IsIn x i → IsIn y j → IsIn x (apart i j)
in_apart x y i j ne p q =
    ⊎_elim (λ l. subst (λ b. IsIn x (cond b (without_end j.low i) i)) (sym l.0) (in_without j.low x i (omega arith) p))
    (λ l. subst (λ b. IsIn x (cond b (without_end j.low i) i)) (sym l.0) p)
    (eqb_tells j.low j.high)

in_other_a : (test : Test) (x y : ℕ) (i j : Interval) → holds test x y ≡ false → IsIn x i → IsIn y j → IsIn x (other_a test i j)
in_other_a Less x y i j t p q = record { above = let h = ltb-false x y t in omega arith; below = p.below }
in_other_a Equal x y i j t p q = in_apart x y i j (eqb-false x y t) p q

in_other_b : (test : Test) (x y : ℕ) (i j : Interval) → holds test x y ≡ false → IsIn x i → IsIn y j → IsIn y (other_b test i j)
in_other_b Less x y i j t p q = record { above = q.above; below = let h = ltb-false x y t in omega arith }
in_other_b Equal x y i j t p q = in_apart y x j i (λ e. eqb-false x y t (sym e)) q p

within_two : (xs : List ℕ) (is : List Interval) (a b : ℕ) (i j : Interval) → Within xs is → IsIn (get_or xs a 0) i → IsIn (get_or xs b 0) j → Within xs (with_two is a i b j)
within_two xs is a b i j h p q = within_narrow xs (set is a i) b j (within_narrow xs is a i h p) q

pub within_first : (test : Test) (xs : List ℕ) (is : List Interval) (a b : ℕ) → Within xs is → holds test (get_or xs a 0) (get_or xs b 0) ≡ true → Within xs (with_two is a (first_a test (interval_of is a) (interval_of is b)) b (first_b test (interval_of is a) (interval_of is b)))
within_first test xs is a b h t = within_two xs is a b _ _ h (in_first_a test _ _ _ _ t (h a) (h b)) (in_first_b test _ _ _ _ t (h a) (h b))

pub within_other : (test : Test) (xs : List ℕ) (is : List Interval) (a b : ℕ) → Within xs is → holds test (get_or xs a 0) (get_or xs b 0) ≡ false → Within xs (with_two is a (other_a test (interval_of is a) (interval_of is b)) b (other_b test (interval_of is a) (interval_of is b)))
within_other test xs is a b h t = within_two xs is a b _ _ h (in_other_a test _ _ _ _ t (h a) (h b)) (in_other_b test _ _ _ _ t (h a) (h b))
