-- Widening in place, a register at a time.
use Rattle.std.proofs.Common.{◌≡◌, ℕ, zero, suc, ◌+◌, ◌<◌, Bool, true, false, cond, List, [], ◌∷◌, ◌++◌, length, set, take, drop, refl, sym, ap, ◌∙◌, arith}
use Rattle.udf_verify.specs.Intervals.{Interval, full, widen}

abbrev pub widened : (ℕ → Bool) → ℕ → ℕ → List Interval → List Interval
widened w s r xs = widen w s (take r xs) ++ drop r xs

widened_more : (w : ℕ → Bool) (s r : ℕ) (xs : List Interval) (b : Bool) → r < length xs → w (s + r) ≡ b → cond b (set (widened w s r xs) r full) (widened w s r xs) ≡ widened w s (suc r) xs
widened_more w s r [] b h e = absurd (omega arith)
widened_more w s zero (x ∷ xs) true h e = let z : s + 0 ≡ s = omega arith in ap (λ t. cond t full x ∷ xs) (sym (ap w (sym z) ∙ e))
widened_more w s zero (x ∷ xs) false h e = let z : s + 0 ≡ s = omega arith in ap (λ t. cond t full x ∷ xs) (sym (ap w (sym z) ∙ e))
widened_more w s (suc r) (x ∷ xs) true h e =
    let z : s + suc r ≡ s + 1 + r = omega arith in
    ap (λ m. cond (w s) full x ∷ m) (widened_more w (s + 1) r xs true (omega arith) (ap w (sym z) ∙ e))
widened_more w s (suc r) (x ∷ xs) false h e =
    let z : s + suc r ≡ s + 1 + r = omega arith in
    ap (λ m. cond (w s) full x ∷ m) (widened_more w (s + 1) r xs false (omega arith) (ap w (sym z) ∙ e))

pub widened_step : (w : ℕ → Bool) (r : ℕ) (now xs : List Interval) (b : Bool) → now ≡ widened w 0 r xs → r < length xs → w r ≡ b → cond b (set now r full) now ≡ widened w 0 (r + 1) xs
widened_step w r now xs b e h p =
    let one : suc r ≡ r + 1 = omega arith in
    let z : 0 + r ≡ r = omega arith in
    ap (λ m. cond b (set m r full) m) e ∙ widened_more w 0 r xs b h (ap w z ∙ p) ∙ ap (λ n. widened w 0 n xs) one

-- two tests that agree below the number of registers widen alike
pub widen_same : (v w : ℕ → Bool) (s : ℕ) (xs : List Interval) → ((r : ℕ) → r < s + length xs → v r ≡ w r) → widen v s xs ≡ widen w s xs
widen_same v w s [] h = refl
widen_same v w s (x ∷ xs) h =
    ap (λ b. cond b full x ∷ widen v (s + 1) xs) (h s (omega arith)) ∙ ap (λ m. cond (w s) full x ∷ m) (widen_same v w (s + 1) xs (λ r l. h r (omega arith)))
