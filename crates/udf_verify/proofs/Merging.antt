-- Merging in place, a register at a time.
use Rattle.std.proofs.Common.{◌≡◌, ℕ, zero, suc, ◌+◌, ◌<◌, List, [], ◌∷◌, ◌++◌, length, get_or, set, take, drop, refl, ap, ◌∙◌, arith}
use Rattle.udf_verify.specs.Intervals.{Interval, join, merge}

abbrev pub merged : ℕ → List Interval → List Interval → List Interval
merged r xs ys = merge (take r xs) (take r ys) ++ drop r xs

merged_more : (r : ℕ) (xs ys : List Interval) (d e : Interval) → r < length xs → length xs ≡ length ys → set (merged r xs ys) r (join (get_or (merged r xs ys) r d) (get_or ys r e)) ≡ merged (suc r) xs ys
merged_more r [] ys d e h l = absurd (omega arith)
merged_more r (x ∷ xs) [] d e h l = absurd (omega arith)
merged_more zero (x ∷ xs) (y ∷ ys) d e h l = refl
merged_more (suc r) (x ∷ xs) (y ∷ ys) d e h l = ap (λ m. join x y ∷ m) (merged_more r xs ys d e (omega arith) (omega arith))

pub merged_step : (r : ℕ) (now xs ys : List Interval) (x y v : Interval) → now ≡ merged r xs ys → r < length xs → length xs ≡ length ys → x ≡ get_or now r x → y ≡ get_or ys r y → v ≡ join x y → set now r v ≡ merged (r + 1) xs ys
merged_step r now xs ys x y v e h l p q s =
    let one : suc r ≡ r + 1 = omega arith in
    ap (λ m. set m r v) e
    ∙ ap (λ w. set (merged r xs ys) r w) (s ∙ ap (λ w. join w y) (p ∙ ap (λ m. get_or m r x) e) ∙ ap (λ w. join (get_or (merged r xs ys) r x) w) q)
    ∙ merged_more r xs ys x y h l
    ∙ ap (λ n. merged n xs ys) one
