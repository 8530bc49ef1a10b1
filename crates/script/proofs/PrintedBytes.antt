-- The length of bytes without the zeros at their end.
use Rattle.std.proofs.Common.{◌≡◌, ℕ, ◌+◌, ◌<◌, Bool, true, false, List, [], ◌∷◌, ◌++◌, length, take, get_or, refl, sym, ◌∙◌, ap, arith}
use Rattle.std.specs.Prelude.{◌==◌, if◌then◌else◌}
use Rattle.std.proofs.lemmas.List.{take_more}
use Rattle.script.specs.Bytes.{used_length}

-- one more byte, at the end
used_push : (xs : List ℕ) (x : ℕ) → used_length (xs ++ x ∷ []) ≡ (if x == 0 then used_length xs else length xs + 1)
used_push [] x = refl
used_push (y ∷ ys) x = by (x == 0) (used_push ys x)
  where
    by : (t : Bool) → used_length (ys ++ x ∷ []) ≡ (if t then used_length ys else length ys + 1) → used_length (y ∷ (ys ++ x ∷ [])) ≡ (if t then used_length (y ∷ ys) else length (y ∷ ys) + 1)
    by true e = ap (λ n. if n == 0 then (if y == 0 then 0 else 1) else n + 1) e
    by false e = ap (λ n. if n == 0 then (if y == 0 then 0 else 1) else n + 1) e ∙ grind arith

pub used_more : (xs : List ℕ) (k x : ℕ) → k < length xs → x ≡ get_or xs k x → (t : Bool) → (x == 0) ≡ t → used_length (take (k + 1) xs) ≡ (if t then used_length (take k xs) else length (take k xs) + 1)
used_more xs k x within here t e =
    ap used_length (take_more xs k x within ∙ ap (λ y. take k xs ++ y ∷ []) (sym here))
    ∙ (used_push (take k xs) x ∙ ap (λ b. if b then used_length (take k xs) else length (take k xs) + 1) e)
