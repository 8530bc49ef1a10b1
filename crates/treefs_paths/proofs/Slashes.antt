-- Bytes at the end of a path, one more of them.
use Rattle.std.proofs.Common.{◌≡◌, ◌∷◌, ◌+◌, ◌<◌, ◌-◌, ℕ, zero, suc, List, All, drop, length, slice_index, subst, sym, arith}
use Rattle.std.proofs.lemmas.List.{drop_more}

all_more : (P : ℕ → Type 0) (byte : ℕ) (bytes : List ℕ) → P byte → All P bytes → All P (byte ∷ bytes)
all_more P byte bytes here rest zero d few = here
all_more P byte bytes here rest (suc k) d few = rest k d (omega (arith, few))

all_from : (P : ℕ → Type 0) (path : List ℕ) (i : ℕ) → i < length path → P (slice_index path i) → All P (drop (i + 1) path) → All P (drop i path)
all_from P path i within here rest = subst (All P) (sym (drop_more path i 0 within)) (all_more P _ _ here rest)

-- of so many bytes at the end, where the one before them has been looked at
pub all_from_end : (P : ℕ → Type 0) (path : List ℕ) (passed : ℕ) → passed < length path → P (slice_index path (length path - passed - 1)) →
    All P (drop (length path - passed) path) → All P (drop (length path - (passed + 1)) path)
all_from_end P path passed few here rest =
    let i = length path - (passed + 1) in
    let next : i + 1 ≡ length path - passed = omega arith in
    let at : length path - passed - 1 ≡ i = omega arith in
    all_from P path i (omega arith) (subst (λ k. P (slice_index path k)) at here) (subst (λ k. All P (drop k path)) (sym next) rest)
