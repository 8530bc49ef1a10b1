use Rattle.std.proofs.Common.{◌≡◌, ◌≢◌, ℕ, zero, suc, ◌<◌, List, [], ◌∷◌, ◌++◌, length, Some, refl, slice_get, slice_set, arith}
use Rattle.std.proofs.lemmas.Option.{gets}
use Rattle.std.proofs.lemmas.Grind.{common_steps}

pub slice_get-set_same : {X : Type 0} (xs : List X) (i : ℕ) (v : X) → i < length xs → slice_get (slice_set xs i v) i ≡ Some v
slice_get-set_same xs i v h = grind (arith, common_steps, gets)

pub slice_get-set_other : {X : Type 0} (xs : List X) (i k : ℕ) (v : X) → k ≢ i → slice_get (slice_set xs i v) k ≡ slice_get xs k
slice_get-set_other xs i k v h = grind (arith, common_steps, gets)

pub ruleset writes = (slice_get-set_same, slice_get-set_other)

pub slice_get-push_front : {X : Type 0} (xs : List X) (y : X) (k : ℕ) → k < length xs → slice_get (xs ++ y ∷ []) k ≡ slice_get xs k
slice_get-push_front [] y k h = absurd (omega arith)
slice_get-push_front (x ∷ xs) y zero h = refl
slice_get-push_front (x ∷ xs) y (suc k) h = slice_get-push_front xs y k (omega arith)

pub slice_get-push_last : {X : Type 0} (xs : List X) (y : X) (k : ℕ) → length xs ≡ k → slice_get (xs ++ y ∷ []) k ≡ Some y
slice_get-push_last [] y zero h = refl
slice_get-push_last [] y (suc k) h = absurd (omega arith)
slice_get-push_last (x ∷ xs) y zero h = absurd (omega arith)
slice_get-push_last (x ∷ xs) y (suc k) h = slice_get-push_last xs y k (omega arith)
