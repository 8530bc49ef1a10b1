-- A list of places that are full or empty, with one of them changed.
use Rattle.std.proofs.Common.{◌≡◌, ℕ, zero, suc, ◌<◌, List, [], ◌∷◌, length, Option, Some, None, refl, sym, ◌∙◌, ap, arith, slice_get, slice_set, get_or}
use Rattle.std.specs.Prelude.{unwrap_or}
use Rattle.std.proofs.lemmas.Option.{none-some, slice_get-get_or}
use Rattle.xn_kernel.proofs.ForCallers.{set_twice}

abbrev pub place_at : {A : Type 0} → List (Option A) → ℕ → Option A
place_at xs b = unwrap_or (slice_get xs b) None

pub place_at-same : {A : Type 0} (xs : List (Option A)) (b : ℕ) (o : Option A) → b < length xs → place_at (slice_set xs b o) b ≡ o
place_at-same [] b o lt = absurd (omega arith)
place_at-same (x ∷ xs) zero o lt = refl
place_at-same (x ∷ xs) (suc b) o lt = place_at-same xs b o (omega arith)

pub place_at-other : {A : Type 0} (xs : List (Option A)) (b c : ℕ) (o : Option A) → (c ≡ b → ⊥) → place_at (slice_set xs b o) c ≡ place_at xs c
place_at-other [] b c o ne = refl
place_at-other (x ∷ xs) zero zero o ne = absurd (ne refl)
place_at-other (x ∷ xs) zero (suc c) o ne = refl
place_at-other (x ∷ xs) (suc b) zero o ne = refl
place_at-other (x ∷ xs) (suc b) (suc c) o ne = place_at-other xs b c o (λ e. ne (ap suc e))

-- a place that is set to what it is
pub set_still : {A : Type 0} (xs : List (Option A)) (b : ℕ) (o : Option A) → place_at xs b ≡ o → slice_set xs b o ≡ xs
set_still [] b o e = refl
set_still (x ∷ xs) zero o e = ap (λ y. y ∷ xs) (sym e)
set_still (x ∷ xs) (suc b) o e = ap (λ ys. x ∷ ys) (set_still xs b o e)

-- what was in a place is taken and put back
pub put_back : {A : Type 0} (xs : List (Option A)) (b : ℕ) (x : A) → place_at xs b ≡ Some x → (taken : List (Option A)) (back : A) (put : List (Option A)) → taken ≡ slice_set xs b None → back ≡ x → put ≡ slice_set taken b (Some back) → put ≡ xs
put_back xs b x at taken back put took same e = e ∙ ((λ i. slice_set (took i) b (Some (same i))) ∙ (set_twice xs b None (Some x) ∙ set_still xs b (Some x) at))

-- a place that is read by index
pub place_of : {A : Type 0} (xs : List (Option A)) (b : ℕ) (d o : Option A) → b < length xs → o ≡ get_or xs b d → place_at xs b ≡ o
place_of xs b d o within e = ap (λ y. unwrap_or y None) (slice_get-get_or xs b d within) ∙ sym e

pub place_is : {A : Type 0} (xs : List (Option A)) (b : ℕ) (o : Option A) → b < length xs → o ≡ get_or xs b o → place_at xs b ≡ o
place_is xs b o within e = place_of xs b o o within e

-- an empty place, left as it is
pub left_empty : {A : Type 0} (xs : List (Option A)) (b : ℕ) (o : Option A) → b < length xs → o ≡ get_or xs b o → o ≡ None → (place_at xs b ≡ None) × (slice_set xs b o ≡ xs)
left_empty xs b o within e none = let here = place_is xs b o within e in (here ∙ none, set_still xs b o here)

pub full_place : {A : Type 0} (xs : List (Option A)) (b : ℕ) (x : A) → slice_get xs b ≡ Some (Some x) → place_at xs b ≡ Some x
full_place xs b x e = ap (λ o. unwrap_or o None) e

pub full_get : {A : Type 0} (xs : List (Option A)) (b : ℕ) (x : A) → place_at xs b ≡ Some x → slice_get xs b ≡ Some (Some x)
full_get [] b x e = absurd (none-some x e)
full_get (y ∷ xs) zero x e = ap (λ o. Some o) e
full_get (y ∷ xs) (suc b) x e = full_get xs b x e

pub empty_get : {A : Type 0} (xs : List (Option A)) (b : ℕ) → place_at xs b ≡ None → b < length xs → slice_get xs b ≡ Some None
empty_get [] b e lt = absurd (omega arith)
empty_get (x ∷ xs) zero e lt = ap (λ o. Some o) e
empty_get (x ∷ xs) (suc b) e lt = empty_get xs b e (omega arith)
