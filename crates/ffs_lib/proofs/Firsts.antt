-- The first entry with a name.
use Rattle.std.proofs.Common.{◌≡◌, ℕ, Bool, true, false, cond, List, [], ◌∷◌, ◌++◌, map, Option, Some, refl, ap, find, bytes_eq, option_map}
use Rattle.ffs_lib.proofs.Common.{Slot, bytes_eq-Decides, has_name, name_at}

-- by the listing

step_listed : (content : ℕ → List ℕ) (name : List ℕ) (e : Slot) (o : Option Slot) (r : Option (Slot × List ℕ)) (t : Bool) → o ≡ option_map (λ (p : Slot × List ℕ). p.0) r → cond t (Some e) o ≡ option_map (λ (p : Slot × List ℕ). p.0) (cond t (Some (e, name_at content e)) r)
step_listed content name e o r true h = refl
step_listed content name e o r false h = h

pub find_listed : (content : ℕ → List ℕ) (name : List ℕ) (es : List Slot) →
    find (has_name content name) es ≡ option_map (λ (p : Slot × List ℕ). p.0) (find (λ (p : Slot × List ℕ). bytes_eq p.1 name) (map {B = Slot × List ℕ} (λ (e : Slot). (e, name_at content e)) es))
find_listed content name [] = refl
find_listed content name (e ∷ es) =
    step_listed content name e (find (has_name content name) es) (find (λ (p : Slot × List ℕ). bytes_eq p.1 name) (map {B = Slot × List ℕ} (λ (x : Slot). (x, name_at content x)) es)) (bytes_eq (name_at content e) name) (find_listed content name es)

abbrev pub named_among : List ℕ → List (Slot × List ℕ) → Option Slot
named_among name entries = option_map (λ (p : Slot × List ℕ). p.0) (find (λ (p : Slot × List ℕ). bytes_eq p.1 name) entries)

pub find_skip : {A : Type 0} (p : A → Bool) (front back : List A) (y : A) → p y ≡ false → find p (front ++ y ∷ back) ≡ find p (front ++ back)
find_skip p [] back y e = ap (λ t. cond t (Some y) (find p back)) e
find_skip p (x ∷ front) back y e = ap (cond (p x) (Some x)) (find_skip p front back y e)

pub same_bytes : (a b : List ℕ) → bytes_eq a b ≡ true → a ≡ b
same_bytes a b e = (bytes_eq-Decides a b).0 e
