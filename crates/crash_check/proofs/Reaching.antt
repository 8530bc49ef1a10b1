-- The reached blocks as a map: each named block is put behind those before it.
use Rattle.std.proofs.Common.{subst, map, option_map, ◌≡◌, ℕ, suc, zero, Bool, true, false, ◌||◌, List, [], ◌∷◌, ◌++◌, Some, refl, sym, ap, ◌∙◌, nat_eq, slice_get, take, true≢false, is_some}
use Rattle.std.specs.List.{IsDistinct, list_any}
use Rattle.std.specs.Map.{keys_of}
use Rattle.std.proofs.lemmas.Cmp.{nat_eq_equiv}
use Rattle.std.proofs.lemmas.Map.Keys.{IsDistinct-head, IsDistinct-tail}
use Rattle.std.proofs.Permutation.{every_at}
use Rattle.std.proofs.lemmas.Option.{slice_get_within, get_or_from_slice_get}
use Rattle.indexmap.specs.IndexMap.{insert_entry}
use Rattle.image_model.specs.Walk.{Named, pair_of_named, reached_list}

-- a pair whose key is new goes last
pub inserted : (es : List (ℕ × ℕ)) (k v : ℕ) → list_any (nat_eq k) (keys_of es) ≡ false → insert_entry nat_eq es k v ≡ es ++ (k, v) ∷ []
inserted [] k v new = refl
inserted (e ∷ es) k v new = by (nat_eq k e.0) refl (inserted es k v)
  where
    by : (b : Bool) → nat_eq k e.0 ≡ b → (list_any (nat_eq k) (keys_of es) ≡ false → insert_entry nat_eq es k v ≡ es ++ (k, v) ∷ [])
        → insert_entry nat_eq (e ∷ es) k v ≡ (e ∷ es) ++ (k, v) ∷ []
    by true same rest = absurd (true≢false (sym (ap (λ b. b || list_any (nat_eq k) (keys_of es)) same) ∙ new))
    by false other rest = rw (other) (ap (λ l. e ∷ l) (rest (sym (ap (λ b. b || list_any (nat_eq k) (keys_of es)) other) ∙ new)))

-- of keys that each stand once, none stands among those before it
pub new_key : (ks : List ℕ) (i k : ℕ) → IsDistinct nat_eq ks → slice_get ks i ≡ Some k → list_any (nat_eq k) (take i ks) ≡ false
new_key [] i k once at = absurd (true≢false (sym (ap is_some at)))
new_key (x ∷ xs) zero k once at = refl
new_key (x ∷ xs) (suc i) k once at =
    let within = slice_get_within xs i k at in
    let other = every_at (λ y. nat_eq x y ≡ false) xs i k within (IsDistinct-head nat_eq x xs once) in
    let head : nat_eq k x ≡ false = nat_eq_equiv.symm k x ∙ subst (λ y. nat_eq x y ≡ false) (get_or_from_slice_get xs i k k at) other in
    λ j. head j || new_key xs i k (IsDistinct-tail nat_eq x xs once) at j

take-keys : (named : List Named) (i : ℕ) → take i (keys_of (map pair_of_named named)) ≡ keys_of (map pair_of_named (take i named))
take-keys [] zero = refl
take-keys [] (suc i) = refl
take-keys (f ∷ named) zero = refl
take-keys (f ∷ named) (suc i) = ap (λ l. f.0 ∷ l) (take-keys named i)

get-keys : (named : List Named) (i : ℕ) → slice_get (keys_of (map pair_of_named named)) i ≡ option_map (λ f. f.0) (slice_get named i)
get-keys [] i = refl
get-keys (f ∷ named) zero = refl
get-keys (f ∷ named) (suc i) = get-keys named i

-- so is a named block: it is no block that is named before it, and not block 0
pub reached_apart : (named : List Named) (i : ℕ) (f : Named) → IsDistinct nat_eq (keys_of (reached_list named)) → slice_get named i ≡ Some f
    → list_any (nat_eq f.0) (keys_of (reached_list (take i named))) ≡ false
reached_apart named i f once at =
    ap (λ l. list_any (nat_eq f.0) (0 ∷ l)) (sym (take-keys named i))
    ∙ new_key (keys_of (reached_list named)) (suc i) f.0 once (get-keys named i ∙ ap (option_map (λ f. f.0)) at)
