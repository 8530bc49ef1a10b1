-- An entry that stands where none stood.
use Rattle.std.proofs.Common.{◌≡◌, ℕ, ◌*◌, Bool, true, false, ◌&&◌, List, [], ◌∷◌, ◌++◌, Some, None, refl, sym, ◌∙◌, ap, inl, inr, eq-eqb, Contains, ◌==◌, ◌||◌, filter_map, flat_map, if◌then◌else◌, ne_eqb}
use Rattle.ffs_lib.proofs.Common.{Slot, cases_eq, cons_option, half_at, inode_blocks, is_at, list_any, listing, name_in, range_with_len}
use Rattle.xn_model.proofs.ForCallers.{Contains-head, Contains-tail}
use Rattle.ffs_lib.proofs.Tests.{and_false}
use Rattle.ffs_lib.proofs.Frames.{listed_at, listed_blocks, listed_in}

any_both : {A : Type 0} (p : A → Bool) (xs ys : List A) → list_any p xs ≡ false → list_any p ys ≡ false → list_any p (xs ++ ys) ≡ false
any_both p [] ys e f = f
any_both p (x ∷ xs) ys e f = go (p x) e (any_both p xs ys)
  where
    go : (t : Bool) → t || list_any p xs ≡ false → (list_any p xs ≡ false → list_any p ys ≡ false → list_any p (xs ++ ys) ≡ false) → t || list_any p (xs ++ ys) ≡ false
    go true g rest = absurd (cc g)
    go false g rest = rest g f

-- two places
pub are_apart : (entry other : Slot) → (other.block ≡ entry.block → other.place ≡ entry.place → ⊥) → is_at entry other ≡ false
are_apart entry other ne = elim (cases_eq other.block entry.block) [
  | inr apart ↦ ap (λ t. t && (other.place == entry.place)) (ne_eqb other.block entry.block apart)
  | inl e ↦ elim (cases_eq other.place entry.place) [
    | inl f ↦ absurd (ne e f)
    | inr apart ↦ ap (λ t. (other.block == entry.block) && t) (ne_eqb other.place entry.place apart) ∙ and_false (other.block == entry.block)
  ]
]

module _ (entry : Slot) where
  abbrev at : Slot × List ℕ → Bool
  at p = is_at entry p.0

  none_at : (b : ℕ) (m : List ℕ) → (b ≡ entry.block → half_at m (32 * entry.place) ≡ 0) → (xs : List ℕ) → list_any at (filter_map (listed_at b m) xs) ≡ false
  none_at b m empty [] = refl
  none_at b m empty (x ∷ xs) = go (half_at m (32 * x) == 0) refl (none_at b m empty xs)
    where
      apart : half_at m (32 * x) == 0 ≡ false → (b == entry.block) && (x == entry.place) ≡ false
      apart e = are_apart entry (record { block = b; place = x; inode = 0 }) (λ f g. no_gap (ap (λ k. half_at m (32 * k)) g ∙ empty f))
        where
          no_gap : half_at m (32 * x) ≡ 0 → ⊥
          no_gap z = cc (sym (eq-eqb (half_at m (32 * x)) 0 z) ∙ e)

      go : (t : Bool) → half_at m (32 * x) == 0 ≡ t → list_any at (filter_map (listed_at b m) xs) ≡ false →
          list_any at (cons_option (if t then None else Some (record { block = b; place = x; inode = half_at m (32 * x) }, name_in m (32 * x))) (filter_map (listed_at b m) xs)) ≡ false
      go true e rest = rest
      go false e rest = ap (λ t. t || list_any at (filter_map (listed_at b m) xs)) (apart e) ∙ rest

  none_in : (v : ℕ → List ℕ) (bs : List ℕ) → ((b : ℕ) → Contains bs b → b ≡ entry.block → half_at (v b) (32 * entry.place) ≡ 0) → list_any at (flat_map (listed_in v) bs) ≡ false
  none_in v [] empty = refl
  none_in v (b ∷ bs) empty =
      any_both at (listed_in v b) (flat_map (listed_in v) bs) (none_at b (v b) (empty b (Contains-head b bs)) (range_with_len 0 16))
      (none_in v bs (λ c i. empty c (Contains-tail b bs c i)))

pub none_listed : (v : ℕ → List ℕ) (entry : Slot) (inode : List ℕ) → ((b : ℕ) → Contains (inode_blocks inode) b → b ≡ entry.block → half_at (v b) (32 * entry.place) ≡ 0) → list_any (λ (p : Slot × List ℕ). is_at entry p.0) (listing v inode) ≡ false
none_listed v entry inode empty = ap (list_any (λ (p : Slot × List ℕ). is_at entry p.0)) (listed_blocks v (inode_blocks inode)) ∙ none_in entry v (inode_blocks inode) empty
