-- Where the pointers to the leaves of an inode stand that are side by side in one block.
use Rattle.std.proofs.Common.{◌≡◌, ℕ, ◌+◌, ◌-◌, ◌*◌, ◌%◌, ◌<◌, ◌≤◌, Bool, true, false, List, [], ◌∷◌, drop, refl, sym, ◌∙◌, ap, inl, inr, subst, arith}
use Rattle.std.proofs.Common.{if◌then◌else◌}
use Rattle.std.specs.Prelude.{nat_lt, slice_index}
use Rattle.std.proofs.lemmas.Bool.{ltb-false, ltb-true, le-ltb}
use Rattle.treefs_format.specs.Paths.{first_leaf, height_of, last_beside, leaf_count, place_in_tree, steps}
use Rattle.treefs_format.proofs.ForCallers.{leaves_beside}
use Rattle.treefs_lookup.specs.Walks.{holder_steps, pointer_offset}
use Rattle.treefs.specs.Reaping.{first_beside}
use Rattle.treefs_values.specs.Ways.{IsWay}
use Rattle.treefs_laws.proofs.CutWays.{InTree, in_tree}
use Rattle.treefs_laws.proofs.WaysApart.{steps_way}

-- each tree has whole nodes
place_mod : (i h : ℕ) → 16 ≤ i → height_of i ≡ h → InTree i h → place_in_tree i % 127 ≡ (i - 16) % 127
place_mod i h low is (inl a) = let lt = a.1 in absurd (omega arith)
place_mod i h low is (inr (inl a)) = let b = a.1 in ap (λ k. (i - first_leaf k) % 127) (is ∙ a.0)
place_mod i h low is (inr (inr (inl a))) = let b = a.1 in ap (λ k. (i - first_leaf k) % 127) (is ∙ a.0) ∙ omega arith
place_mod i h low is (inr (inr (inr (inl a)))) = let b = a.1 in ap (λ k. (i - first_leaf k) % 127) (is ∙ a.0) ∙ omega arith
place_mod i h low is (inr (inr (inr (inr a)))) = let b = a.1 in ap (λ k. (i - first_leaf k) % 127) (is ∙ a.0) ∙ omega arith

first_from : (i : ℕ) → 16 ≤ i → first_beside i ≡ i - (i - 16) % 127
first_from i low = ap (λ t. if t then 0 else i - place_in_tree i % 127) (le-ltb i 16 low) ∙ ap (λ p. i - p) (place_mod i (height_of i) low refl (in_tree i))

last_from : (i : ℕ) → 16 ≤ i → last_beside i ≡ i + (126 - (i - 16) % 127)
last_from i low = ap (λ t. if t then 15 else i + (126 - place_in_tree i % 127)) (le-ltb i 16 low)
    ∙ ap (λ p. i + (126 - p)) (place_mod i (height_of i) low refl (in_tree i))

-- the first of them has the same last one
pub one_block : (i : ℕ) → (first_beside i ≤ i) × (i ≤ last_beside i) × (last_beside (first_beside i) ≡ last_beside i)
one_block i = by (nat_lt i 16) refl
  where
    by : (t : Bool) → nat_lt i 16 ≡ t → (first_beside i ≤ i) × (i ≤ last_beside i) × (last_beside (first_beside i) ≡ last_beside i)
    by true e =
        let lt = ltb-true i 16 e in
        let first : first_beside i ≡ 0 = ap (λ t. if t then 0 else i - place_in_tree i % 127) e in
        let last : last_beside i ≡ 15 = ap (λ t. if t then 15 else i + (126 - place_in_tree i % 127)) e in
        (omega arith, omega arith, ap last_beside first ∙ sym last)
    by false e =
        let low = ltb-false i 16 e in
        let first = first_from i low in
        let last = last_from i low in
        let high : 16 ≤ first_beside i = omega arith in
        let last' = last_from (first_beside i) high in
        (omega arith, omega arith, omega arith)

-- a path has a last pointer
path_cons : (os : List ℕ) → IsWay os 0 → os ≡ slice_index os 0 ∷ drop 1 os
path_cons [] way = absurd way
path_cons (o ∷ q) way = refl

module _ (leaf : ℕ) where
  abbrev base : ℕ
  base = first_beside leaf

  -- where the first of the pointers stands
  abbrev pub start : ℕ
  start = pointer_offset base

  abbrev behind : List ℕ
  behind = holder_steps base

  at : (l : ℕ) → l < leaf_count → base ≤ l → l ≤ last_beside leaf → steps l ≡ (start + 4 * (l - base)) ∷ behind
  at l few low high = leaves_beside base l start behind few low (subst (λ x. l ≤ x) (sym (one_block leaf).2) high) (path_cons (steps base) (steps_way base))

  -- the pointer to a leaf beside it stands in the same block
  pub steps_beside : (l : ℕ) → leaf < leaf_count → l < leaf_count → base ≤ l → l ≤ last_beside leaf → steps l ≡ (start + 4 * (l - base)) ∷ holder_steps leaf
  steps_beside l known few low high =
      at l few low high ∙ ap (λ q. (start + 4 * (l - base)) ∷ q) (sym (ap (drop 1) (at leaf known (one_block leaf).0 (one_block leaf).1)))

  pub offset_beside : (l : ℕ) → l < leaf_count → base ≤ l → l ≤ last_beside leaf → pointer_offset l ≡ start + 4 * (l - base)
  offset_beside l few low high = ap (λ (os : List ℕ). slice_index os 0) (at l few low high)
