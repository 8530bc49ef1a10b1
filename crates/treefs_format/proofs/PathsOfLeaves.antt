-- Paths and leaves.
use Rattle.std.proofs.Common.{◌≡◌, ℕ, zero, suc, ◌+◌, ◌*◌, ◌-◌, ◌/◌, ◌%◌, ◌<◌, ◌≤◌, ◌^◌, Bool, true, false, List, [], ◌∷◌, ◌++◌, length, refl, sym, ◌∙◌, ap, inl, inr, arith}
use Rattle.std.specs.Prelude.{All, map, nat_lt, if◌then◌else◌}
use Rattle.std.proofs.Math.Nat.{pow-succ'}
use Rattle.std.proofs.lemmas.Bool.{cases_lt, le-ltb, lt-ltb}
use Rattle.std.proofs.lemmas.List.Elements.{All-cons, All-head, All-nil, All-tail}
use Rattle.treefs_format.specs.Paths.{IsPath, first_leaf, height_of, leaf_count, leaf_offset, node_offset, place_in_tree, places, steps, tree_offset, tree_steps}

-- Places in nodes, and the number of the leaf

places_long : (h r : ℕ) → length (places h r) ≡ h
places_long zero r = refl
places_long (suc h) r = ap suc (places_long h (r / 127))

places_within : (h r : ℕ) → All (λ j. j < 127) (places h r)
places_within zero r = All-nil (λ j. j < 127)
places_within (suc h) r = All-cons (λ j. j < 127) (r % 127) (places h (r / 127)) (omega arith) (places_within h (r / 127))

abbrev leaf_below : List ℕ → ℕ
leaf_below [] = 0
leaf_below (j ∷ js) = j + 127 * leaf_below js

leaf_few : (h : ℕ) (js : List ℕ) → length js ≡ h → All (λ j. j < 127) js → leaf_below js < 127 ^ h
leaf_few zero [] long within = omega arith
leaf_few zero (j ∷ js) long within = absurd (omega arith)
leaf_few (suc h) [] long within = absurd (omega arith)
leaf_few (suc h) (j ∷ js) long within =
    let rest = leaf_few h js (omega arith) (All-tail (λ k. k < 127) j js within) in
    let few : j < 127 = All-head (λ k. k < 127) j js within in
    let power = pow-succ' 127 h in
    omega arith

places_back : (h : ℕ) (js : List ℕ) → length js ≡ h → All (λ j. j < 127) js → places h (leaf_below js) ≡ js
places_back zero [] long within = refl
places_back zero (j ∷ js) long within = absurd (omega arith)
places_back (suc h) [] long within = absurd (omega arith)
places_back (suc h) (j ∷ js) long within =
    let few : j < 127 = All-head (λ k. k < 127) j js within in
    let place : (j + 127 * leaf_below js) % 127 ≡ j = omega arith in
    let above : (j + 127 * leaf_below js) / 127 ≡ leaf_below js = omega arith in
    ap (λ k. k ∷ places h ((j + 127 * leaf_below js) / 127)) place
    ∙ (ap (λ k. j ∷ places h k) above ∙ ap (λ l. j ∷ l) (places_back h js (omega arith) (All-tail (λ k. k < 127) j js within)))

-- Heights

record IsIn (i h : ℕ) : Type 0 where
  height : height_of i ≡ h
  low : 1 ≤ h
  high : h ≤ 4
  past : first_leaf h ≤ i
  place : i - first_leaf h < 127 ^ h
  tree : nat_lt i 16 ≡ false

-- the four tests of a leaf's height
tested : (i : ℕ) (a b c d : Bool) → nat_lt i 16 ≡ a → nat_lt i 143 ≡ b → nat_lt i 16272 ≡ c → nat_lt i 2064655 ≡ d →
    height_of i ≡ (if a then 0 else if b then 1 else if c then 2 else if d then 3 else 4)
tested i a b c d p q r s = λ j. if p j then 0 else if q j then 1 else if r j then 2 else if s j then 3 else 4

in_first : (i : ℕ) → 16 ≤ i → i < 143 → IsIn i 1
in_first i low lt = let tree = le-ltb i 16 low in record {
  height = tested i false true true true tree (lt-ltb i 143 lt) (lt-ltb i 16272 (omega arith)) (lt-ltb i 2064655 (omega arith));
  low = omega arith;
  high = omega arith;
  past = low;
  place = omega arith;
  tree = tree;
}

in_second : (i : ℕ) → 143 ≤ i → i < 16272 → IsIn i 2
in_second i low lt = let tree = le-ltb i 16 (omega arith) in record {
  height = tested i false false true true tree (le-ltb i 143 low) (lt-ltb i 16272 lt) (lt-ltb i 2064655 (omega arith));
  low = omega arith;
  high = omega arith;
  past = low;
  place = omega arith;
  tree = tree;
}

in_third : (i : ℕ) → 16272 ≤ i → i < 2064655 → IsIn i 3
in_third i low lt = let tree = le-ltb i 16 (omega arith) in record {
  height = tested i false false false true tree (le-ltb i 143 (omega arith)) (le-ltb i 16272 low) (lt-ltb i 2064655 lt);
  low = omega arith;
  high = omega arith;
  past = low;
  place = omega arith;
  tree = tree;
}

in_fourth : (i : ℕ) → 2064655 ≤ i → i < leaf_count → IsIn i 4
in_fourth i low lt = let tree = le-ltb i 16 (omega arith) in record {
  height = tested i false false false false tree (le-ltb i 143 (omega arith)) (le-ltb i 16272 (omega arith)) (le-ltb i 2064655 low);
  low = omega arith;
  high = omega arith;
  past = low;
  place = omega arith;
  tree = tree;
}

in_tree : (i : ℕ) → 16 ≤ i → i < leaf_count → (h : ℕ) × IsIn i h
in_tree i low lt = elim (cases_lt i 143) [
  | inl a ↦ (1, in_first i low a)
  | inr a ↦ elim (cases_lt i 16272) [
    | inl b ↦ (2, in_second i a b)
    | inr b ↦ elim (cases_lt i 2064655) [ inl c ↦ (3, in_third i b c) | inr c ↦ (4, in_fourth i c lt) ]
  ]
]

-- the leaf at a place of a tree
at_place : (h r : ℕ) → 1 ≤ h → h ≤ 4 → r < 127 ^ h → IsIn (first_leaf h + r) h × (first_leaf h + r < leaf_count)
at_place zero r low high lt = absurd (omega arith)
at_place (suc zero) r low high lt = (in_first (16 + r) (omega arith) (omega arith), omega arith)
at_place (suc (suc zero)) r low high lt = (in_second (143 + r) (omega arith) (omega arith), omega arith)
at_place (suc (suc (suc zero))) r low high lt = (in_third (16272 + r) (omega arith) (omega arith), omega arith)
at_place (suc (suc (suc (suc zero)))) r low high lt = (in_fourth (2064655 + r) (omega arith) (omega arith), omega arith)
at_place (suc (suc (suc (suc (suc h))))) r low high lt = absurd (omega arith)

steps_own : (i : ℕ) → i < 16 → steps i ≡ leaf_offset i ∷ []
steps_own i lt = ap (λ b. if b then leaf_offset i ∷ [] else tree_steps (height_of i) (place_in_tree i)) (lt-ltb i 16 lt)

steps_tree : (i h : ℕ) → IsIn i h → steps i ≡ tree_steps h (i - first_leaf h)
steps_tree i h is =
    ap (λ b. if b then leaf_offset i ∷ [] else tree_steps (height_of i) (place_in_tree i)) is.tree ∙ ap (λ k. tree_steps k (i - first_leaf k)) is.height

pub steps_are_paths : (i : ℕ) → i < leaf_count → IsPath (steps i)
steps_are_paths i lt = elim (cases_lt i 16) [
  | inl own ↦ inl (i, own, steps_own i own)
  | inr ge ↦
      let tree = in_tree i ge lt in
      let h = tree.0 in
      let is = tree.1 in
      inr (h, places h (i - first_leaf h), record { low = is.low; high = is.high; long = places_long h (i - first_leaf h); within = places_within h (i - first_leaf h); whole = steps_tree i h is })
]

pub paths_end : (offsets : List ℕ) → IsPath offsets → (i : ℕ) × (i < leaf_count) × (steps i ≡ offsets)
paths_end offsets path = elim path [
  | inl own ↦ (own.0, (let few : own.0 < 16 = own.1 in omega arith), steps_own own.0 own.1 ∙ sym own.2)
  | inr tree ↦
      let h = tree.0 in
      let js = tree.1 in
      let p = tree.2 in
      let r = leaf_below js in
      let there = at_place h r p.low p.high (leaf_few h js p.long p.within) in
      let back : first_leaf h + r - first_leaf h ≡ r = omega arith in
      (first_leaf h + r, there.1, steps_tree (first_leaf h + r) h there.0 ∙ (ap (tree_steps h) back ∙ (ap (λ l. map node_offset l ++ tree_offset h ∷ []) (places_back h js p.long p.within) ∙ sym p.whole)))
]
