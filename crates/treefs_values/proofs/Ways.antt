-- The same pointers lead by the same ways.
use Rattle.std.proofs.Common.{◌≡◌, ◌≢◌, ℕ, zero, suc, ◌+◌, ◌*◌, ◌-◌, ◌/◌, ◌%◌, ◌<◌, ◌≤◌, Bool, true, false, ◌&&◌, ◌||◌, List, [], ◌∷◌, ◌++◌, length, refl, sym, ◌∙◌, ap, inl, inr, arith, subst, eq-eqb, le-leb, lt-ltb, if◌then◌else◌}
use Rattle.std.specs.Prelude.{All, IsTrue, map, nat_le, nat_lt, ◌==◌}
use Rattle.std.proofs.lemmas.Bool.{and_from, cases_eq, eqb-false, ltb-false, ltb-true, or_left, or_parts, or_right}
use Rattle.std.proofs.lemmas.List.Elements.{All-cons, All-head, All-nil, All-tail}
use Rattle.treefs_format.specs.Paths.{height_of, leaf_count, leaf_offset, node_offset, place_in_tree, places, steps, tree_offset, tree_steps}
use Rattle.treefs_model.specs.Reading.{block_at, inode_block, leaf_block, pointed}
use Rattle.treefs_model.specs.Trees.{has_pointer, is_inode_offset, is_node_offset}
use Rattle.treefs_values.specs.Ways.{IsFirst, IsTyped, IsWay, SamePointers, block_numbered}

-- Where pointers stand

tested : (low high o : ℕ) → low ≤ o → o < high → o % 4 ≡ 0 → IsTrue (nat_le low o && (nat_lt o high && (o % 4 == 0)))
tested low high o a b c = and_from (nat_le low o) (nat_lt o high && (o % 4 == 0)) (le-leb low o a) (and_from (nat_lt o high) (o % 4 == 0) (lt-ltb o high b) (eq-eqb (o % 4) 0 c))

pub inode_pointer : (node inode t o l : ℕ) → t ≡ inode → IsFirst o l → IsTrue (has_pointer node inode t o)
inode_pointer node inode t o l is first =
    or_right ((t == node) && is_node_offset o) ((t == inode) && is_inode_offset o) (and_from (t == inode) (is_inode_offset o) (eq-eqb t inode is) (stands first))
  where
    stands : IsFirst o l → IsTrue (is_inode_offset o)
    stands (inl own) = let lt : own.0 < 16 = own.1 in let e : o ≡ 48 + 4 * own.0 = own.2 in tested 48 128 o (omega arith) (omega arith) (omega arith)
    stands (inr tree) = let low = tree.0 in let high = tree.1 in let e : o ≡ 108 + 4 * l = tree.2 in tested 48 128 o (omega arith) (omega arith) (omega arith)

pub node_pointer : (node inode t o j : ℕ) → t ≡ node → j < 127 → o ≡ node_offset j → IsTrue (has_pointer node inode t o)
node_pointer node inode t o j is lt e =
    or_left ((t == node) && is_node_offset o) ((t == inode) && is_inode_offset o)
    (and_from (t == node) (is_node_offset o) (eq-eqb t node is) (tested 4 512 o (omega arith) (omega arith) (omega arith)))

-- Paths are ways

pub tree_way : (h l : ℕ) (js : List ℕ) → l + length js ≡ h → 1 ≤ h → h ≤ 4 → All (λ j. j < 127) js → IsWay (map node_offset js ++ tree_offset h ∷ []) l
tree_way h l [] long low high within = let same : l ≡ h = omega arith in subst (λ k. IsWay (tree_offset h ∷ []) k) (sym same) (inr (low, high, refl))
tree_way h l (j ∷ []) long low high within =
    let same : suc l ≡ h = omega arith in
    (j, All-head (λ k. k < 127) j [] within, refl, subst (λ k. IsWay (tree_offset h ∷ []) k) (sym same) (inr (low, high, refl)))
tree_way h l (j ∷ i ∷ js) long low high within =
    (j, All-head (λ k. k < 127) j (i ∷ js) within, refl, tree_way h (suc l) (i ∷ js) (omega arith) low high (All-tail (λ k. k < 127) j (i ∷ js) within))

places_long : (h r : ℕ) → length (places h r) ≡ h
places_long zero r = refl
places_long (suc h) r = ap suc (places_long h (r / 127))

places_within : (h r : ℕ) → All (λ j. j < 127) (places h r)
places_within zero r = All-nil (λ j. j < 127)
places_within (suc h) r = All-cons (λ j. j < 127) (r % 127) (places h (r / 127)) (omega arith) (places_within h (r / 127))

-- the four tests of a height
heights : (a b c : Bool) → let h : ℕ = if a then 1 else if b then 2 else if c then 3 else 4 in (1 ≤ h) × (h ≤ 4)
heights true b c = (omega arith, omega arith)
heights false true c = (omega arith, omega arith)
heights false false true = (omega arith, omega arith)
heights false false false = (omega arith, omega arith)

pub steps_way : (i : ℕ) → IsWay (steps i) 0
steps_way i = by (nat_lt i 16) refl
  where
    by : (b : Bool) → nat_lt i 16 ≡ b → IsWay (steps i) 0
    by true e =
        subst (λ t. IsWay (if t then leaf_offset i ∷ [] else tree_steps (height_of i) (place_in_tree i)) 0) (sym e) (inl (i, ltb-true i 16 e, refl, refl))
    by false e =
        let h : ℕ = height_of i in
        let tall : h ≡ (if nat_lt i 143 then 1 else if nat_lt i 16272 then 2 else if nat_lt i 2064655 then 3 else 4) =
        ap (λ t. if t then 0 else if nat_lt i 143 then 1 else if nat_lt i 16272 then 2 else if nat_lt i 2064655 then 3 else 4) e in
        let fits = subst (λ k. (1 ≤ k) × (k ≤ 4)) (sym tall) (heights (nat_lt i 143) (nat_lt i 16272) (nat_lt i 2064655)) in
        let long : 0 + length (places h (place_in_tree i)) ≡ h = let e' = places_long h (place_in_tree i) in omega arith in
        subst (λ t. IsWay (if t then leaf_offset i ∷ [] else tree_steps h (place_in_tree i)) 0) (sym e)
        (tree_way h 0 (places h (place_in_tree i)) long fits.0 fits.1 (places_within h (place_in_tree i)))

-- The same pointers

-- a number that may be one
pub counted : (n : ℕ) → ((n == 0) || nat_lt leaf_count n) ≡ false → n - 1 < leaf_count
counted n e =
    let parts = or_parts (n == 0) (nat_lt leaf_count n) e in
    let some : n ≢ 0 = eqb-false n 0 parts.0 in
    let few : n ≤ leaf_count = ltb-false leaf_count n parts.1 in
    omega arith

zero_pointed : (content : ℕ → List ℕ) (b o : ℕ) → b ≡ 0 → pointed content b o ≡ 0
zero_pointed content b o z = ap (λ c. pointed content c o) z

module _ (node inode top : ℕ) (type : ℕ → ℕ) (old new : ℕ → List ℕ) (typed : IsTyped node inode type old top) (keeps : SamePointers node inode type old new) where
  -- from an inode
  module _ (n : ℕ) where
    abbrev from : ℕ
    from = block_numbered old top n

    pub way_same : (l : ℕ) (offsets : List ℕ) → IsWay offsets l → block_at new from offsets ≡ block_at old from offsets
    way_same l [] way = absurd way
    way_same l (o ∷ []) way = elim (cases_eq from 0) [
      | inl z ↦ zero_pointed new from o z ∙ sym (zero_pointed old from o z)
      | inr some ↦ keeps from o (inode_pointer node inode (type from) o l (typed.inodes n some) way)
    ]
    way_same l (o ∷ p ∷ offsets) way =
        let q : ℕ = block_at old from (p ∷ offsets) in
        ap (λ c. pointed new c o) (way_same (suc l) (p ∷ offsets) way.3) ∙ elim (cases_eq q 0) [
          | inl z ↦ zero_pointed new q o z ∙ sym (zero_pointed old q o z)
          | inr some ↦ keeps q o (node_pointer node inode (type q) o way.0 (typed.nodes n l (p ∷ offsets) way.3 some) way.1 way.2)
        ]

  -- the blocks of inodes, nodes and leaves
  pub leaf_same : (n i : ℕ) → leaf_block new (block_numbered old top n) i ≡ leaf_block old (block_numbered old top n) i
  leaf_same n i = way_same n 0 (steps i) (steps_way i)

  pub inode_same : (n : ℕ) → inode_block new top n ≡ inode_block old top n
  inode_same n = by ((n == 0) || nat_lt leaf_count n) refl
    where
      by : (b : Bool) → ((n == 0) || nat_lt leaf_count n) ≡ b → inode_block new top n ≡ inode_block old top n
      by true e = ap (λ b. if b then 0 else leaf_block new top (n - 1)) e ∙ sym (ap (λ b. if b then 0 else leaf_block old top (n - 1)) e)
      by false e =
          ap (λ b. if b then 0 else leaf_block new top (n - 1)) e
          ∙ (leaf_same 0 (n - 1) ∙ sym (ap (λ b. if b then 0 else leaf_block old top (n - 1)) e))

  pub numbered_same : (n : ℕ) → block_numbered new top n ≡ block_numbered old top n
  numbered_same n = ap (λ b. if n == 0 then top else b) (inode_same n)

  pub still_typed : IsTyped node inode type new top
  still_typed = record {
    inodes = λ n. subst (λ b. b ≢ 0 → type b ≡ inode) (sym (numbered_same n)) (typed.inodes n);
    nodes = λ n l offsets way. subst (λ b. b ≢ 0 → type b ≡ node)
        (sym (ap (λ b. block_at new b offsets) (numbered_same n) ∙ way_same n (suc l) offsets way)) (typed.nodes n l offsets way);
    leaves = λ n i some few. subst (λ b. b ≢ 0 → type b ≡ 2)
        (sym (ap (λ b. leaf_block new b i) (numbered_same n) ∙ leaf_same n i)) (typed.leaves n i some few);
  }
