-- Leaves whose paths go over the same block.
use Rattle.std.proofs.Common.{◌≡◌, ℕ, zero, suc, ◌+◌, ◌*◌, ◌-◌, ◌/◌, ◌%◌, ◌<◌, ◌≤◌, ◌^◌, Bool, true, false, [], ◌∷◌, ◌++◌, length, drop, refl, sym, ◌∙◌, ap, inl, inr, arith, subst, length-append}
use Rattle.std.specs.Prelude.{map, nat_lt, if◌then◌else◌}
use Rattle.std.proofs.Math.Nat.{mul_left_comm, pow-succ'}
use Rattle.std.proofs.lemmas.Bool.{cases_lt, le-ltb, lt-ltb}
use Rattle.std.proofs.lemmas.List.{drop-append-le, drop-map, length-map}
use Rattle.treefs_format.specs.Paths.{first_leaf, height_of, last_beside, leaf_count, leaf_offset, node_offset, place_in_tree, places, steps, tree_offset, tree_steps}
use Rattle.treefs_lookup.specs.Walks.{behind, place_above}

-- Heights

pub record IsIn (i h : ℕ) : Type 0 where
  pub height : height_of i ≡ h
  pub low : 1 ≤ h
  pub high : h ≤ 4
  pub past : first_leaf h ≤ i
  pub place : i - first_leaf h < 127 ^ h
  pub tree : nat_lt i 16 ≡ false

tested : (i : ℕ) (a b c d : Bool) → nat_lt i 16 ≡ a → nat_lt i 143 ≡ b → nat_lt i 16272 ≡ c → nat_lt i 2064655 ≡ d →
    height_of i ≡ (if a then 0 else if b then 1 else if c then 2 else if d then 3 else 4)
tested i a b c d p q r s = λ j. if p j then 0 else if q j then 1 else if r j then 2 else if s j then 3 else 4

in_first : (i : ℕ) → 16 ≤ i → i < 143 → IsIn i 1
in_first i low lt = let tree = le-ltb i 16 low in record {
  height = tested i false true true true tree (lt-ltb i 143 lt) (lt-ltb i 16272 (omega arith)) (lt-ltb i 2064655 (omega arith));
  low = omega arith;
  high = omega arith;
  past = low;
  place = omega arith;
  tree = tree;
}

in_second : (i : ℕ) → 143 ≤ i → i < 16272 → IsIn i 2
in_second i low lt = let tree = le-ltb i 16 (omega arith) in record {
  height = tested i false false true true tree (le-ltb i 143 low) (lt-ltb i 16272 lt) (lt-ltb i 2064655 (omega arith));
  low = omega arith;
  high = omega arith;
  past = low;
  place = omega arith;
  tree = tree;
}

in_third : (i : ℕ) → 16272 ≤ i → i < 2064655 → IsIn i 3
in_third i low lt = let tree = le-ltb i 16 (omega arith) in record {
  height = tested i false false false true tree (le-ltb i 143 (omega arith)) (le-ltb i 16272 low) (lt-ltb i 2064655 lt);
  low = omega arith;
  high = omega arith;
  past = low;
  place = omega arith;
  tree = tree;
}

in_fourth : (i : ℕ) → 2064655 ≤ i → i < leaf_count → IsIn i 4
in_fourth i low lt = let tree = le-ltb i 16 (omega arith) in record {
  height = tested i false false false false tree (le-ltb i 143 (omega arith)) (le-ltb i 16272 (omega arith)) (le-ltb i 2064655 low);
  low = omega arith;
  high = omega arith;
  past = low;
  place = omega arith;
  tree = tree;
}

pub in_tree : (i : ℕ) → 16 ≤ i → i < leaf_count → (h : ℕ) × IsIn i h
in_tree i low lt = elim (cases_lt i 143) [
  | inl a ↦ (1, in_first i low a)
  | inr a ↦ elim (cases_lt i 16272) [
    | inl b ↦ (2, in_second i a b)
    | inr b ↦ elim (cases_lt i 2064655) [ inl c ↦ (3, in_third i b c) | inr c ↦ (4, in_fourth i c lt) ]
  ]
]

-- the leaf at a place of a tree
at_place : (h r : ℕ) → 1 ≤ h → h ≤ 4 → r < 127 ^ h → IsIn (first_leaf h + r) h × (first_leaf h + r < leaf_count)
at_place zero r low high lt = absurd (omega arith)
at_place (suc zero) r low high lt = (in_first (16 + r) (omega arith) (omega arith), omega arith)
at_place (suc (suc zero)) r low high lt = (in_second (143 + r) (omega arith) (omega arith), omega arith)
at_place (suc (suc (suc zero))) r low high lt = (in_third (16272 + r) (omega arith) (omega arith), omega arith)
at_place (suc (suc (suc (suc zero)))) r low high lt = (in_fourth (2064655 + r) (omega arith) (omega arith), omega arith)
at_place (suc (suc (suc (suc (suc h))))) r low high lt = absurd (omega arith)

pub at_leaf : (j h : ℕ) → 1 ≤ h → h ≤ 4 → first_leaf h ≤ j → j - first_leaf h < 127 ^ h → IsIn j h × (j < leaf_count)
at_leaf j h low high past lt =
    let e : first_leaf h + (j - first_leaf h) ≡ j = omega arith in
    subst (λ k. IsIn k h × (k < leaf_count)) e (at_place h (j - first_leaf h) low high lt)

pub own_height : (i : ℕ) → i < 16 → height_of i ≡ 0
own_height i lt = ap (λ b. if b then 0 else if nat_lt i 143 then 1 else if nat_lt i 16272 then 2 else if nat_lt i 2064655 then 3 else 4) (lt-ltb i 16 lt)

steps_own : (i : ℕ) → i < 16 → steps i ≡ leaf_offset i ∷ []
steps_own i lt = ap (λ b. if b then leaf_offset i ∷ [] else tree_steps (height_of i) (place_in_tree i)) (lt-ltb i 16 lt)

pub steps_tree : (i h : ℕ) → IsIn i h → steps i ≡ tree_steps h (i - first_leaf h)
steps_tree i h is =
    ap (λ b. if b then leaf_offset i ∷ [] else tree_steps (height_of i) (place_in_tree i)) is.tree ∙ ap (λ k. tree_steps k (i - first_leaf k)) is.height

pub height_few : (i : ℕ) → i < leaf_count → height_of i ≤ 4
height_few i lt = elim (cases_lt i 16) [
  | inl own ↦ let e = own_height i own in omega arith
  | inr ge ↦ let tree = in_tree i ge lt in let e = tree.1.height in let high = tree.1.high in omega arith
]

places_long : (h r : ℕ) → length (places h r) ≡ h
places_long zero r = refl
places_long (suc h) r = ap suc (places_long h (r / 127))

tree_long : (h r : ℕ) → length (tree_steps h r) ≡ h + 1
tree_long h r =
    let a = length-append (map node_offset (places h r)) (tree_offset h ∷ []) in
    let b = length-map (places h r) node_offset in
    let c = places_long h r in
    omega arith

pub steps_long : (i : ℕ) → i < leaf_count → length (steps i) ≡ height_of i + 1
steps_long i lt = elim (cases_lt i 16) [
  | inl own ↦ let e = own_height i own in let s = ap length (steps_own i own) in omega arith
  | inr ge ↦
      let tree = in_tree i ge lt in
      let h = tree.0 in
      let e : height_of i ≡ h = tree.1.height in
      let s = ap length (steps_tree i h tree.1) in
      let l = tree_long h (i - first_leaf h) in
      omega arith
]

some_steps : (i : ℕ) (t : Bool) → 0 < length (if t then leaf_offset i ∷ [] else tree_steps (height_of i) (place_in_tree i))
some_steps i true = omega arith
some_steps i false = let long = tree_long (height_of i) (place_in_tree i) in omega arith

pub steps_some : (i : ℕ) → 0 < length (steps i)
steps_some i = some_steps i (nat_lt i 16)

-- a leaf's tree begins at or before it
pub first_past : (i : ℕ) → i < leaf_count → first_leaf (height_of i) ≤ i
first_past i lt = elim (cases_lt i 16) [
  | inl own ↦ let e = ap first_leaf (own_height i own) in omega arith
  | inr ge ↦ let tree = in_tree i ge lt in let e = ap first_leaf tree.1.height in let past = tree.1.past in omega arith
]

-- Levels

times : (k p q : ℕ) → q ≡ 127 * p → (k + 1) * q ≡ 127 * ((k + 1) * p)
times k p q e = ap (λ n. (k + 1) * n) e ∙ mul_left_comm (k + 1) 127 p

-- between a place and the first one behind its block
pub same_above : (levels r s : ℕ) → r ≤ s → s < (place_above levels r + 1) * 127 ^ levels → place_above levels s ≡ place_above levels r
same_above zero r s le lt = omega arith
same_above (suc levels) r s le lt =
    let power = pow-succ' 127 levels in
    let all = (place_above levels (r / 127) + 1) * 127 ^ levels in
    let e : (place_above levels (r / 127) + 1) * 127 ^ suc levels ≡ 127 * all = times (place_above levels (r / 127)) (127 ^ levels) (127 ^ suc levels) power in
    same_above levels (r / 127) (s / 127) (omega arith) (omega arith)

pub less_behind : (levels r : ℕ) → r < (place_above levels r + 1) * 127 ^ levels
less_behind zero r = omega arith
less_behind (suc levels) r =
    let power = pow-succ' 127 levels in
    let all = (place_above levels (r / 127) + 1) * 127 ^ levels in
    let before : r / 127 < all = less_behind levels (r / 127) in
    let e : (place_above levels (r / 127) + 1) * 127 ^ suc levels ≡ 127 * all = times (place_above levels (r / 127)) (127 ^ levels) (127 ^ suc levels) power in
    omega arith

pub behind_within : (levels h r : ℕ) → levels ≤ h → r < 127 ^ h → (place_above levels r + 1) * 127 ^ levels ≤ 127 ^ h
behind_within zero h r le lt = omega arith
behind_within (suc levels) zero r le lt = absurd (omega arith)
behind_within (suc levels) (suc h) r le lt =
    let power = pow-succ' 127 levels in
    let whole = pow-succ' 127 h in
    let all = (place_above levels (r / 127) + 1) * 127 ^ levels in
    let before : all ≤ 127 ^ h = behind_within levels h (r / 127) (omega arith) (omega arith) in
    let e : (place_above levels (r / 127) + 1) * 127 ^ suc levels ≡ 127 * all = times (place_above levels (r / 127)) (127 ^ levels) (127 ^ suc levels) power in
    omega arith

drop_places : (levels h r : ℕ) → levels ≤ h → drop levels (places h r) ≡ places (h - levels) (place_above levels r)
drop_places zero h r le = let e : h ≡ h - 0 = omega arith in ap (λ k. places k r) e
drop_places (suc levels) zero r le = absurd (omega arith)
drop_places (suc levels) (suc h) r le =
    let e : h - levels ≡ suc h - suc levels = omega arith in
    drop_places levels h (r / 127) (omega arith) ∙ ap (λ k. places k (place_above levels (r / 127))) e

drop_tree : (levels h r : ℕ) → levels ≤ h → drop levels (tree_steps h r) ≡ map node_offset (places (h - levels) (place_above levels r)) ++ tree_offset h ∷ []
drop_tree levels h r le =
    let a = length-map (places h r) node_offset in
    let b = places_long h r in
    drop-append-le levels (map node_offset (places h r)) (tree_offset h ∷ []) (omega arith)
    ∙ ap (λ l. l ++ tree_offset h ∷ []) (drop-map node_offset levels (places h r) ∙ ap (map node_offset) (drop_places levels h r le))

-- Leaves

-- those behind a leaf and before the first one behind all that stand below the same block
pub record IsBeside (i j levels : ℕ) : Type 0 where
  pub few : j < leaf_count
  pub same : drop levels (steps j) ≡ drop levels (steps i)
  pub height : height_of j ≡ height_of i
  pub above : place_above levels (place_in_tree j) ≡ place_above levels (place_in_tree i)

pub record IsBehind (i levels : ℕ) : Type 0 where
  pub less : i < behind i levels
  pub few : behind i levels ≤ leaf_count
  pub beside : (j : ℕ) → i ≤ j → j < behind i levels → IsBeside i j levels

behind_own : (i levels : ℕ) → i < 16 → levels ≤ height_of i → IsBehind i levels
behind_own i levels lt le =
    let height = own_height i lt in
    let none : levels ≡ 0 = omega arith in
    let next : behind i levels ≡ i + 1 = ap (λ h. first_leaf h + (place_above levels (i - first_leaf h) + 1) * 127 ^ levels) height ∙ (ap (λ l. 0 + (place_above l (i - 0) + 1) * 127 ^ l) none ∙ omega arith) in
    record {
      less = omega arith;
      few = omega arith;
      beside = λ j from to. let e : j ≡ i = omega arith in record {
        few = omega arith;
        same = ap (λ k. drop levels (steps k)) e;
        height = ap height_of e;
        above = ap (λ k. place_above levels (place_in_tree k)) e;
      };
    }

behind_tree : (i h levels : ℕ) → IsIn i h → levels ≤ h → IsBehind i levels
behind_tree i h levels is le =
    let r = i - first_leaf h in
    let low : 1 ≤ h = is.low in
    let high : h ≤ 4 = is.high in
    let past : first_leaf h ≤ i = is.past in
    let place : r < 127 ^ h = is.place in
    let next : behind i levels ≡ first_leaf h + (place_above levels r + 1) * 127 ^ levels = ap (λ k. first_leaf k + (place_above levels (i - first_leaf k) + 1) * 127 ^ levels) is.height in
    let less = less_behind levels r in
    let within = behind_within levels h r le place in
    let last = tree_end h low high in
    record {
      less = omega arith;
      few = omega arith;
      beside = λ j from to.
          let s = j - first_leaf h in
          let there = at_leaf j h low high (omega arith) (omega arith) in
          let same = same_above levels r s (omega arith) (omega arith) in
          record {
            few = there.1;
            same = ap (drop levels) (steps_tree j h there.0) ∙ (drop_tree levels h s le ∙ (ap (λ p. map node_offset (places (h - levels) p) ++ tree_offset h ∷ []) same ∙ sym (ap (drop levels) (steps_tree i h is) ∙ drop_tree levels h r le)));
            height = there.0.height ∙ sym is.height;
            above = ap (λ k. place_above levels (j - first_leaf k)) there.0.height ∙ (same ∙ sym (ap (λ k. place_above levels (i - first_leaf k)) is.height));
          };
    }
  where
    tree_end : (h : ℕ) → 1 ≤ h → h ≤ 4 → first_leaf h + 127 ^ h ≤ leaf_count
    tree_end zero low high = absurd (omega arith)
    tree_end (suc zero) low high = omega arith
    tree_end (suc (suc zero)) low high = omega arith
    tree_end (suc (suc (suc zero))) low high = omega arith
    tree_end (suc (suc (suc (suc zero)))) low high = omega arith
    tree_end (suc (suc (suc (suc (suc h))))) low high = absurd (omega arith)

pub is_behind : (i levels : ℕ) → i < leaf_count → levels ≤ height_of i → IsBehind i levels
is_behind i levels lt le = elim (cases_lt i 16) [
  | inl own ↦ behind_own i levels own le
  | inr ge ↦ let tree = in_tree i ge lt in let e = tree.1.height in behind_tree i tree.0 levels tree.1 (omega arith)
]

-- the leaves whose pointers stand in the same block
beside_own : (i j : ℕ) → i < 16 → j < 16 → IsBeside i j 1
beside_own i j own other =
    let height = own_height i own in
    let height' = own_height j other in
    record {
      few = omega arith;
      same = ap (drop 1) (steps_own j other) ∙ sym (ap (drop 1) (steps_own i own));
      height = omega arith;
      above = ap (λ k. (j - first_leaf k) / 127) height' ∙ ((let e : (j - 0) / 127 ≡ (i - 0) / 127 = omega arith in e) ∙ sym (ap (λ k. (i - first_leaf k) / 127) height));
    }

last_own : (i : ℕ) → i < 16 → last_beside i ≡ 15
last_own i own = ap (λ b. if b then 15 else i + (126 - place_in_tree i % 127)) (lt-ltb i 16 own)

last_tree : (i h : ℕ) → IsIn i h → last_beside i + 1 ≡ behind i 1
last_tree i h is =
    let past : first_leaf h ≤ i = is.past in
    let r = i - first_leaf h in
    let last : last_beside i ≡ i + (126 - r % 127) = ap (λ b. if b then 15 else i + (126 - place_in_tree i % 127)) is.tree ∙ ap (λ k. i + (126 - (i - first_leaf k) % 127)) is.height in
    let next : behind i 1 ≡ first_leaf h + (r / 127 + 1) * 127 = ap (λ k. first_leaf k + ((i - first_leaf k) / 127 + 1) * 127) is.height in
    omega arith

pub beside : (i j : ℕ) → i < leaf_count → i ≤ j → j ≤ last_beside i → IsBeside i j 1
beside i j lt ge le = elim (cases_lt i 16) [
  | inl own ↦ let last = last_own i own in beside_own i j own (omega arith)
  | inr tree ↦
      let there = in_tree i tree lt in
      let height = there.1.height in
      let low = there.1.low in
      let last = last_tree i there.0 there.1 in
      (is_behind i 1 lt (omega arith)).beside j ge (omega arith)
]

pub below_last : (i : ℕ) → i ≤ last_beside i
below_last i = elim (cases_lt i 16) [
  | inl own ↦ let last = last_own i own in omega arith
  | inr tree ↦ let last : last_beside i ≡ i + (126 - place_in_tree i % 127) = ap (λ b. if b then 15 else i + (126 - place_in_tree i % 127)) (le-ltb i 16 tree) in omega arith
]

pub last_few : (i : ℕ) → i < leaf_count → last_beside i < leaf_count
last_few i lt = elim (cases_lt i 16) [
  | inl own ↦ let last = last_own i own in omega arith
  | inr tree ↦
      let there = in_tree i tree lt in
      let height = there.1.height in
      let low = there.1.low in
      let last = last_tree i there.0 there.1 in
      let few = (is_behind i 1 lt (omega arith)).few in
      omega arith
]

-- What is computed

pub leaves_few : (l k : ℕ) → l + k ≡ 4 → 127 ^ l ≤ 260144641
leaves_few l zero e = subst (λ n. 127 ^ n ≤ 260144641) (let s : 4 ≡ l = omega arith in s) (omega arith)
leaves_few l (suc k) e = let more = leaves_few (suc l) k (omega arith) in let grows = pow-succ' 127 l in omega arith

pub leaves_more : (l : ℕ) → 127 ^ l * 127 ≡ 127 ^ (l + 1)
leaves_more l = let e : suc l ≡ l + 1 = omega arith in let grows = pow-succ' 127 l in sym (ap (λ n. 127 ^ n) (sym e) ∙ (let swap : 127 ^ suc l ≡ 127 ^ l * 127 = omega arith in swap))

pub above_more : (levels l place : ℕ) → l < levels → place_above (levels - (l + 1)) (place / 127) ≡ place_above (levels - l) place
above_more levels l place lt = let e : levels - l ≡ suc (levels - (l + 1)) = omega arith in sym (ap (λ n. place_above n place) e)

above_le : (levels place : ℕ) → place_above levels place ≤ place
above_le zero place = omega arith
above_le (suc levels) place = let before = above_le levels (place / 127) in omega arith

pub record IsComputed (leaf levels place leaves first : ℕ) : Type 0 where
  pub is : first + (place + 1) * leaves ≡ behind leaf levels
  pub few : behind leaf levels ≤ leaf_count
  pub less : place ≤ leaf

pub is_computed : (leaf levels l place leaves first : ℕ) → leaf < leaf_count → levels ≤ height_of leaf → levels ≤ l →
    place_above (levels - l) place ≡ place_above levels (place_in_tree leaf) → l ≤ levels → leaves ≡ 127 ^ l → first ≡ first_leaf (height_of leaf) →
    IsComputed leaf levels place leaves first
is_computed leaf levels l place leaves first lt le ended above within power is =
    let all : l ≡ levels = omega arith in
    let none : levels - l ≡ 0 = omega arith in
    let at : place ≡ place_above levels (place_in_tree leaf) = ap (λ n. place_above n place) (sym none) ∙ above in
    let less = above_le levels (place_in_tree leaf) in
    let behind_it = is_behind leaf levels lt le in
    record {
      is = ap (λ n. n + (place + 1) * leaves) is ∙ (ap (λ n. first_leaf (height_of leaf) + (n + 1) * leaves) at ∙ ap (λ n. first_leaf (height_of leaf) + (place_above levels (place_in_tree leaf) + 1) * n) (power ∙ ap (λ n. 127 ^ n) all));
      few = behind_it.few;
      less = omega arith;
    }
