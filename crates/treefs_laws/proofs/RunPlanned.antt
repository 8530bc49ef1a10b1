-- What is planned of a run of leaves that are missing: some leaves, with pointers side by side, each with a byte.
use Rattle.std.proofs.Common.{◌≡◌, ◌⊎◌, ℕ, zero, suc, ◌+◌, ◌-◌, ◌*◌, ◌/◌, ◌%◌, ◌<◌, ◌≤◌, Bool, true, false, ◌&&◌, List, [], ◌∷◌, ◌++◌, length, drop, Result, Ok, Err, refl, sym, ◌∙◌, ap, inl, inr, arith, subst, if◌then◌else◌}
use Rattle.std.specs.Prelude.{map, min, nat_lt, slice_index, ◌==◌}
use Rattle.std.proofs.lemmas.Bool.{cases_lt, eq-eqb, eqb-true, le-ltb, lt-ltb, ltb-false}
use Rattle.xn_model.specs.Lives.{StoreState}
use Rattle.treefs_format.specs.Leaves.{greatest_size}
use Rattle.treefs_format.specs.Paths.{first_leaf, height_of, last_beside, leaf_count, leaf_offset, node_offset, place_in_tree, places, steps, tree_offset, tree_steps}
use Rattle.treefs_model.specs.Reading.{leaf_block}
use Rattle.treefs_model.specs.declared.fault.Fault.{Fault}
use Rattle.treefs_model.specs.declared.fault.Fault.TheVariants.{Full}
use Rattle.treefs_lookup.specs.Readable.{readable}
use Rattle.treefs_lookup.specs.Walks.{reach}
use Rattle.treefs_lookup.specs.declared.inodes.Found.{Found}
use Rattle.treefs_edits.specs.Memories.{Memory}
use Rattle.treefs_edits.specs.Rooms.{has_room}
use Rattle.treefs_edits.specs.declared.tree.Tree.{Tree}
use Rattle.treefs_byte_plans.specs.Runs.{fitting, leaves_with_room, missing_count, most_leaves, planned_run, run_in_room, run_planned}
use Rattle.treefs_byte_plans.specs.declared.run_plan.RunPlan.{RunPlan}
use Rattle.treefs_laws.proofs.CutWays.{InTree, in_tree}
use Rattle.treefs_laws.proofs.Planned.{same_done, then_ok}

-- Leaves beside another

tree_height : (i h : ℕ) → InTree i h → height_of i ≡ h
tree_height i h (inl a) =
    ap (λ t. if t then 0 else if nat_lt i 143 then 1 else if nat_lt i 16272 then 2 else if nat_lt i 2064655 then 3 else 4) (lt-ltb i 16 a.1) ∙ sym a.0
tree_height i h (inr rest) = by rest
  where
    first : 16 ≤ i → height_of i ≡ (if nat_lt i 143 then 1 else if nat_lt i 16272 then 2 else if nat_lt i 2064655 then 3 else 4)
    first low = ap (λ t. if t then 0 else if nat_lt i 143 then 1 else if nat_lt i 16272 then 2 else if nat_lt i 2064655 then 3 else 4) (le-ltb i 16 low)

    second : 143 ≤ i → height_of i ≡ (if nat_lt i 16272 then 2 else if nat_lt i 2064655 then 3 else 4)
    second low = first (omega arith) ∙ ap (λ t. if t then 1 else if nat_lt i 16272 then 2 else if nat_lt i 2064655 then 3 else 4) (le-ltb i 143 low)

    third : 16272 ≤ i → height_of i ≡ (if nat_lt i 2064655 then 3 else 4)
    third low = second (omega arith) ∙ ap (λ t. if t then 2 else if nat_lt i 2064655 then 3 else 4) (le-ltb i 16272 low)

    by : ((h ≡ 1) × (16 ≤ i) × (i < 143)) ⊎ (((h ≡ 2) × (143 ≤ i) × (i < 16272)) ⊎ (((h ≡ 3) × (16272 ≤ i) × (i < 2064655)) ⊎ ((h ≡ 4) × (2064655 ≤ i)))) →
        height_of i ≡ h
    by (inl a) = first a.1 ∙ (ap (λ t. if t then 1 else if nat_lt i 16272 then 2 else if nat_lt i 2064655 then 3 else 4) (lt-ltb i 143 a.2) ∙ sym a.0)
    by (inr (inl a)) = second a.1 ∙ (ap (λ t. if t then 2 else if nat_lt i 2064655 then 3 else 4) (lt-ltb i 16272 a.2) ∙ sym a.0)
    by (inr (inr (inl a))) = third a.1 ∙ (ap (λ t. if t then 3 else 4) (lt-ltb i 2064655 a.2) ∙ sym a.0)
    by (inr (inr (inr a))) = let low = a.1 in third (omega arith) ∙ (ap (λ t. if t then 3 else 4) (le-ltb i 2064655 a.1) ∙ sym a.0)

tree_beside : (h r j : ℕ) → r % 127 + j ≤ 126 → tree_steps (suc h) (r + j) ≡ (slice_index (tree_steps (suc h) r) 0 + 4 * j) ∷ drop 1 (tree_steps (suc h) r)
tree_beside h r j few =
    let place : node_offset ((r + j) % 127) ≡ node_offset (r % 127) + 4 * j = omega arith in
    let above : (r + j) / 127 ≡ r / 127 = omega arith in
    (λ i. place i ∷ (map node_offset (places h (above i)) ++ tree_offset (suc h) ∷ []))

pub record IsBeside (leaf j : ℕ) : Type 0 where
  pub few : leaf + j < leaf_count
  pub steps_are : steps (leaf + j) ≡ (slice_index (steps leaf) 0 + 4 * j) ∷ drop 1 (steps leaf)

module _ (leaf j : ℕ) (leaf_few : leaf < leaf_count) (low : leaf + j ≤ last_beside leaf) where
  in_inode : leaf < 16 → IsBeside leaf j
  in_inode lt =
      let last : last_beside leaf ≡ 15 = ap (λ t. if t then 15 else leaf + (126 - place_in_tree leaf % 127)) (lt-ltb leaf 16 lt) in
      let there : leaf + j < 16 = omega arith in
      let own : steps leaf ≡ leaf_offset leaf ∷ [] = ap (λ t. if t then leaf_offset leaf ∷ [] else tree_steps (height_of leaf) (place_in_tree leaf))
      (lt-ltb leaf 16 lt) in
      let place : leaf_offset (leaf + j) ≡ leaf_offset leaf + 4 * j = omega arith in
      record {
        few = omega arith;
        steps_are = ap (λ t. if t then leaf_offset (leaf + j) ∷ [] else tree_steps (height_of (leaf + j)) (place_in_tree (leaf + j)))
            (lt-ltb (leaf + j) 16 there)
            ∙ ((λ i. place i ∷ []) ∙ sym (ap (λ os. (slice_index os 0 + 4 * j) ∷ drop 1 os) own));
      }

  -- both in the tree of a height
  module _ (h : ℕ) (high : 16 ≤ leaf) (height : height_of leaf ≡ suc h) (first : ℕ) (past : first ≤ leaf) (place : place_in_tree leaf ≡ leaf - first)
      (place' : place_in_tree (leaf + j) ≡ leaf + j - first) (height' : height_of (leaf + j) ≡ suc h) (few : leaf + j < leaf_count)
      (beside : (leaf - first) % 127 + j ≤ 126) where
    in_tree_of : IsBeside leaf j
    in_tree_of =
        let own : steps leaf ≡ tree_steps (suc h) (leaf - first) =
        ap (λ t. if t then leaf_offset leaf ∷ [] else tree_steps (height_of leaf) (place_in_tree leaf)) (le-ltb leaf 16 high) ∙
        (λ i. tree_steps (height i) (place i)) in
        let there : steps (leaf + j) ≡ tree_steps (suc h) (leaf + j - first) =
        ap (λ t. if t then leaf_offset (leaf + j) ∷ [] else tree_steps (height_of (leaf + j)) (place_in_tree (leaf + j))) (le-ltb (leaf + j) 16 (omega arith))
        ∙ (λ i. tree_steps (height' i) (place' i)) in
        let whole : leaf + j - first ≡ leaf - first + j = omega arith in
        record {
          few = few;
          steps_are = there ∙ (ap (tree_steps (suc h)) whole ∙ (tree_beside h (leaf - first) j beside ∙ sym
              (ap (λ os. (slice_index os 0 + 4 * j) ∷ drop 1 os) own)));
        }

  last_is : 16 ≤ leaf → leaf + j ≤ leaf + (126 - place_in_tree leaf % 127)
  last_is high = subst (λ k. leaf + j ≤ k) (ap (λ t. if t then 15 else leaf + (126 - place_in_tree leaf % 127)) (le-ltb leaf 16 high)) low

  of_one : 16 ≤ leaf → leaf < 143 → height_of leaf ≡ 1 → IsBeside leaf j
  of_one past less height =
      let place : place_in_tree leaf ≡ leaf - 16 = ap (λ h. leaf - first_leaf h) height in
      let last = subst (λ p. leaf + j ≤ leaf + (126 - p % 127)) place (last_is (omega arith)) in
      let beside : (leaf - 16) % 127 + j ≤ 126 = omega arith in
      let height' : height_of (leaf + j) ≡ 1 = tree_height (leaf + j) 1 (inr (inl (refl, omega arith, omega arith))) in
      in_tree_of 0 (omega arith) height 16 past place (ap (λ h. leaf + j - first_leaf h) height') height' (omega arith) beside

  of_two : 143 ≤ leaf → leaf < 16272 → height_of leaf ≡ 2 → IsBeside leaf j
  of_two past less height =
      let place : place_in_tree leaf ≡ leaf - 143 = ap (λ h. leaf - first_leaf h) height in
      let last = subst (λ p. leaf + j ≤ leaf + (126 - p % 127)) place (last_is (omega arith)) in
      let beside : (leaf - 143) % 127 + j ≤ 126 = omega arith in
      let height' : height_of (leaf + j) ≡ 2 = tree_height (leaf + j) 2 (inr (inr (inl (refl, omega arith, omega arith)))) in
      in_tree_of 1 (omega arith) height 143 past place (ap (λ h. leaf + j - first_leaf h) height') height' (omega arith) beside

  of_three : 16272 ≤ leaf → leaf < 2064655 → height_of leaf ≡ 3 → IsBeside leaf j
  of_three past less height =
      let place : place_in_tree leaf ≡ leaf - 16272 = ap (λ h. leaf - first_leaf h) height in
      let last = subst (λ p. leaf + j ≤ leaf + (126 - p % 127)) place (last_is (omega arith)) in
      let beside : (leaf - 16272) % 127 + j ≤ 126 = omega arith in
      let height' : height_of (leaf + j) ≡ 3 = tree_height (leaf + j) 3 (inr (inr (inr (inl (refl, omega arith, omega arith))))) in
      in_tree_of 2 (omega arith) height 16272 past place (ap (λ h. leaf + j - first_leaf h) height') height' (omega arith) beside

  of_four : 2064655 ≤ leaf → height_of leaf ≡ 4 → IsBeside leaf j
  of_four past height =
      let place : place_in_tree leaf ≡ leaf - 2064655 = ap (λ h. leaf - first_leaf h) height in
      let last = subst (λ p. leaf + j ≤ leaf + (126 - p % 127)) place (last_is (omega arith)) in
      let beside : (leaf - 2064655) % 127 + j ≤ 126 = omega arith in
      let height' : height_of (leaf + j) ≡ 4 = tree_height (leaf + j) 4 (inr (inr (inr (inr (refl, omega arith))))) in
      in_tree_of 3 (omega arith) height 2064655 past place (ap (λ h. leaf + j - first_leaf h) height') height' (omega arith) beside

  pub is_beside : IsBeside leaf j
  is_beside = by (height_of leaf) refl (in_tree leaf)
    where
      by : (h : ℕ) → height_of leaf ≡ h → InTree leaf h → IsBeside leaf j
      by h e (inl a) = in_inode a.1
      by h e (inr (inl a)) = of_one a.1 a.2 (e ∙ a.0)
      by h e (inr (inr (inl a))) = of_two a.1 a.2 (e ∙ a.0)
      by h e (inr (inr (inr (inl a)))) = of_three a.1 a.2 (e ∙ a.0)
      by h e (inr (inr (inr (inr a)))) = of_four a.1 (e ∙ a.0)

-- Leaves that are missing

module _ (content : ℕ → List ℕ) (inode : ℕ) where
  pub missing_at : (most leaf j : ℕ) → j < missing_count content inode leaf most → leaf_block content inode (leaf + j) ≡ 0
  missing_at zero leaf j lt = absurd (omega arith)
  missing_at (suc most) leaf j lt = by (missing_at most (leaf + 1)) (leaf_block content inode leaf == 0) refl j lt
    where
      by : ((j : ℕ) → j < missing_count content inode (leaf + 1) most → leaf_block content inode (leaf + 1 + j) ≡ 0) → (t : Bool) →
          (leaf_block content inode leaf == 0) ≡ t → (j : ℕ) → j < (if t then 1 + missing_count content inode (leaf + 1) most else 0) → leaf_block content
          inode (leaf + j) ≡ 0
      by later false e j lt = absurd (omega arith)
      by later true e zero lt = ap (leaf_block content inode) (let s : leaf + 0 ≡ leaf = omega arith in s) ∙ eqb-true (leaf_block content inode leaf) 0 e
      by later true e (suc j) lt = ap (leaf_block content inode) (let s : leaf + suc j ≡ leaf + 1 + j = omega arith in s) ∙ later j (omega arith)

  pub missing_few : (most leaf : ℕ) → missing_count content inode leaf most ≤ most
  missing_few zero leaf = omega arith
  missing_few (suc most) leaf = by (leaf_block content inode leaf == 0) (missing_few most (leaf + 1))
    where
      by : (t : Bool) → missing_count content inode (leaf + 1) most ≤ most → (if t then 1 + missing_count content inode (leaf + 1) most else 0) ≤ suc most
      by true few = omega arith
      by false few = omega arith

  pub missing_some : (most leaf : ℕ) → 0 < most → leaf_block content inode leaf ≡ 0 → 0 < missing_count content inode leaf most
  missing_some zero leaf some z = absurd (omega arith)
  missing_some (suc most) leaf some z =
      subst (λ t. 0 < (if t then 1 + missing_count content inode (leaf + 1) most else 0)) (sym (eq-eqb (leaf_block content inode leaf) 0 z)) (omega arith)

-- The plan

module _ (state : StoreState) (tree : Tree) (memory : Memory) (file : Found) (at bytes : ℕ) where
  abbrev content : ℕ → List ℕ
  content = readable state tree.fs.number

  abbrev leaf : ℕ
  leaf = at / 512

  abbrev most : ℕ
  most = most_leaves leaf (at % 512 + bytes)

  pub record IsRunOf (plan : RunPlan) : Type 0 where
    pub count : ℕ
    pub some : 0 < count
    pub few : count ≤ most
    pub missing : (j : ℕ) → j < count → leaf_block content file.block (leaf + j) ≡ 0
    pub plan_is : plan ≡ planned_run tree memory file (reach content file.block (steps leaf)) at bytes count

  fits : (room fit : ℕ) → fitting most room ≡ Ok fit → (fit ≤ most) × (0 < most → 0 < fit)
  fits room fit e = by (nat_lt room most) refl (nat_lt room 64) refl e
    where
      fit_is : min most room ≡ fit → (nat_lt room most ≡ false) ⊎ (nat_lt room 64 ≡ false) → (fit ≤ most) × (0 < most → 0 < fit)
      fit_is same enough = elim enough [
        | inl all ↦ let le = ltb-false room most all in (omega arith, λ some. omega arith)
        | inr many ↦ let le = ltb-false room 64 many in (omega arith, λ some. omega arith)
      ]

      by : (s : Bool) → nat_lt room most ≡ s → (t : Bool) → nat_lt room 64 ≡ t → (if s && t then Err Full else Ok (min most room)) ≡ Ok fit → (fit ≤ most) ×
          (0 < most → 0 < fit)
      by true e true e' done = absurd (cc done)
      by true e false e' done = fit_is (same_done (min most room) fit done) (inr e')
      by false e t e' done = fit_is (same_done (min most room) fit done) (inl e)

  in_room : (fit : ℕ) (plan : RunPlan) (t : Bool) → let count = missing_count content file.block leaf fit in
      let owner = reach content file.block (steps leaf) in
      ◌≡◌ {A = Result RunPlan Fault} (if t then Ok (planned_run tree memory file owner at bytes count) else Err Full) (Ok plan) → plan ≡ planned_run tree
      memory file owner at bytes count
  in_room fit plan true e = sym (same_done (planned_run tree memory file (reach content file.block (steps leaf)) at bytes
      (missing_count content file.block leaf fit)) plan e)
  in_room fit plan false e = absurd (cc e)

  pub run_of : (plan : RunPlan) → 0 < bytes → at < greatest_size → leaf_block content file.block leaf ≡ 0 → run_planned state tree memory file at bytes ≡ Ok
      plan → IsRunOf plan
  run_of plan some low none e =
      let a = then_ok (fitting most (leaves_with_room state tree.fs.number (length memory.touched)))
      (λ fit. run_in_room state tree memory file at bytes (missing_count content file.block leaf fit)) plan e in
      let f = fits (leaves_with_room state tree.fs.number (length memory.touched)) a.0 a.1 in
      let few = missing_few content file.block a.0 leaf in
      let le = f.0 in
      record {
        count = missing_count content file.block leaf a.0;
        some = missing_some content file.block a.0 leaf (f.1 most_some) none;
        few = omega arith;
        missing = missing_at content file.block a.0 leaf;
        plan_is = in_room a.0 plan (has_room state tree.fs.number (length memory.touched)
            (missing_count content file.block leaf a.0 + missing_count content file.block leaf a.0 / 16 + 12)
            ((file.block, 3) ∷ ((reach content file.block (steps leaf)).block, missing_count content file.block leaf a.0 / 16 + 2) ∷ [])) a.2;
      }
    where
      last_past : leaf ≤ last_beside leaf
      last_past = elim (cases_lt leaf 16) [
        | inl few ↦ let e = ap (λ t. if t then 15 else leaf + (126 - place_in_tree leaf % 127)) (lt-ltb leaf 16 few) in subst (λ k. leaf ≤ k) (sym e)
            (omega arith)
        | inr many ↦ let e = ap (λ t. if t then 15 else leaf + (126 - place_in_tree leaf % 127)) (le-ltb leaf 16 many) in subst (λ k. leaf ≤ k) (sym e)
            (omega arith)
      ]

      most_some : 0 < most
      most_some = let p = last_past in omega arith
