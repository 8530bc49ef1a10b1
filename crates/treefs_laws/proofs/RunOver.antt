-- A run of leaves that are missing is attached to a file, with its bytes: what the edits of its plan leave, and a front of them.
use Rattle.std.proofs.Common.{◌≡◌, ◌≢◌, ◌⊎◌, ℕ, ◌+◌, ◌-◌, ◌*◌, ◌/◌, ◌%◌, ◌<◌, ◌≤◌, List, [], ◌∷◌, ◌++◌, length, take, drop, Option, Some, refl, sym, ◌∙◌, ap, inl, inr, arith, subst, length-take-le, take_all, if◌then◌else◌}
use Rattle.std.specs.Prelude.{All, min, slice_index}
use Rattle.std.proofs.Math.Seq.{drop-append_seam, take-append_seam}
use Rattle.std.proofs.lemmas.Bool.{cases_lt, lt-ltb}
use Rattle.std.proofs.lemmas.List.{take_min}
use Rattle.xn_model.specs.Types.{Types}
use Rattle.treefs_format.specs.Fields.{fields_of}
use Rattle.treefs_format.specs.Inodes.{kind_of}
use Rattle.treefs_format.specs.Leaves.{greatest_size}
use Rattle.treefs_format.specs.Paths.{height_of, last_beside, leaf_count, leaf_offset, place_in_tree, steps, tree_steps}
use Rattle.treefs_format.specs.Templates.{IsTree}
use Rattle.treefs_format.specs.declared.fields.Fields.{Fields}
use Rattle.treefs_format.specs.declared.kind.Kind.{Kind}
use Rattle.treefs_format.specs.declared.kind.Kind.TheVariants as kind
use Rattle.treefs_model.specs.Acts.{Act}
use Rattle.treefs_model.specs.Reading.{block_at, leaf_block, pointed}
use Rattle.treefs_lookup.specs.Walks.{pointer_offset, reach}
use Rattle.treefs_lookup.specs.declared.inodes.Found.{Found}
use Rattle.treefs_edits.specs.Memories.{Memory}
use Rattle.treefs_edits.specs.Missing.{last_or_owner, node_acts, node_starts}
use Rattle.treefs_edits.specs.Written.{all_written}
use Rattle.treefs_edits.specs.declared.tree.Tree.{Tree}
use Rattle.treefs_byte_plans.specs.Runs.{holder_acts, leaf_starts, planned_run, run_acts, run_nodes, run_starts}
use Rattle.treefs_byte_plans.specs.declared.run_plan.RunPlan.{RunPlan}
use Rattle.treefs_values.specs.Volumes.{IsWholeBlock}
use Rattle.treefs_values.specs.Ways.{IsWay, block_numbered}
use Rattle.treefs_values.proofs.ForCallers.{AreNew, AreOf, IsOther, IsPathTo, New, blocks_in, new_kept, new_parts, of_long, of_parts, onto, path_to, steps_way}
use Rattle.treefs_laws.proofs.Attaching.{way_type}
use Rattle.treefs_laws.proofs.Fronts.{IsFront}
use Rattle.treefs_laws.proofs.LeavesAttached.{leaves_first, leaves_over, leaves_plain, way_stands}
use Rattle.treefs_laws.proofs.NodesAttached.{AreNodes, IsNext, nodes_front, nodes_over}
use Rattle.treefs_laws.proofs.OverFile.{IsOver}
use Rattle.treefs_laws.proofs.PointersPatched.{attach_each}
use Rattle.treefs_laws.proofs.RunActs.{holder_front, holder_left, sized_by}
use Rattle.treefs_laws.proofs.RunPlanned.{IsBeside, is_beside}
use Rattle.treefs_laws.proofs.RunStarts.{blocks_first, blocks_long, blocks_parts, leaf_starts_long, node_starts_long, written_parts}

-- So many bytes of some

pub taken_long : (k : ℕ) (bytes : List ℕ) → length (take k bytes) ≡ min (length bytes) k
taken_long k bytes = elim (cases_lt (length bytes) k) [
  | inl less ↦ let e = ap length (take_all k bytes (omega arith)) in omega arith
  | inr more ↦ let e = length-take-le k bytes more in omega arith
]

pub taken_least : (k : ℕ) (bytes : List ℕ) → take (min (length bytes) k) bytes ≡ take k bytes
taken_least k bytes = elim (cases_lt (length bytes) k) [
  | inl less ↦ let e : min (length bytes) k ≡ length bytes = omega arith in
      ap (λ n. take n bytes) e ∙ (take_all (length bytes) bytes (omega arith) ∙ sym (take_all k bytes (omega arith)))
  | inr more ↦ let e : min (length bytes) k ≡ k = omega arith in ap (λ n. take n bytes) e
]

-- x: the file as it was planned, in the blocks m0; c0: the blocks once its nodes and leaves are begun, in which it has the bytes that it has in content
module _ (T : Types) (tree : Tree) (memory : Memory) (few : tree.fs.number < 32) (is_tree : IsTree T tree.node_type tree.inode_type) (top n : ℕ)
    (number : n ≢ 0) (x : Found) (there : x.block ≢ 0) (k : Kind) (no_directory : k ≢ kind.Directory) (type : ℕ → ℕ) (content : ℕ → List ℕ)
    (numbered : block_numbered content top n ≡ x.block) (is_kind : kind_of (fields_of (content x.block)).mode ≡ Some k)
    (small : (fields_of (content x.block)).size ≤ greatest_size) (at : ℕ) (c0 : ℕ → List ℕ)
    (over0 : IsOver tree.node_type tree.inode_type top n number x.block there k no_directory content numbered is_kind small at type [] c0)
    (fields_are : fields_of (content x.block) ≡ x.fields) (m0 : ℕ → List ℕ)
    (ways : (l : ℕ) (os : List ℕ) → IsWay os l → block_at c0 x.block os ≡ block_at m0 x.block os)
    (low : at < greatest_size) (bytes : List ℕ) (some_bytes : 0 < length bytes) (wide : All (λ b. b < 256) bytes) (high : 384 ≤ at)
    (count : ℕ) (count_some : 0 < count) (beside : at / 512 + (count - 1) ≤ last_beside (at / 512)) (enough : 512 * (count - 1) < at % 512 + length bytes)
    (missing : (j : ℕ) → j < count → leaf_block m0 x.block (at / 512 + j) ≡ 0) where
  abbrev fs : ℕ
  fs = tree.fs.number

  abbrev node : ℕ
  node = tree.node_type

  abbrev inode : ℕ
  inode = tree.inode_type

  abbrev leaf : ℕ
  leaf = at / 512

  abbrev pub plan : RunPlan
  plan = planned_run tree memory x (reach m0 x.block (steps leaf)) at (length bytes) count

  abbrev owner : ℕ
  owner = plan.owner

  abbrev pub Overs : List ℕ → (ℕ → List ℕ) → Type 0
  Overs written_bytes m = IsOver node inode top n number x.block there k no_directory content numbered is_kind small at type written_bytes m

  -- Leaves side by side

  leaf_few : leaf < leaf_count
  leaf_few = omega arith

  free : leaf_block m0 x.block leaf ≡ 0
  free = ap (leaf_block m0 x.block) (let e : leaf ≡ leaf + 0 = omega arith in e) ∙ missing 0 count_some

  beside_at : (j : ℕ) → j < count → IsBeside leaf j
  beside_at j lt = is_beside leaf j leaf_few (omega arith)

  pub end_few : 512 * (leaf + count) ≤ greatest_size
  end_few = let e = (beside_at (count - 1) (omega arith)).few in omega arith

  -- The bytes that are taken

  abbrev pub taken_bytes : List ℕ
  taken_bytes = take (512 * count - at % 512) bytes

  pub record IsRunLeft (begun : List ℕ) : Type 0 where
    pub left : ℕ → List ℕ
    pub over : Overs taken_bytes left
    pub written_so : (o : Option ℕ) → plan.size ≡ o → all_written (run_acts plan begun) c0 ≡ sized_by memory x.block o left

  -- Its nodes, and its leaves

  module _ (made : List New) (of : AreOf T fs node inode top few is_tree (run_starts bytes plan) made) (are : AreNew node inode type c0 top made) where
    path : (l0 : ℕ) × (q : List ℕ) × (nodes : List ℕ) × IsPathTo c0 m0 x.block there ways leaf leaf_few free l0 q nodes
    path = path_to c0 m0 x.block there ways leaf leaf_few free

    -- its nodes, and its leaves
    parts : (ys : List New) × (zs : List New) × (made ≡ ys ++ zs) × AreOf T fs node inode top few is_tree
        (node_starts node 2 (run_nodes plan)) ys
        × AreOf T fs node inode top few is_tree (leaf_starts count (at % 512) bytes) zs
    parts = of_parts T fs node inode top few is_tree (node_starts node 2 (run_nodes plan)) (leaf_starts count (at % 512) bytes) made of

    abbrev ys : List New
    ys = parts.0

    abbrev zs : List New
    zs = parts.1

    news : AreNew node inode type c0 top ys × AreNew node inode type c0 top zs × All (λ z. All (λ y. IsOther y z) ys) zs
    news = new_parts node inode top type c0 ys zs (subst (AreNew node inode type c0 top) parts.2 are)

    zs_long : length (blocks_in zs) ≡ count
    zs_long = blocks_long zs ∙ (of_long T fs node inode top few is_tree (leaf_starts count (at % 512) bytes) zs parts.4 ∙ leaf_starts_long
        count (at % 512) bytes)

    ys_long : length (blocks_in ys) ≡ length (run_nodes plan)
    ys_long = blocks_long ys ∙ (of_long T fs node inode top few is_tree (node_starts node 2 (run_nodes plan)) ys parts.3 ∙ node_starts_long
        node (run_nodes plan))

    abbrev holder : ℕ
    holder = last_or_owner owner (blocks_in ys)

    abbrev offset : ℕ
    offset = pointer_offset leaf

    abbrev all_acts : List Act
    all_acts = node_acts node 2 owner (run_nodes plan) (blocks_in ys) ++ holder_acts plan holder offset (blocks_in zs)

    acts_are : (begun : List ℕ) → begun ≡ blocks_in made → run_acts plan begun ≡ all_acts
    acts_are begun same =
        let begun_is : begun ≡ blocks_in ys ++ blocks_in zs = same ∙ (ap blocks_in parts.2 ∙ blocks_parts ys zs) in
        let first : take (length (run_nodes plan)) begun ≡ blocks_in ys = (λ j. take (sym ys_long j) (begun_is j)) ∙ take-append_seam (blocks_in ys)
        (blocks_in zs) in
        let rest : drop (length (run_nodes plan)) begun ≡ blocks_in zs = (λ j. drop (sym ys_long j) (begun_is j)) ∙ drop-append_seam (blocks_in ys)
        (blocks_in zs) in
        (λ j. node_acts node 2 owner (run_nodes plan) (first j) ++ holder_acts plan (last_or_owner owner (first j)) offset (rest j))

    module _ (l0 : ℕ) (q nodes : List ℕ) (p : IsPathTo c0 m0 x.block there ways leaf leaf_few free l0 q nodes) where
      abbrev above : List ℕ
      above = onto q nodes

      offset_is : offset ≡ l0
      offset_is = ap (λ os. slice_index os 0) p.steps_are

      nodes_are : run_nodes plan ≡ nodes
      nodes_are =
          let fewer : plan.missing - 1 ≡ length nodes = (let e = p.long in omega arith) in
          (λ j. take (fewer j) (p.path j)) ∙ take-append_seam nodes (l0 ∷ [])

      steps_at : (j : ℕ) → j < count → steps (leaf + j) ≡ (l0 + 4 * j) ∷ above
      steps_at j lt = (beside_at j lt).steps_are ∙ ap (λ os. (slice_index os 0 + 4 * j) ∷ drop 1 os) p.steps_are

      way_at : (j : ℕ) → j < count → IsWay ((l0 + 4 * j) ∷ above) 0
      way_at j lt = subst (λ os. IsWay os 0) (steps_at j lt) (steps_way (leaf + j))

      abbrev More : ℕ → Type 0
      More o = (j : ℕ) × (j < count) × (o ≡ l0 + 4 * j)

      more_stands : (o : ℕ) → More o → (4 ≤ o) × (o + 4 ≤ 512) × (o % 4 ≡ 0)
      more_stands o (j, lt, is) = subst (λ k. (4 ≤ k) × (k + 4 ≤ 512) × (k % 4 ≡ 0)) (sym is) (way_stands (l0 + 4 * j) 0 above (way_at j lt))

      first_way : IsWay (l0 ∷ above) 0
      first_way = subst (λ os. IsWay os 0) p.steps_are (steps_way leaf)

      free_first : (os : List ℕ) → os ≡ nodes → (o : ℕ) → IsNext More os o → pointed c0 owner o ≡ 0
      free_first [] is o (j, lt, o_is) =
          let above_is : q ≡ above = ap (onto q) is in
          ap (pointed c0 owner) o_is
          ∙ (ap (λ b. pointed c0 b (l0 + 4 * j)) (p.holder ∙ ap (block_at c0 x.block) above_is)
          ∙ (ap (block_at c0 x.block) (sym (steps_at j lt)) ∙ (ways 0 (steps (leaf + j)) (steps_way (leaf + j)) ∙ missing j lt)))
      free_first (y ∷ os) is o next = ap (pointed c0 owner) next ∙ p.next_zero y os (sym is)

      with_nodes : AreNodes T fs node inode top few is_tree n number x.block there k no_directory content numbered is_kind small at type l0
          More more_stands [] q nodes ys owner c0
      with_nodes = nodes_over T fs node inode top few is_tree n number x.block there k no_directory content numbered is_kind small at type l0
          More more_stands [] nodes ys q owner c0
          over0 (sym p.holder) p.there first_way (subst (λ os. AreOf T fs node inode top few is_tree (node_starts node 2 os) ys) nodes_are
          parts.3) news.0
          (free_first nodes refl)

      abbrev m1 : ℕ → List ℕ
      m1 = all_written (node_acts node 2 owner nodes (blocks_in ys)) c0

      news1 : AreNew node inode type m1 top zs
      news1 =
          let plain = leaves_plain T fs node inode top few is_tree n number x.block there k no_directory content numbered is_kind small at type
          over0.volume.types.2 count (at % 512) bytes zs parts.4 in
          new_kept node inode top type type c0 m1 (λ z. (z.ty ≢ inode) × All (λ y. IsOther y z) ys) zs (λ i d lt. (plain i d lt, news.2 i d lt))
          (λ z both is. with_nodes.keeps z is both.0 both.1) news.1

      abbrev m2 : ℕ → List ℕ
      m2 = attach_each holder l0 (blocks_in zs) m1

      over2 : Overs taken_bytes m2
      over2 = leaves_over T fs node inode top few is_tree n number x.block there k no_directory content numbered is_kind small at type
          holder with_nodes.some above count zs leaf l0 (at % 512) [] bytes m1 with_nodes.over with_nodes.last parts.4 news1
          (λ j lt. record { few = (beside_at j lt).few; steps_are = steps_at j lt; none = with_nodes.zero_there (l0 + 4 * j) (j, lt, refl) }) wide
          (λ some_leaf. let e = enough in let s = some_bytes in record { high = omega arith; leaf_is = omega arith; place_is = omega arith; enough = omega arith })

      -- the block of the pointers
      holder_long : l0 + 4 * length (blocks_in zs) ≤ length (m1 holder)
      holder_long =
          let v = with_nodes.over.volume in
          let at_block : block_at m1 (block_numbered m1 top n) above ≡ holder = ap (λ b. block_at m1 b above) with_nodes.over.block ∙ with_nodes.last in
          let kind = way_type node inode top type m1 v n 0 l0 above first_way (λ z. with_nodes.some (sym at_block ∙ z)) in
          let whole : IsWholeBlock (m1 holder) = subst (λ b. IsWholeBlock (m1 b)) at_block
          (v.blocks (block_at m1 (block_numbered m1 top n) above) (λ z. elim kind [
            | inl is ↦ v.some_types.1 (sym is ∙ z)
            | inr is ↦ v.some_types.0
                (sym is ∙ z)
          ])) in
          let long = whole.0 in
          let last = (way_stands (l0 + 4 * (count - 1)) 0 above (way_at (count - 1) (omega arith))).1 in
          let z = zs_long in
          omega arith

      -- What the edits leave

      first_is : x.fields.leaf_type ≡ slice_index (m2 x.block) 0
      first_is = ap (λ (g : Fields). g.leaf_type) (sym (over2.fields ∙ fields_are))

      own_long : 0 < length (m2 x.block)
      own_long =
          let v = over2.volume in
          let typed = subst (λ b. b ≢ 0 → type b ≡ inode) over2.block (v.typed.inodes n) there in
          let long = (v.blocks x.block (λ z. v.some_types.1 (sym typed ∙ z))).0 in
          omega arith

      -- in the inode itself
      own_holder : leaf < 16 → holder ≡ x.block
      own_holder lt =
          let own : l0 ∷ above ≡ leaf_offset leaf ∷ [] = sym p.steps_are ∙ ap (λ t. if t then leaf_offset leaf ∷ [] else tree_steps (height_of leaf)
          (place_in_tree leaf)) (lt-ltb leaf 16 lt) in
          sym with_nodes.last ∙ (ap (block_at m1 x.block) (ap (drop 1) own))

      abbrev size : Option ℕ
      size = plan.size

      all_left : (o : Option ℕ) → size ≡ o → all_written all_acts c0 ≡ sized_by memory x.block o m2
      all_left o is =
          written_parts (node_acts node 2 owner (run_nodes plan) (blocks_in ys)) (holder_acts plan holder offset (blocks_in zs)) c0
          ∙ ((λ j. all_written (holder_acts plan holder (offset_is j) (blocks_in zs)) (all_written (node_acts node 2 owner (nodes_are j) (blocks_in ys)) c0))
          ∙ holder_left tree memory x m0 at bytes count (blocks_in zs) zs_long holder l0 m1 holder_long own_holder first_is own_long o is)

      -- Where one of the edits is refused

      first_over : (some_leaves : ℕ) → Overs (take (512 * min some_leaves count - at % 512) bytes) (attach_each holder l0 (take some_leaves (blocks_in zs)) m1)
      first_over some_leaves =
          let least : take (min some_leaves count) (blocks_in zs) ≡ take some_leaves (blocks_in zs) = ap (λ c. take (min some_leaves c) (blocks_in zs)) (sym zs_long) ∙ take_min some_leaves
          (blocks_in zs) in
          subst (λ l. Overs (take (512 * min some_leaves count - at % 512) bytes) (attach_each holder l0 l m1)) (blocks_first (min some_leaves count) zs ∙ least)
          (leaves_first T fs node inode top few is_tree n number x.block there k no_directory content numbered is_kind small at type
          holder with_nodes.some above (min some_leaves count) count (omega arith) zs leaf l0 (at % 512) [] bytes m1 with_nodes.over with_nodes.last parts.4 news1
          (λ j lt. record { few = (beside_at j lt).few; steps_are = steps_at j lt; none = with_nodes.zero_there (l0 + 4 * j) (j, lt, refl) }) wide
          (λ some_leaf. let e = enough in let s = some_bytes in record { high = omega arith; leaf_is = omega arith; place_is = omega arith; enough = omega arith }))

      front_over : (front : List Act) → IsFront all_acts front → (c : ℕ) × Overs (take c bytes) (all_written front c0)
      front_over front is = by (nodes_front T fs node inode top few is_tree n number x.block there k no_directory content numbered is_kind small at type l0
          More more_stands [] nodes ys q owner c0
          over0 (sym p.holder) p.there first_way (subst (λ os. AreOf T fs node inode top few is_tree (node_starts node 2 os) ys) nodes_are
          parts.3) news.0
          (free_first nodes refl) (holder_acts plan holder l0 (blocks_in zs)) front
          (subst (λ acts. IsFront acts front) (λ j. node_acts node 2 owner (nodes_are j) (blocks_in ys) ++ holder_acts plan holder (offset_is j)
          (blocks_in zs)) is))
        where
          by : Overs [] (all_written front c0) ⊎ ((front' : List Act) × IsFront (holder_acts plan holder l0 (blocks_in zs)) front' ×
              (all_written front c0 ≡ all_written front' m1)) →
              (c : ℕ) × Overs (take c bytes) (all_written front c0)
          by (inl over) = (0, over)
          by (inr rest) =
              let h = holder_front tree memory x m0 at bytes count (blocks_in zs) zs_long holder l0 m1 holder_long own_holder first_is own_long
              rest.0 rest.1 in
              (512 * min h.0 count - at % 512, subst (Overs (take (512 * min h.0 count - at % 512) bytes)) (sym (rest.2 ∙ h.1)) (first_over h.0))

    pub run_left : (begun : List ℕ) → begun ≡ blocks_in made → IsRunLeft begun
    run_left begun same = record {
      left = m2 path.0 path.1 path.2 path.3;
      over = over2 path.0 path.1 path.2 path.3;
      written_so = λ o is. ap (λ acts. all_written acts c0) (acts_are begun same) ∙ all_left path.0 path.1 path.2 path.3 o is;
    }

    pub run_front : (begun : List ℕ) → begun ≡ blocks_in made → (front : List Act) → IsFront (run_acts plan begun) front →
        (c : ℕ) × Overs (take c bytes) (all_written front c0)
    run_front begun same front is = front_over path.0 path.1 path.2 path.3 front (subst (λ acts. IsFront acts front) (acts_are begun same) is)
