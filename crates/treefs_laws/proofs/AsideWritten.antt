-- A run of leaves is written into an inode that has no number: it has none still, and no file changes.
use mathlib.Core.Path.{fun_ext}
use Rattle.std.proofs.Common.{◌≡◌, ◌≢◌, ℕ, zero, suc, ◌+◌, ◌-◌, ◌*◌, ◌/◌, ◌%◌, ◌^◌, ◌<◌, ◌≤◌, Bool, true, false, ◌&&◌, List, [], ◌∷◌, ◌++◌, length, take, drop, Option, None, Some, Result, refl, sym, ◌∙◌, ap, inl, inr, arith, subst, append-nil, if◌then◌else◌}
use Rattle.std.specs.Prelude.{All, is_none, nat_lt, slice_index, ◌==◌}
use Rattle.std.specs.Int.{div_ceil}
use Rattle.std.proofs.Math.Seq.{drop-append_seam, take-append_seam}
use Rattle.std.proofs.lemmas.Bool.{lt-ltb, ltb-true}
use Rattle.std.proofs.lemmas.List.Elements.{All-append, All-cons, All-nil}
use Rattle.store_types.specs.declared.refusal.Refusal.{Refusal}
use Rattle.xn_model.specs.Types.{Types}
use Rattle.xn_model.specs.Lives.{StoreState}
use Rattle.treefs_format.specs.Fields.{changes_patch, fields_of}
use Rattle.treefs_format.specs.Leaves.{greatest_size}
use Rattle.treefs_format.specs.Paths.{height_of, last_beside, leaf_count, leaf_offset, place_in_tree, steps, tree_steps}
use Rattle.treefs_format.specs.Templates.{IsTree}
use Rattle.treefs_format.specs.declared.fields.Fields.{Fields}
use Rattle.treefs_lookup.specs.Readable.{readable}
use Rattle.treefs_lookup.specs.Walks.{pointer_offset, reach}
use Rattle.treefs_lookup.specs.declared.inodes.Found.{Found}
use Rattle.treefs_model.specs.Acts.{Act, Ran, changes_act, patch_act, wait_act}
use Rattle.treefs_model.specs.Reading.{block_at, files_of, leaf_block, pointed}
use Rattle.treefs_model.specs.declared.fault.Fault.{Fault}
use Rattle.treefs_edits.specs.Memories.{Memory}
use Rattle.treefs_edits.specs.Missing.{last_or_owner, node_acts, node_starts}
use Rattle.treefs_edits.specs.Plans.{Does}
use Rattle.treefs_edits.specs.Written.{written}
use Rattle.treefs_edits.specs.declared.start.Start.{Start}
use Rattle.treefs_edits.specs.declared.tree.Tree.{Tree}
use Rattle.treefs_byte_plans.specs.Fields.{size_acts, size_changes, times_now}
use Rattle.treefs_byte_plans.specs.Runs.{attach_acts, ends_in, holder_acts, leaf_starts, own_act, planned_run, run_acts, run_nodes, run_plan, run_starts, run_waits, size_parts}
use Rattle.treefs_byte_plans.specs.declared.run_plan.RunPlan.{RunPlan}
use Rattle.treefs_values.specs.Kinds.{kinds}
use Rattle.treefs_values.specs.Ways.{IsWay}
use Rattle.treefs_values.proofs.ForCallers.{AreBegun, AreNew, AreOf, IsFineStart, IsOther, IsPathTo, New, begun_so, blocks_in, new_kept, new_parts, of_long, of_parts, onto, path_to, steps_way}
use Rattle.treefs_laws.proofs.AsideBegun.{IsAsideAt, KeepsTree, Stays, stays_then}
use Rattle.treefs_laws.proofs.AsideEdits.{does_stays, made_aside, own_placed, own_whole, ran_first, size_made, sizes_adjoin, sizes_whole, wait_made, whole_own}
use Rattle.treefs_laws.proofs.AsideRun.{AreBeside, AreNodesRan, IsFreePlace, attach_ran, beside, nodes_ran, together_is}
use Rattle.treefs_laws.proofs.AsideTree.{IsAside}
use Rattle.treefs_laws.proofs.LeavesAttached.{way_stands}
use Rattle.treefs_laws.proofs.NodesAttached.{IsNext}
use Rattle.treefs_laws.proofs.PointersPatched.{attach_each, patches_behind}
use Rattle.treefs_laws.proofs.RunPlanned.{IsBeside, is_beside}
use Rattle.treefs_laws.proofs.RunStarts.{blocks_long, blocks_parts, leaf_starts_long, leaves_fine, node_starts_long, nodes_fine}

leaves_data : (T : Types) (fs node inode top : ℕ) (few : fs < 32) (tree : IsTree T node inode) (count place : ℕ) (rest : List ℕ) (zs : List New) →
    AreOf T fs node inode top few tree (leaf_starts count place rest) zs → All (λ (z : New). z.ty ≡ 2) zs
leaves_data T fs node inode top few tree zero place rest [] of = All-nil (λ (z : New). z.ty ≡ 2)
leaves_data T fs node inode top few tree zero place rest (z ∷ zs) of = absurd of
leaves_data T fs node inode top few tree (suc count) place rest [] of = absurd of
leaves_data T fs node inode top few tree (suc count) place rest (z ∷ zs) of =
    All-cons (λ (z : New). z.ty ≡ 2) z zs of.0 (leaves_data T fs node inode top few tree count 0 (drop (512 - place) rest) zs of.2)

module _ (T : Types) (tree : Tree) (few : tree.fs.number < 32) (is_tree : IsTree T tree.node_type tree.inode_type)
    (short : tree.node_type < 2 ^ 8) (memory : Memory) (s0 : StoreState) (x : Found)
    (at0 : IsAsideAt T tree.fs.number tree.node_type tree.inode_type tree.top x.block few is_tree s0)
    (fields_are : fields_of (readable s0 tree.fs.number x.block) ≡ x.fields) (at : ℕ) (bytes : List ℕ) (wide : All (λ b. b < 256) bytes)
    (low : at < greatest_size) (count : ℕ) (count_some : 0 < count) (beside_is : at / 512 + (count - 1) ≤ last_beside (at / 512))
    (missing : (j : ℕ) → j < count → leaf_block (readable s0 tree.fs.number) x.block (at / 512 + j) ≡ 0) where
  abbrev fs : ℕ
  fs = tree.fs.number

  abbrev top : ℕ
  top = tree.top

  abbrev node : ℕ
  node = tree.node_type

  abbrev inode : ℕ
  inode = tree.inode_type

  abbrev content : ℕ → List ℕ
  content = readable s0 fs

  abbrev c : ℕ
  c = x.block

  abbrev At : StoreState → Type 0
  At = IsAsideAt T fs node inode top c few is_tree

  abbrev Stay : StoreState → StoreState → Type 0
  Stay = Stays T fs node inode top c few is_tree

  abbrev leaf : ℕ
  leaf = at / 512

  abbrev plan : RunPlan
  plan = planned_run tree memory x (reach content c (steps leaf)) at (length bytes) count

  abbrev owner : ℕ
  owner = plan.owner

  -- Leaves side by side

  leaf_few : leaf < leaf_count
  leaf_few = omega arith

  free : leaf_block content c leaf ≡ 0
  free = ap (leaf_block content c) (let e : leaf ≡ leaf + 0 = omega arith in e) ∙ missing 0 count_some

  beside_at : (j : ℕ) → j < count → IsBeside leaf j
  beside_at j lt = is_beside leaf j leaf_few (omega arith)

  abbrev Fine : Start → Type 0
  Fine = IsFineStart T fs node inode top few is_tree

  starts_fine : All Fine (run_starts bytes plan)
  starts_fine =
      let v = at0.here.volume in
      All-append Fine (node_starts node 2 (run_nodes plan)) (leaf_starts count (at % 512) bytes)
      (nodes_fine T fs node inode top few is_tree (v.types.1, v.types.2) v.some_types.0 short (run_nodes plan))
      (leaves_fine T fs node inode top few is_tree (v.types.1, v.types.2) v.some_types.0 short count (at % 512) bytes (omega arith) wide)

  module _ (s : StoreState) (begun : List ℕ) (a : AreBegun T fs node inode top few is_tree (run_starts bytes plan) [] begun s0 s)
      (at_s : IsAsideAt T fs node inode top x.block few is_tree s) (keeps : KeepsTree T fs node inode top x.block few is_tree s0 s) where
    abbrev c0 : ℕ → List ℕ
    c0 = readable s fs

    path : (l0 : ℕ) × (q : List ℕ) × (nodes : List ℕ) × IsPathTo c0 content c at0.aside.there keeps.ways leaf leaf_few free l0 q nodes
    path = path_to c0 content c at0.aside.there keeps.ways leaf leaf_few free

    -- its nodes, and its leaves
    parts : (ys : List New) × (zs : List New) × (a.made ≡ ys ++ zs) × AreOf T fs node inode top few is_tree (node_starts node 2 (run_nodes plan)) ys
        × AreOf T fs node inode top few is_tree (leaf_starts count (at % 512) bytes) zs
    parts = of_parts T fs node inode top few is_tree (node_starts node 2 (run_nodes plan)) (leaf_starts count (at % 512) bytes) a.made a.of

    abbrev ys : List New
    ys = parts.0

    abbrev zs : List New
    zs = parts.1

    news : AreNew node inode (kinds s fs) c0 top ys × AreNew node inode (kinds s fs) c0 top zs × All (λ z. All (λ y. IsOther y z) ys) zs
    news = new_parts node inode top (kinds s fs) c0 ys zs (subst (AreNew node inode (kinds s fs) c0 top) parts.2 a.news)

    zs_long : length zs ≡ count
    zs_long = of_long T fs node inode top few is_tree (leaf_starts count (at % 512) bytes) zs parts.4 ∙ leaf_starts_long count (at % 512) bytes

    ys_long : length (blocks_in ys) ≡ length (run_nodes plan)
    ys_long = blocks_long ys ∙ (of_long T fs node inode top few is_tree (node_starts node 2 (run_nodes plan)) ys parts.3 ∙ node_starts_long node (run_nodes plan))

    zs_data : All (λ (z : New). z.ty ≡ 2) zs
    zs_data = leaves_data T fs node inode top few is_tree count (at % 512) bytes zs parts.4

    begun_is : begun ≡ blocks_in ys ++ blocks_in zs
    begun_is = a.blocks_are ∙ (ap blocks_in parts.2 ∙ blocks_parts ys zs)

    abbrev holder : ℕ
    holder = last_or_owner owner (blocks_in ys)

    abbrev offset : ℕ
    offset = pointer_offset leaf

    acts_are : run_acts plan begun ≡ node_acts node 2 owner (run_nodes plan) (blocks_in ys) ++ holder_acts plan holder offset (blocks_in zs)
    acts_are =
        let first : take (length (run_nodes plan)) begun ≡ blocks_in ys = (λ j. take (sym ys_long j) (begun_is j)) ∙ take-append_seam (blocks_in ys)
        (blocks_in zs) in
        let rest : drop (length (run_nodes plan)) begun ≡ blocks_in zs = (λ j. drop (sym ys_long j) (begun_is j)) ∙ drop-append_seam (blocks_in ys)
        (blocks_in zs) in
        (λ j. node_acts node 2 owner (run_nodes plan) (first j) ++ holder_acts plan (last_or_owner owner (first j)) offset (rest j))

    module _ (l0 : ℕ) (q nodes : List ℕ) (p : IsPathTo c0 content x.block at0.aside.there keeps.ways leaf leaf_few free l0 q nodes) where
      abbrev above : List ℕ
      above = onto q nodes

      offset_is : offset ≡ l0
      offset_is = ap (λ os. slice_index os 0) p.steps_are

      nodes_are : run_nodes plan ≡ nodes
      nodes_are =
          let fewer : plan.missing - 1 ≡ length nodes = (let e = p.long in omega arith) in
          (λ j. take (fewer j) (p.path j)) ∙ take-append_seam nodes (l0 ∷ [])

      steps_at : (j : ℕ) → j < count → steps (leaf + j) ≡ (l0 + 4 * j) ∷ above
      steps_at j lt = (beside_at j lt).steps_are ∙ ap (λ os. (slice_index os 0 + 4 * j) ∷ drop 1 os) p.steps_are

      way_at : (j : ℕ) → j < count → IsWay ((l0 + 4 * j) ∷ above) 0
      way_at j lt = subst (λ os. IsWay os 0) (steps_at j lt) (steps_way (leaf + j))

      abbrev More : ℕ → Type 0
      More o = (j : ℕ) × (j < count) × (o ≡ l0 + 4 * j)

      more_stands : (o : ℕ) → More o → (4 ≤ o) × (o + 4 ≤ 512) × (o % 4 ≡ 0)
      more_stands o (j, lt, is) = subst (λ k. (4 ≤ k) × (k + 4 ≤ 512) × (k % 4 ≡ 0)) (sym is) (way_stands (l0 + 4 * j) 0 above (way_at j lt))

      first_way : IsWay (l0 ∷ above) 0
      first_way = subst (λ os. IsWay os 0) p.steps_are (steps_way leaf)

      free_first : (os : List ℕ) → os ≡ nodes → (o : ℕ) → IsNext More os o → pointed c0 owner o ≡ 0
      free_first [] is o (j, lt, o_is) =
          let above_is : q ≡ above = ap (onto q) is in
          ap (pointed c0 owner) o_is
          ∙ (ap (λ b. pointed c0 b (l0 + 4 * j)) (p.holder ∙ ap (block_at c0 c) above_is)
          ∙ (ap (block_at c0 c) (sym (steps_at j lt)) ∙ (keeps.ways 0 (steps (leaf + j)) (steps_way (leaf + j)) ∙ missing j lt)))
      free_first (y ∷ os) is o next = ap (pointed c0 owner) next ∙ p.next_zero y os (sym is)

      abbrev last_acts : List Act
      last_acts = holder_acts plan holder l0 (blocks_in zs)

      -- once the nodes are there
      module _ (new : StoreState) (result : Result (Unit {0}) Refusal)
          (r : AreNodesRan T fs node inode top x.block few is_tree l0 More more_stands last_acts q nodes ys owner s new result) where
        abbrev m1 : ℕ → List ℕ
        m1 = readable r.left fs

        at_left : At r.left
        at_left = r.stays.0

        news_left : AreNew node inode (kinds r.left fs) m1 top zs
        news_left = new_kept node inode top (kinds s fs) (kinds r.left fs) c0 m1 (λ z. (z.ty ≢ inode) × All (λ y. IsOther y z) ys) zs
            (λ i d lt. ((λ same. at_s.here.volume.types.2 (sym (zs_data i d lt) ∙ same)), news.2 i d lt)) (λ z both is. r.keeps z is both.0 both.1) news.1

        free_left : (j : ℕ) → j < length zs → IsFreePlace node inode top c (kinds r.left fs) m1 above holder l0 j
        free_left j lt = let z = zs_long in
            let few_j : j < count = omega arith in record { way = way_at j few_j; none = r.zeros (l0 + 4 * j) (j, few_j, refl) }

        then_stay : (end : StoreState) → Stay r.left end → Stay s end
        then_stay end stay = stays_then T fs node inode top c few is_tree s r.left end r.stays stay

        -- in the inode itself

        own_holder : leaf < 16 → holder ≡ c
        own_holder lt =
            let own : l0 ∷ above ≡ leaf_offset leaf ∷ [] = sym p.steps_are ∙ ap (λ t. if t then leaf_offset leaf ∷ [] else tree_steps (height_of leaf)
            (place_in_tree leaf)) (lt-ltb leaf 16 lt) in
            sym r.last ∙ (ap (block_at m1 c) (ap (drop 1) own))

        no_more : AreNew node inode (kinds r.left fs) m1 top (zs ++ [])
        no_more = subst (AreNew node inode (kinds r.left fs) m1 top) (sym (append-nil zs)) news_left

        b : AreBeside node inode top c (kinds r.left fs) above holder (l0 + 4 * length zs) [] m1 (attach_each holder l0 (blocks_in zs) m1)
        b = beside T fs node inode top c few is_tree above holder r.there [] r.left at_left r.last zs [] l0 no_more zs_data
            (All-nil (λ (z : New). z.ty ≡ 2)) free_left

        abbrev m2 : ℕ → List ℕ
        m2 = attach_each holder l0 (blocks_in zs) m1

        abbrev with_parts : Option ℕ → ℕ → List ℕ
        with_parts o = written (patch_act c (size_parts o (times_now memory)) None) m2

        none_written : written (patch_act c [] None) m2 ≡ m2
        none_written = fun_ext (λ d. same d (d == c))
          where
            same : (d : ℕ) (t : Bool) → (if t then m2 d else m2 d) ≡ m2 d
            same d true = refl
            same d false = refl

        parts_aside : (o : Option ℕ) → IsAside node inode top c (kinds r.left fs) (with_parts o) × (files_of (with_parts o) top ≡ files_of m1 top)
        parts_aside None = (subst (IsAside node inode top c (kinds r.left fs)) (sym none_written) b.aside, ap (λ m. files_of m top) none_written ∙ b.files)
        parts_aside (Some k) =
            let whole = whole_own node inode top c (kinds r.left fs) m2 b.aside in
            let placed = own_placed node inode top c (kinds r.left fs) m2 b.aside (changes_patch (size_changes (Some k) (times_now memory)) ∷ []) None
            (sizes_adjoin (m2 c) whole (Some k) (times_now memory)) (sizes_whole (m2 c) (Some k) (times_now memory) whole) in
            (placed.0, placed.1 ∙ b.files)

        own_writes : leaf < 16 → written (own_act plan holder l0 (blocks_in zs)) m1 ≡ with_parts plan.size
        own_writes lt =
            patches_behind (own_act plan holder l0 (blocks_in zs)) l0 (blocks_in zs) (size_parts plan.size plan.times) m1 refl
            ∙ (λ j. written (patch_act (own_holder lt j) (size_parts plan.size (times_now memory)) None)
            (together_is T fs node inode top c few is_tree above holder r.there [] r.left at_left r.last zs [] l0 no_more zs_data
            (All-nil (λ (z : New). z.ty ≡ 2)) free_left j))

        own_ran : leaf < 16 → Ran T fs (own_act plan holder l0 (blocks_in zs) ∷ []) r.left new result → Stay s new
        own_ran lt ran = elim (ran_first T fs (own_act plan holder l0 (blocks_in zs)) [] r.left new result ran) [
          | inl same ↦ subst (Stay s) (sym same) r.stays
          | inr (entry, middle, made, rest) ↦
              let placed = parts_aside plan.size in
              subst (Stay s) (sym rest.1) (then_stay middle (made_aside T fs node inode top c few is_tree r.left at_left
              (own_act plan holder l0 (blocks_in zs)) middle entry refl made (subst (IsAside node inode top c (kinds r.left fs)) (sym (own_writes lt)) placed.0)
              (ap (λ m. files_of m top) (own_writes lt) ∙ placed.1)).0)
        ]

        -- in a node

        waits_ran : (t : Bool) (end : StoreState) → At end → fields_of (readable end fs c) ≡ x.fields →
            Ran T fs (if t then wait_act c (x.fields.leaf_type ∷ []) holder ∷ [] else []) end new result → Stay end new
        waits_ran false end at_end same ran = subst (Stay end) (sym ran.1) (at_end, refl)
        waits_ran true end at_end same ran = elim (ran_first T fs (wait_act c (x.fields.leaf_type ∷ []) holder) [] end new result ran) [
          | inl is ↦ subst (Stay end) (sym is) (at_end, refl)
          | inr (entry, middle, made, rest) ↦
              let whole = own_whole T fs node inode top c few is_tree end at_end in
              let long = whole.0 in
              subst (Stay end) (sym rest.1) (wait_made T fs node inode top c few is_tree end at_end c x.fields.leaf_type holder middle entry
              (ap (λ (g : Fields). g.leaf_type) (sym same)) (omega arith) made).0
        ]

        no_waits : (k : ℕ) → plan.size ≡ Some k → plan.waits ≡ false
        no_waits k is = ap (λ z. is_none z && ends_in x.fields.size (leaf + count - 1)) is

        size_ran : (o : Option ℕ) → plan.size ≡ o → (end : StoreState) → At end → fields_of (readable end fs c) ≡ x.fields →
            Ran T fs (size_acts c holder o plan.times ++ run_waits plan holder) end new result → Stay end new
        size_ran None is end at_end same ran = waits_ran plan.waits end at_end same ran
        size_ran (Some k) is end at_end same ran =
            elim (ran_first T fs (changes_act c (size_changes (Some k) plan.times ∷ []) (Some holder)) (run_waits plan holder) end new result ran) [
              | inl stay ↦ subst (Stay end) (sym stay) (at_end, refl)
              | inr (entry, middle, made, rest) ↦
                  let one = size_made T fs node inode top c few is_tree end at_end (Some k) plan.times (Some holder) middle entry made in
                  let none = subst (λ t. Ran T fs (if t then wait_act c (x.fields.leaf_type ∷ []) holder ∷ [] else []) middle new result) (no_waits k is) rest in
                  subst (Stay end) (sym none.1) one.0
            ]

        node_ran : Ran T fs (attach_acts (div_ceil count 16) holder l0 (blocks_in zs) ++ (size_acts c holder plan.size plan.times ++ run_waits plan holder))
            r.left new result → Stay s new
        node_ran ran = elim (attach_ran T fs node inode top c few is_tree above holder r.there
            (size_acts c holder plan.size plan.times ++ run_waits plan holder) (div_ceil count 16) zs l0 r.left new result at_left r.last news_left zs_data free_left
            ran) [
              | inl stay ↦ then_stay new stay
              | inr (end, stay, own, rest) ↦
                  let next = size_ran plan.size refl end stay.0 (own ∙ (r.own ∙ (ap fields_of keeps.own ∙ fields_are))) rest in
                  then_stay new (stays_then T fs node inode top c few is_tree r.left end new stay next)
            ]

        last_ran : Stay s new
        last_ran = by (nat_lt leaf 16) refl r.ran
          where
            by : (t : Bool) → nat_lt leaf 16 ≡ t → Ran T fs (if t then own_act plan holder l0 (blocks_in zs) ∷ [] else
                attach_acts (div_ceil count 16) holder l0 (blocks_in zs) ++ (size_acts c holder plan.size plan.times ++ run_waits plan holder)) r.left new result →
                Stay s new
            by true e ran = own_ran (ltb-true leaf 16 e) ran
            by false e ran = node_ran ran

      all_ran : (new : StoreState) (result : Result (Unit {0}) Refusal) → Ran T fs (run_acts plan begun) s new result → Stay s new
      all_ran new result ran =
          let ran' = subst (λ acts. Ran T fs acts s new result) (acts_are
          ∙ (λ j. node_acts node 2 owner (nodes_are j) (blocks_in ys) ++ holder_acts plan holder (offset_is j) (blocks_in zs))) ran in
          elim (nodes_ran T fs node inode top c few is_tree l0 More more_stands last_acts nodes ys q owner s new result at_s (sym p.holder) p.there
          first_way (subst (λ os. AreOf T fs node inode top few is_tree (node_starts node 2 os) ys) nodes_are parts.3) news.0 (free_first nodes refl) ran') [
            | inl stay ↦ stay
            | inr r ↦ last_ran new result r
          ]

    pub run_ran : (new : StoreState) (result : Result (Unit {0}) Refusal) → Ran T fs (run_acts plan begun) s new result → Stay s new
    run_ran = all_ran path.0 path.1 path.2 path.3

  pub run_aside : (new : StoreState) (result : Result (Unit {0}) Fault) → Does T fs (run_plan bytes plan) s0 new result → Stay s0 new
  run_aside new result does =
      does_stays T fs node inode top c few is_tree (run_plan bytes plan) s0 new result starts_fine at0
      (λ begun middle left ran begins there keeps is.
      run_ran middle begun (begun_so T fs node inode top few is_tree (run_starts bytes plan) [] begun s0 middle starts_fine at0.here begins) there keeps left ran is)
      does
