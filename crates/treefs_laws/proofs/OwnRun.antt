-- A run of leaves that are missing is written behind the bytes of an inode that was begun.
use Rattle.std.proofs.Common.{◌≡◌, ◌≢◌, ℕ, zero, suc, ◌+◌, ◌-◌, ◌*◌, ◌/◌, ◌%◌, ◌<◌, ◌≤◌, List, [], ◌∷◌, length, take, drop, None, Some, Ok, refl, sym, ◌∙◌, ap, inl, inr, arith, subst, if◌then◌else◌}
use Rattle.std.specs.Prelude.{All, min}
use Rattle.std.proofs.lemmas.Bool.{lt-ltb}
use Rattle.std.proofs.lemmas.List.Elements.{All-append, All-nil}
use Rattle.xn_model.specs.Types.{Types}
use Rattle.xn_model.specs.Lives.{StoreState}
use Rattle.treefs_format.specs.Fields.{fields_of}
use Rattle.treefs_format.specs.Leaves.{greatest_size}
use Rattle.treefs_format.specs.Paths.{last_beside, steps}
use Rattle.treefs_format.specs.Templates.{IsTree}
use Rattle.treefs_format.specs.declared.fields.Fields.{Fields}
use Rattle.treefs_model.specs.Acts.{Ran, changes_act}
use Rattle.treefs_model.specs.Files.{Inode}
use Rattle.treefs_model.specs.Reading.{block_at, leaf_block}
use Rattle.treefs_lookup.specs.Readable.{readable}
use Rattle.treefs_lookup.specs.Walks.{pointer_offset, reach}
use Rattle.treefs_lookup.specs.declared.inodes.Found.{Found}
use Rattle.treefs_edits.specs.Missing.{last_or_owner, node_starts}
use Rattle.treefs_edits.specs.Plans.{Begins, Does}
use Rattle.treefs_edits.specs.Written.{written}
use Rattle.treefs_edits.specs.declared.start.Start.{Start}
use Rattle.treefs_byte_plans.specs.Fields.{risen, size_changes, times_now}
use Rattle.treefs_byte_plans.specs.Runs.{leaf_starts, planned_run, run_acts, run_nodes, run_plan, run_starts}
use Rattle.treefs_byte_plans.specs.declared.run_plan.RunPlan.{RunPlan}
use Rattle.treefs.specs.declared.volume.Volume.{Volume}
use Rattle.treefs_values.specs.Kinds.{kinds}
use Rattle.treefs_values.specs.Values.{KeepsBlocks}
use Rattle.treefs_values.specs.Ways.{IsWay}
use Rattle.treefs_values.proofs.ForCallers.{AreBegun, AreOf, IsAt, IsFineStart, New, acts_read, begun_so}
use Rattle.treefs_laws.specs.Begun.{IsBegun}
use Rattle.treefs_laws.specs.Open.{IsOpen}
use Rattle.treefs_laws.specs.Unnamed.{IsUnnamed}
use Rattle.treefs_laws.proofs.AsideBegun.{IsAsideAt, KeepsTree, all_begun}
use Rattle.treefs_laws.proofs.AsideTold.{others_are}
use Rattle.treefs_laws.proofs.AsideVolume.{aside_unnamed}
use Rattle.treefs_laws.proofs.ForgottenBlocks.{stays_open}
use Rattle.treefs_laws.proofs.OwnGrown.{Said, grown, grown_then}
use Rattle.treefs_laws.proofs.OwnSaid.{aside, begun_read, c_there, k, number_is, one, over_first, own, own_said, own_same, own_size, own_small}
use Rattle.treefs_laws.proofs.OwnVolume.{other_same, own_news, own_root, own_type, own_way, written_alike}
use Rattle.treefs_laws.proofs.RunOver.{IsRunLeft, end_few as run_end, run_left, taken_least, taken_long}
use Rattle.treefs_laws.proofs.RunStarts.{acts_keep, leaves_fine, nodes_fine}
use Rattle.treefs_laws.proofs.WaysApart.{steps_way}

-- new blocks are what they were to be, whichever block is the root
of_other : (T : Types) (fs node inode top top' : ℕ) (few : fs < 32) (tree : IsTree T node inode) (starts : List Start) (xs : List New) →
    AreOf T fs node inode top few tree starts xs → AreOf T fs node inode top' few tree starts xs
of_other T fs node inode top top' few tree [] [] of = tt
of_other T fs node inode top top' few tree [] (x ∷ xs) of = absurd of
of_other T fs node inode top top' few tree (start ∷ starts) [] of = absurd of
of_other T fs node inode top top' few tree (start ∷ starts) (x ∷ xs) of = (of.0, of.1, of_other T fs node inode top top' few tree starts xs of.2)

module _ (T : Types) (state : StoreState) (volume : Volume) (is_open : IsOpen T state volume) (x : Found) (inode_now : Inode)
    (begun : IsBegun state volume x.block inode_now) (x_fields : x.fields ≡ fields_of (readable state volume.tree.fs.number x.block))
    (bytes : List ℕ) (some : length bytes ≢ 0) (wide : All (λ b. b < 256) bytes) (low : length begun.bytes < greatest_size)
    (high : 384 ≤ length begun.bytes) (count : ℕ) (count_some : 0 < count)
    (beside : length begun.bytes / 512 + (count - 1) ≤ last_beside (length begun.bytes / 512))
    (enough : 512 * (count - 1) < length begun.bytes % 512 + length bytes)
    (missing : (j : ℕ) → j < count → leaf_block (readable state volume.tree.fs.number) x.block (length begun.bytes / 512 + j) ≡ 0) where
  abbrev at : ℕ
  at = length begun.bytes

  abbrev fs : ℕ
  fs = volume.tree.fs.number

  abbrev top : ℕ
  top = volume.tree.top

  abbrev node : ℕ
  node = volume.tree.node_type

  abbrev inode : ℕ
  inode = volume.tree.inode_type

  abbrev m0 : ℕ → List ℕ
  m0 = readable state fs

  abbrev plan : RunPlan
  plan = planned_run volume.tree volume.memory x (reach m0 x.block (steps (at / 512))) at (length bytes) count

  abbrev Fine : Start → Type 0
  Fine = IsFineStart T fs node inode top is_open.few is_open.tree

  starts_fine : All Fine (run_starts bytes plan)
  starts_fine =
      let v = is_open.kept.bytes in
      All-append Fine (node_starts node 2 (run_nodes plan)) (leaf_starts count (at % 512) bytes)
      (nodes_fine T fs node inode top is_open.few is_open.tree (v.types.1, v.types.2) v.some_types.0 is_open.short.0 (run_nodes plan))
      (leaves_fine T fs node inode top is_open.few is_open.tree (v.types.1, v.types.2) v.some_types.0 is_open.short.0 count (at % 512) bytes (omega arith)
      wide)

  here : IsAt T fs node inode top state
  here = record { store = is_open.kept.store; root = is_open.root; volume = is_open.kept.bytes }

  at0 : IsAsideAt T fs node inode top x.block is_open.few is_open.tree state
  at0 = record { here = here; aside = aside T state volume is_open x.block inode_now begun }

  some_bytes : 0 < length bytes
  some_bytes = positive (length bytes) some
    where
      positive : (k : ℕ) → k ≢ 0 → 0 < k
      positive zero ne = absurd (ne refl)
      positive (suc k) ne = omega arith

  module _ (blocks : List ℕ) (s : StoreState) (begins : Begins T fs (run_starts bytes plan) [] state s (Ok blocks)) where
    a : AreBegun T fs node inode top is_open.few is_open.tree (run_starts bytes plan) [] blocks state s
    a = begun_so T fs node inode top is_open.few is_open.tree (run_starts bytes plan) [] blocks state s starts_fine here begins

    open_s : IsOpen T s volume
    open_s = (stays_open T state s volume is_open a.at a.files).0

    others : All (λ b. b ≢ x.block) blocks
    others = (all_begun T fs node inode top x.block is_open.few is_open.tree (run_starts bytes plan) [] blocks state s starts_fine at0
        (All-nil (λ b. b ≢ x.block)) begins).1

    keeps : KeepsTree T fs node inode top x.block is_open.few is_open.tree state s
    keeps = (all_begun T fs node inode top x.block is_open.few is_open.tree (run_starts bytes plan) [] blocks state s starts_fine at0
        (All-nil (λ b. b ≢ x.block)) begins).2

    unnamed_s : IsUnnamed s volume x.block
    unnamed_s = aside_unnamed s volume x.block (all_begun T fs node inode top x.block is_open.few is_open.tree (run_starts bytes plan) [] blocks state s
        starts_fine at0 (All-nil (λ b. b ≢ x.block)) begins).0.0.aside

    abbrev begun_s : IsBegun s volume x.block inode_now
    begun_s = begun_read state s volume volume x.block inode_now begun unnamed_s
        (record { own = keeps.own; leaves = λ i. keeps.ways 0 (steps i) (steps_way i); bytes = keeps.leaves })

    abbrev own_s : ℕ → List ℕ
    own_s = own T s volume open_s x.block inode_now begun_s

    abbrev type_s : ℕ → ℕ
    type_s = own_type node inode top x.block (kinds s fs)

    fields_are : fields_of (own_s x.block) ≡ x.fields
    fields_are = ap fields_of (own_same T s volume open_s x.block inode_now begun_s ∙ keeps.own) ∙ sym x_fields

    ways : (l : ℕ) (os : List ℕ) → IsWay os l → block_at own_s x.block os ≡ block_at m0 x.block os
    ways l os way = own_way node inode top x.block (kinds s fs) (readable s fs) (aside T s volume open_s x.block inode_now begun_s) begun.within l os way
        ∙ keeps.ways l os way

    abbrev there : x.block ≢ 0
    there = c_there T s volume open_s x.block inode_now begun_s

    run : IsRunLeft T volume.tree volume.memory is_open.few is_open.tree own_root 1 (one T s volume open_s x.block inode_now begun_s) x there
        (k T s volume open_s x.block inode_now begun_s) (own_said T s volume open_s x.block inode_now begun_s).no_directory type_s own_s
        (number_is T s volume open_s x.block inode_now begun_s) (own_said T s volume open_s x.block inode_now begun_s).kind_is
        (own_small T s volume open_s x.block inode_now begun_s) at own_s (over_first T s volume open_s x.block inode_now begun_s at) fields_are m0 ways low bytes
        some_bytes wide high count count_some beside enough missing blocks
    run = run_left T volume.tree volume.memory is_open.few is_open.tree own_root 1 (one T s volume open_s x.block inode_now begun_s) x there
        (k T s volume open_s x.block inode_now begun_s) (own_said T s volume open_s x.block inode_now begun_s).no_directory type_s own_s
        (number_is T s volume open_s x.block inode_now begun_s) (own_said T s volume open_s x.block inode_now begun_s).kind_is
        (own_small T s volume open_s x.block inode_now begun_s) at own_s (over_first T s volume open_s x.block inode_now begun_s at) fields_are m0 ways low bytes
        some_bytes wide high count count_some beside enough missing a.made
        (of_other T fs node inode top own_root is_open.few is_open.tree (run_starts bytes plan) a.made a.of)
        (own_news node inode top x.block (kinds s fs) (readable s fs) (aside T s volume open_s x.block inode_now begun_s) begun.within a.made a.news
        (others_are x.block a.made (subst (All (λ b. b ≢ x.block)) a.blocks_are others))) blocks a.blocks_are

    abbrev taken_bytes : List ℕ
    taken_bytes = take (512 * count - at % 512) bytes

    taken_is : length taken_bytes ≡ plan.taken
    taken_is = taken_long (512 * count - at % 512) bytes

    end_few : at + length taken_bytes ≤ greatest_size
    end_few =
        let e = run_end T volume.tree volume.memory is_open.few is_open.tree own_root 1 (one T s volume open_s x.block inode_now begun_s) x there
        (k T s volume open_s x.block inode_now begun_s) (own_said T s volume open_s x.block inode_now begun_s).no_directory type_s own_s
        (number_is T s volume open_s x.block inode_now begun_s) (own_said T s volume open_s x.block inode_now begun_s).kind_is
        (own_small T s volume open_s x.block inode_now begun_s) at own_s (over_first T s volume open_s x.block inode_now begun_s at) fields_are m0 ways low bytes
        some_bytes wide high count count_some beside enough missing in
        let t = taken_is in
        let taken : plan.taken ≡ min (length bytes) (512 * count - at % 512) = refl in
        omega arith

    was_size : (fields_of (own_s x.block)).size ≡ at
    was_size = own_size T s volume open_s x.block inode_now begun_s

    taken_some : 0 < plan.taken
    taken_some =
        let taken : plan.taken ≡ min (length bytes) (512 * count - at % 512) = refl in
        let b = some_bytes in
        omega arith

    rises : (size : ℕ) → size ≡ at → risen size (at + plan.taken) ≡ Some (at + plan.taken)
    rises size is =
        let t = taken_some in
        ap (λ t. if t then Some (at + plan.taken) else None) (lt-ltb size (at + plan.taken) (omega arith))

    size_is : plan.size ≡ Some (at + plan.taken)
    size_is = rises x.fields.size (sym (ap (λ (g : Fields). g.size) fields_are) ∙ was_size)

    keep : All KeepsBlocks (run_acts plan blocks)
    keep = acts_keep plan node plan.owner (run_nodes plan) (take (length (run_nodes plan)) blocks)
        (last_or_owner plan.owner (take (length (run_nodes plan)) blocks)) (pointer_offset (at / 512)) (drop (length (run_nodes plan)) blocks)

    run_said : (new : StoreState) → Ran T fs (run_acts plan blocks) s new (Ok tt) → IsOpen T new volume → IsUnnamed new volume x.block →
        IsBegun new volume x.block (grown T s volume open_s x.block inode_now begun_s taken_bytes)
    run_said new ran open_new unnamed =
        let read = acts_read T fs (run_acts plan blocks) s new a.at.store keep ran in
        grown_then T s volume open_s x.block inode_now begun_s type_s taken_bytes run.left run.over end_few new open_new unnamed
        (λ y ne. (λ j. written (changes_act x.block (size_changes ((ap (λ t. risen (fields_of (own_s x.block)).size (at + t)) taken_is
        ∙ rises (fields_of (own_s x.block)).size was_size) j) (times_now volume.memory) ∷ []) None) run.left y)
        ∙ (ap (λ f. f y) (sym (run.written_so (Some (at + plan.taken)) size_is))
        ∙ (written_alike (run_acts plan blocks) own_s (readable s fs) y
        (other_same node inode top x.block (kinds s fs) (readable s fs) (aside T s volume open_s x.block inode_now begun_s) begun.within y ne)
        ∙ ap (λ f. f y) (sym read.1))))

  pub run_grown : (new : StoreState) (taken : ℕ) → taken ≡ plan.taken → Does T fs (run_plan bytes plan) state new (Ok tt) → IsOpen T new volume →
      IsUnnamed new volume x.block → Said T state volume is_open x.block inode_now begun bytes some wide low new taken
  run_grown new taken count_is (inl none) open_new unnamed = absurd none
  run_grown new taken count_is (inr (blocks, s, begins, ran)) open_new unnamed =
      let t = taken_some blocks s begins in
      let e = end_few blocks s begins in
      let l = taken_is blocks s begins in
      let taken_of : plan.taken ≡ min (length bytes) (512 * count - at % 512) = refl in (
        omega arith,
        omega arith,
        omega arith,
        subst (λ l. IsBegun new volume x.block (grown T state volume is_open x.block inode_now begun l))
            (sym (ap (λ n. take n bytes) count_is ∙ taken_least (512 * count - at % 512) bytes)) (run_said blocks s begins new ran open_new unnamed),
      )
