-- A run of leaves that are missing is written.
use Rattle.std.proofs.Common.{◌≡◌, ◌≢◌, ◌⊎◌, ℕ, zero, suc, ◌+◌, ◌-◌, ◌*◌, ◌/◌, ◌%◌, ◌<◌, ◌≤◌, Bool, true, false, List, [], ◌∷◌, length, take, drop, Option, None, Some, Ok, Err, refl, sym, ◌∙◌, ap, inl, inr, arith, subst, if◌then◌else◌}
use Rattle.std.specs.Prelude.{All, is_some, min, nat_lt}
use Rattle.std.proofs.lemmas.Bool.{ltb-false}
use Rattle.std.proofs.lemmas.List.Elements.{All-append}
use Rattle.store_types.specs.declared.refusal.Refusal.{Refusal}
use Rattle.store_types.specs.declared.refusal.Refusal.TheVariants as refusal
use Rattle.xn_model.specs.Types.{Types}
use Rattle.xn_model.specs.Calls.{root_of}
use Rattle.xn_model.specs.Lives.{StoreState}
use Rattle.xn_model.specs.Rules.{IsConsistent}
use Rattle.treefs_format.specs.Fields.{fields_of}
use Rattle.treefs_format.specs.Leaves.{greatest_size}
use Rattle.treefs_format.specs.Paths.{last_beside, steps}
use Rattle.treefs_model.specs.Acts.{Act, Ran, changes_act}
use Rattle.treefs_model.specs.Changes.{overwritten, rewritten}
use Rattle.treefs_model.specs.Files.{changed_at}
use Rattle.treefs_model.specs.Reading.{block_at, byte_of, leaf_block}
use Rattle.treefs_model.specs.declared.fault.Fault.{Fault}
use Rattle.treefs_lookup.specs.Inodes.{file_found}
use Rattle.treefs_lookup.specs.Readable.{readable}
use Rattle.treefs_lookup.specs.Walks.{pointer_offset, reach}
use Rattle.treefs_lookup.specs.declared.inodes.Found.{Found}
use Rattle.treefs_edits.specs.Missing.{last_or_owner, node_starts}
use Rattle.treefs_edits.specs.Plans.{Does, forgotten}
use Rattle.treefs_edits.specs.Written.{all_written, written}
use Rattle.treefs_edits.specs.declared.start.Start.{Start}
use Rattle.treefs_byte_plans.specs.Fields.{risen, size_changes, times_now}
use Rattle.treefs_byte_plans.specs.Runs.{leaf_starts, planned_run, run_acts, run_nodes, run_plan, run_starts}
use Rattle.treefs_byte_plans.specs.declared.run_plan.RunPlan.{RunPlan}
use Rattle.treefs.specs.Changed.{changed_volume}
use Rattle.treefs.specs.Writing.{Takes}
use Rattle.treefs.specs.declared.volume.Volume.{Volume}
use Rattle.treefs_values.specs.Bytes.{with_put}
use Rattle.treefs_values.specs.Kinds.{kinds}
use Rattle.treefs_values.specs.Values.{KeepsBlocks}
use Rattle.treefs_values.specs.Ways.{IsWay, block_numbered}
use Rattle.treefs_values.proofs.ForCallers.{AreBegun, IsAt, IsFineStart, IsKeptInode, acts_read, begun_so}
use Rattle.treefs_laws.specs.Kept.{files_in}
use Rattle.treefs_laws.specs.Open.{IsOpen}
use Rattle.treefs_laws.proofs.FileOver.{Over, dated_open, dated_seen, fields_are, file_there, found_there, kind_is, put_open, put_seen, touched_open, touched_seen, written_some, x_there}
use Rattle.treefs_laws.proofs.ForgottenBlocks.{begins_stays, forgotten_stays, stays_open}
use Rattle.treefs_laws.proofs.Fronts.{IsFront, front_keeps, ran_front}
use Rattle.treefs_laws.proofs.LeafAttached.{over_same}
use Rattle.treefs_laws.proofs.OverFile.{over_none}
use Rattle.treefs_laws.proofs.PiecesWritten.{Said, size_small, zeros_past}
use Rattle.treefs_laws.proofs.RunOver.{IsRunLeft, run_front, run_left, taken_least, taken_long}
use Rattle.treefs_laws.proofs.RunPlanned.{is_beside}
use Rattle.treefs_laws.proofs.RunStarts.{acts_keep, leaves_fine, nodes_fine}
use Rattle.treefs_laws.proofs.StillOpen.{ran_root}
use Rattle.treefs_laws.proofs.BlockAside.{alike_byte}

module _ (T : Types) (state : StoreState) (volume : Volume) (is_open : IsOpen T state volume) (n : ℕ) (x : Found)
    (x_is : file_found (readable state volume.tree.fs.number) volume.tree.top n ≡ Ok x) (size_few : x.fields.size ≤ greatest_size)
    (at : ℕ) (low : at < greatest_size) (zeros : (p : ℕ) → x.fields.size ≤ p → p < at → byte_of (readable state volume.tree.fs.number) x.block p ≡ 0)
    (bytes : List ℕ) (some : length bytes ≢ 0) (wide : All (λ b. b < 256) bytes) (high : 384 ≤ at)
    (free : leaf_block (readable state volume.tree.fs.number) x.block (at / 512) ≡ 0) (count : ℕ) (count_some : 0 < count)
    (beside : at / 512 + (count - 1) ≤ last_beside (at / 512)) (enough : 512 * (count - 1) < at % 512 + length bytes)
    (missing : (j : ℕ) → j < count → leaf_block (readable state volume.tree.fs.number) x.block (at / 512 + j) ≡ 0) where
  abbrev fs : ℕ
  fs = volume.tree.fs.number

  abbrev top : ℕ
  top = volume.tree.top

  abbrev node : ℕ
  node = volume.tree.node_type

  abbrev inode : ℕ
  inode = volume.tree.inode_type

  abbrev content : ℕ → List ℕ
  content = readable state fs

  abbrev leaf : ℕ
  leaf = at / 512

  abbrev plan : RunPlan
  plan = planned_run volume.tree volume.memory x (reach content x.block (steps leaf)) at (length bytes) count

  abbrev owner : ℕ
  owner = plan.owner

  small : (fields_of (content x.block)).size ≤ greatest_size
  small = size_small T state volume is_open n x x_is size_few at low zeros bytes some wide

  abbrev Overs : (ℕ → ℕ) → List ℕ → (ℕ → List ℕ) → Type 0
  Overs type written_bytes m = Over T state volume is_open n x x_is small at type written_bytes m

  abbrev there : x.block ≢ 0
  there = x_there T state volume is_open n x x_is

  -- the volume is open still, and the first of the bytes stand where the file had some
  abbrev pub Left : StoreState → Type 0
  Left new = IsOpen T new volume × (c : ℕ) × (files_in new volume ≡ changed_at (files_in state volume) n (with_put at (take c bytes)))

  -- The bytes that are taken

  abbrev taken_bytes : List ℕ
  taken_bytes = take (512 * count - at % 512) bytes

  taken_is : length taken_bytes ≡ plan.taken
  taken_is = taken_long (512 * count - at % 512) bytes

  bytes_some : 0 < length bytes
  bytes_some = positive (length bytes) some
    where
      positive : (k : ℕ) → k ≢ 0 → 0 < k
      positive zero ne = absurd (ne refl)
      positive (suc k) ne = omega arith

  end_small : at + length taken_bytes ≤ greatest_size
  end_small =
      let t = taken_is in
      let l = low in
      let e = (is_beside (at / 512) (count - 1) (omega arith) (omega arith)).few in
      omega arith

  -- Blocks are begun

  abbrev Fine : Start → Type 0
  Fine = IsFineStart T fs node inode top is_open.few is_open.tree

  starts_fine : All Fine (run_starts bytes plan)
  starts_fine = All-append Fine (node_starts node 2 (run_nodes plan)) (leaf_starts count (at % 512) bytes)
      (nodes_fine T fs node inode top is_open.few is_open.tree (is_open.kept.bytes.types.1, is_open.kept.bytes.types.2)
      is_open.kept.bytes.some_types.0 is_open.short.0 (run_nodes plan))
      (leaves_fine T fs node inode top is_open.few is_open.tree (is_open.kept.bytes.types.1, is_open.kept.bytes.types.2)
      is_open.kept.bytes.some_types.0 is_open.short.0 count (at % 512) bytes (omega arith) wide)

  here : IsAt T fs node inode top state
  here = record { store = is_open.kept.store; root = is_open.root; volume = is_open.kept.bytes }

  module _ (s : StoreState) (begun : List ℕ) (a : AreBegun T fs node inode top is_open.few is_open.tree (run_starts bytes plan) [] begun state s) where
    abbrev c0 : ℕ → List ℕ
    c0 = readable s fs

    abbrev type : ℕ → ℕ
    type = kinds s fs

    abbrev numbered : block_numbered content top n ≡ x.block
    numbered = sym (found_there T state volume is_open n x x_is).block

    kept : IsKeptInode content c0 top n
    kept = a.inodes.inodes n (found_there T state volume is_open n x x_is).number (found_there T state volume is_open n x x_is).there

    over0 : Overs type [] c0
    over0 = over_same node inode top n (found_there T state volume is_open n x x_is).number x.block there x.kind
        (file_there T state volume is_open n x x_is).no_directory
        content numbered (kind_is T state volume is_open n x x_is) small at (kinds state fs) type [] content c0
        (over_none node inode top n (found_there T state volume is_open n x x_is).number x.block there x.kind
        (file_there T state volume is_open n x x_is).no_directory
        content numbered (kind_is T state volume is_open n x x_is) small at (kinds state fs) is_open.kept.bytes)
        a.at.volume (kept.block ∙ numbered) (subst (λ b. fields_of (c0 b) ≡ fields_of (content b)) numbered (ap fields_of kept.alike.own)) a.files
        (λ p lt. subst (λ b. byte_of c0 b p ≡ byte_of content b p) numbered (alike_byte content c0 (block_numbered content top n) kept.alike p))

    ways : (l : ℕ) (os : List ℕ) → IsWay os l → block_at c0 x.block os ≡ block_at content x.block os
    ways l os way = subst (λ b. block_at c0 b os ≡ block_at content b os) numbered (kept.ways l os way)

    run : IsRunLeft T volume.tree volume.memory is_open.few is_open.tree top n (found_there T state volume is_open n x x_is).number x there x.kind
        (file_there T state volume is_open n x x_is).no_directory type content numbered (kind_is T state volume is_open n x x_is) small at c0 over0
        (fields_are T state volume is_open n x x_is) content ways low bytes bytes_some wide high count count_some beside enough missing begun
    run = run_left T volume.tree volume.memory is_open.few is_open.tree top n (found_there T state volume is_open n x x_is).number x there x.kind
        (file_there T state volume is_open n x x_is).no_directory type content numbered (kind_is T state volume is_open n x x_is) small at c0 over0
        (fields_are T state volume is_open n x x_is) content ways low bytes bytes_some wide high count count_some beside enough missing
        a.made a.of a.news begun a.blocks_are

    abbrev m2 : ℕ → List ℕ
    m2 = run.left

    keep : All KeepsBlocks (run_acts plan begun)
    keep = acts_keep plan node owner (run_nodes plan) (take (length (run_nodes plan)) begun)
        (last_or_owner owner (take (length (run_nodes plan)) begun)) (pointer_offset leaf) (drop (length (run_nodes plan)) begun)

    -- What is said of it

    taken_said : (new : StoreState) (volume' : Volume) (taken : ℕ) → taken ≡ plan.taken → IsOpen T new volume' →
        files_in new volume' ≡ changed_at (files_in state volume) n (rewritten volume.memory.clock (λ b. overwritten b at taken_bytes)) →
        Said T state volume is_open n x x_is size_few at low zeros bytes some wide new volume' taken
    taken_said new volume' taken is opened files =
        let t : taken ≡ min (length bytes) (512 * count - at % 512) = is in let b = bytes_some in let l = taken_is in let e = end_small in (
          opened,
          written_some T state volume is_open n x x_is at bytes taken some low
              ∙ (ap (λ k. Ok (changed_at (files_in state volume) n (rewritten volume.memory.clock (λ b. overwritten b at (take k bytes))))) is
              ∙ (ap (λ l. Ok (changed_at (files_in state volume) n (rewritten volume.memory.clock (λ b. overwritten b at l))))
              (taken_least (512 * count - at % 512) bytes) ∙ ap Ok (sym files))),
          omega arith,
          omega arith,
          omega arith,
        )

    module _ (new : StoreState) (volume' : Volume) (taken : ℕ) (count_is : taken ≡ plan.taken) (store : IsConsistent T new) (root : root_of new fs ≡ Some top)
        (reads : readable new fs ≡ all_written (run_acts plan begun) c0) (types : kinds new fs ≡ type) (v : volume' ≡ changed_volume volume n (is_some plan.size)) where
      over_new : Overs (kinds new fs) taken_bytes m2
      over_new = subst (λ t. Overs t taken_bytes m2) (sym types) run.over

      size_is : risen (fields_of (content x.block)).size (at + length taken_bytes) ≡ plan.size
      size_is = (λ j. risen (fields_are T state volume is_open n x x_is j).size (at + taken_is j))

      said_by : (o : Option ℕ) → plan.size ≡ o → Said T state volume is_open n x x_is size_few at low zeros bytes some wide new volume' taken
      said_by None is =
          let read = reads ∙ run.written_so None is in
          let within : at + length taken_bytes ≤ (fields_of (content x.block)).size = not_risen
          (nat_lt (fields_of (content x.block)).size (at + length taken_bytes)) refl (size_is ∙ is) in
          subst (λ w. Said T state volume is_open n x x_is size_few at low zeros bytes some wide new w taken)
          (sym (v ∙ ap (λ o. changed_volume volume n (is_some o)) is))
          (taken_said new (changed_volume volume n false) taken count_is
          (touched_open T state volume is_open n x x_is small at new store root taken_bytes m2 over_new read within)
          (touched_seen T state volume is_open n x x_is small at new store root taken_bytes m2 over_new read within))
        where
          not_risen : (t : Bool) → nat_lt (fields_of (content x.block)).size (at + length taken_bytes) ≡ t →
              risen (fields_of (content x.block)).size (at + length taken_bytes) ≡ None → at + length taken_bytes ≤ (fields_of (content x.block)).size
          not_risen true e none = absurd (cc (sym (ap (λ t. if t then Some (at + length taken_bytes) else None) e) ∙ none))
          not_risen false e none = ltb-false (fields_of (content x.block)).size (at + length taken_bytes) e
      said_by (Some k) is =
          let read = reads ∙ (run.written_so (Some k) is
          ∙ ap (λ o. written (changes_act x.block (size_changes o (times_now volume.memory) ∷ []) None) m2) (sym (size_is ∙ is))) in
          let past = zeros_past T state volume is_open n x x_is size_few at low zeros bytes some wide in
          subst (λ w. Said T state volume is_open n x x_is size_few at low zeros bytes some wide new w taken)
          (sym (v ∙ ap (λ o. changed_volume volume n (is_some o)) is))
          (taken_said new (changed_volume volume n true) taken count_is
          (dated_open T state volume is_open n x x_is small at new store root taken_bytes m2 over_new end_small past read)
          (dated_seen T state volume is_open n x x_is small at new store root taken_bytes m2 over_new end_small past read))

    run_said : (new : StoreState) (volume' : Volume) (taken : ℕ) → taken ≡ plan.taken → Ran T fs (run_acts plan begun) s new (Ok tt) →
        volume' ≡ changed_volume volume n (is_some plan.size) →
        Said T state volume is_open n x x_is size_few at low zeros bytes some wide new volume' taken
    run_said new volume' taken count_is ran v =
        let read = acts_read T fs (run_acts plan begun) s new a.at.store keep ran in
        let root = ran_root T fs (run_acts plan begun) s new a.at.store keep ran ∙ a.at.root in
        said_by new volume' taken count_is read.0 root read.1 read.2 v plan.size refl

    -- Where one of the edits is refused

    front_left : (left : StoreState) (front : List Act) → IsFront (run_acts plan begun) front → Ran T fs front s left (Ok tt) → Left left
    front_left left front is ran =
        let over = run_front T volume.tree volume.memory is_open.few is_open.tree top n (found_there T state volume is_open n x x_is).number x there x.kind
        (file_there T state volume is_open n x x_is).no_directory type content numbered (kind_is T state volume is_open n x x_is) small at c0 over0
        (fields_are T state volume is_open n x x_is) content ways low bytes bytes_some wide high count count_some beside enough missing
        a.made a.of a.news begun a.blocks_are front is in
        let keep_front = front_keeps (run_acts plan begun) front is keep in
        let read = acts_read T fs front s left a.at.store keep_front ran in
        let root = ran_root T fs front s left a.at.store keep_front ran ∙ a.at.root in
        let o = subst (λ t. Overs t (take over.0 bytes) (all_written front c0)) (sym read.2) over.1 in (
          put_open T state volume is_open n x x_is small at left read.0 root (take over.0 bytes) (all_written front c0) o read.1,
          over.0,
          put_seen T state volume is_open n x x_is small at left read.0 root (take over.0 bytes) (all_written front c0) o read.1,
        )

    begun_left : Left s
    begun_left = (
      put_open T state volume is_open n x x_is small at s a.at.store a.at.root [] c0 over0 refl,
      0,
      put_seen T state volume is_open n x x_is small at s a.at.store a.at.root [] c0 over0 refl,
    )

    ran_left : (left : StoreState) (reason : Refusal) → Ran T fs (run_acts plan begun) s left (Err reason) ⊎ ((reason ≡ refusal.NoMemory) × (left ≡ s)) →
        Left left
    ran_left left reason (inl ran) = let f = ran_front T fs (run_acts plan begun) s left reason ran in front_left left f.0 f.1 f.2
    ran_left left reason (inr none) = subst Left (sym none.1) begun_left

    forgotten_left : (left new : StoreState) → Left left → new ≡ forgotten T fs begun left → Left new
    forgotten_left left new (opened, c, files) is =
        let stays = forgotten_stays T fs node inode top is_open.few is_open.tree begun left
        (record { store = opened.kept.store; root = opened.root; volume = opened.kept.bytes }) in
        let now = stays_open T left (forgotten T fs begun left) volume opened stays.0 stays.1 in
        subst Left (sym is) (now.0, c, now.1 ∙ files)

  none_left : Left state
  none_left =
      let o = over_none node inode top n (found_there T state volume is_open n x x_is).number x.block there x.kind
      (file_there T state volume is_open n x x_is).no_directory
      content (sym (found_there T state volume is_open n x x_is).block) (kind_is T state volume is_open n x x_is) small at (kinds state fs)
      is_open.kept.bytes in (
        is_open,
        0,
        put_seen T state volume is_open n x x_is small at state is_open.kept.store is_open.root [] content o refl,
      )

  pub run_refused : (new : StoreState) (fault : Fault) → Does T fs (run_plan bytes plan) state new (Err fault) → Left new
  run_refused new fault (inl (inl lacks)) = subst Left (sym lacks.1) none_left
  run_refused new fault (inl (inr begins)) =
      let stays = begins_stays T fs node inode top is_open.few is_open.tree (run_starts bytes plan) [] state new fault starts_fine here begins in
      let now = stays_open T state new volume is_open stays.0 stays.1 in
      (now.0, none_left.1, now.1 ∙ none_left.2)
  run_refused new fault (inr (begun, s, begins, keeps)) =
      let a = begun_so T fs node inode top is_open.few is_open.tree (run_starts bytes plan) [] begun state s starts_fine here begins in
      forgotten_left s begun a keeps.0 new (ran_left s begun a keeps.0 keeps.1 keeps.3) keeps.4

  pub run_done : (new : StoreState) (volume' : Volume) (taken : ℕ) → Takes T state new volume volume' n (run_plan bytes plan) plan.taken (is_some plan.size)
      (Ok taken) →
      Said T state volume is_open n x x_is size_few at low zeros bytes some wide new volume' taken
  run_done new volume' taken (count_is, inl none, v) = absurd none
  run_done new volume' taken (count_is, inr (begun, s, begins, ran), v) =
      run_said s begun (begun_so T fs node inode top is_open.few is_open.tree (run_starts bytes plan) [] begun state s starts_fine here begins) new volume'
      taken count_is ran v
