-- What each edit of a volume leaves.
use Rattle.std.proofs.Common.{◌≡◌, ℕ, suc, ◌+◌, ◌*◌, ◌^◌, ◌<◌, ◌≢◌, ◌⊎◌, List, [], ◌∷◌, length, Option, Some, None, Ok, refl, sym, ◌∙◌, ap, inr, arith, subst, replicate, eq-eqb, Contains, if◌then◌else◌, ne_eqb, w32}
use Rattle.ffs_lib.proofs.Common.{CanName, CanUnlink, Edit, EntryMade, Found, HoldsOnly, InodeFreed, InodeKept, InodeMade, IsDirectory, IsEmptyPointer, IsFile}
use Rattle.ffs_lib.proofs.Common.{IsFound, IsGap, IsInFile, IsInodes, IsLibrary, IsPlace, IsRoot, IsSlot, LinkAdded, LinkTaken, OneEntry, Reads, Slot}
use Rattle.ffs_lib.proofs.Common.{StoreState, Types, Under, VolumeKeeps, half_at, inode_at, inode_blocks, inode_links, inode_mode, latest, library_layout}
use Rattle.ffs_lib.proofs.Common.{pointer_word, propose_of, put, to_le_bytes, with_edit, with_inode, word_at, zero_block}
use Rattle.ffs_model.proofs.ForCallers.{below_written, data_owned, directory_grown, entry_cleared, entry_made, entry_turned, entry_written, file_written, freed_waits, indirect_owned, indirect_reached, inode_forgets, inode_freed, inode_kept, inode_made, inodes_set, library_reads, link_added, link_taken, links_read, mode_read, number_written, other_spare, other_waits, other_written, pointer_set, pointer_written, proposed_others, slot_waits, taken_waits, under_direct, word_part, zeros_direct, zeros_mode, zeros_pointer}
use Rattle.ffs_model.proofs.Rewritten as rewritten
use Rattle.ffs_lib.specs.Edits.{edit_at}
use Rattle.ffs_lib.specs.Outcomes.{IsMade, IsAdded}
use Rattle.ffs_lookup.proofs.ForCallers.{found_mode, pointer_is}

pub same_root : (content : ℕ → List ℕ) (fs a b : ℕ) → IsRoot content fs a → IsRoot content fs b → a ≡ b
same_root content fs a b x y = ap (λ (p : ℕ × ℕ). p.0) (sym x.at ∙ y.at)

module _ (T : Types) (lib : IsLibrary T) (fs : ℕ) (few : fs < 32) (array : ℕ → Option ℕ) (state new : StoreState) (v : VolumeKeeps T library_layout fs array state) where
  reads : Reads T library_layout
  reads = library_reads T lib

  -- a whole inode is written
  module _ (n block place : ℕ) (at : IsPlace state fs n block place) (bytes : List ℕ) (whole : length bytes ≡ 64) (adds : List (ℕ × ℕ)) (drops : List ℕ) (after : Option ℕ) (entry : ℕ)
      (done : propose_of T state fs block (edit_at (64 * place) bytes adds drops after) ≡ Ok (entry, new)) where
    abbrev m : List ℕ
    m = latest state.lives block

    abbrev old : List ℕ
    old = inode_at m place

    abbrev edit : Edit
    edit = edit_at (64 * place) bytes adds drops after

    pub made : inode_mode old ≡ 0 → inode_mode bytes ≢ 0 → inode_links bytes ≡ 1 → inode_blocks bytes ≡ [] → after ≡ array (library_layout.home n).0 → IsMade T fs array n entry new
    made was used one none comes =
        let e = subst (λ p. InodeMade library_layout m (with_inode m place bytes) p) at.at (rewritten.made m at.long place at.few bytes whole was used one none) in
        let r = inode_made T library_layout reads fs few array state new v block edit entry done n at.some at.inodes e comes in
        record { keeps = r.0; forgets = inode_forgets T library_layout reads fs few array state new v block edit entry done n at.some at.inodes e comes; can = r.1 }

    pub more : inode_mode bytes ≡ inode_mode old → inode_links bytes ≡ suc (inode_links old) → inode_blocks bytes ≡ inode_blocks old → inode_mode old ≢ 0 →
        VolumeKeeps T library_layout fs array new × CanName library_layout new.lives fs n entry
    more mode links blocks used =
        let e = subst (λ p. LinkAdded library_layout m (with_inode m place bytes) p) at.at (rewritten.added m at.long place at.few bytes whole mode links blocks) in
        link_added T library_layout reads fs few array state new v block edit entry done n at.some at.inodes e
        (subst (λ p. library_layout.mode m p ≢ 0) at.at (λ z. used (sym (mode_read m place at.few) ∙ z)))

    pub less : inode_mode bytes ≡ inode_mode old → suc (inode_links bytes) ≡ inode_links old → inode_blocks bytes ≡ inode_blocks old → (e : ℕ) → CanUnlink library_layout state.lives fs n e → after ≡ Some e →
        VolumeKeeps T library_layout fs array new
    less mode links blocks e can comes =
        let x = subst (λ p. LinkTaken library_layout m (with_inode m place bytes) p) at.at (rewritten.taken m at.long place at.few bytes whole mode links blocks) in
        link_taken T library_layout reads fs few array state new v block edit entry done n at.some at.inodes e can x comes

    pub freed : inode_mode bytes ≡ 0 → inode_blocks bytes ≡ [] → inode_links old ≡ 1 → (e : ℕ) → CanUnlink library_layout state.lives fs n e → after ≡ Some e → VolumeKeeps T library_layout fs array new
    freed mode none one e can comes =
        let x = subst (λ p. InodeFreed library_layout m (with_inode m place bytes) p) at.at (rewritten.freed m at.long place at.few bytes whole mode none) in
        inode_freed T library_layout reads fs few array state new v block edit entry done n at.some at.inodes e can
        (subst (λ p. library_layout.links m p ≡ 1) at.at (links_read m place at.few ∙ one)) x comes

    -- what may be taken of another inode may be after these two
    pub less_waits : inode_mode bytes ≡ inode_mode old → suc (inode_links bytes) ≡ inode_links old → inode_blocks bytes ≡ inode_blocks old → (i e : ℕ) → i ≢ 0 → i ≢ n → CanUnlink library_layout state.lives fs i e → CanUnlink library_layout new.lives fs i e
    less_waits mode links blocks i e some other can =
        let x = subst (λ p. LinkTaken library_layout m (with_inode m place bytes) p) at.at (rewritten.taken m at.long place at.few bytes whole mode links blocks) in
        taken_waits T library_layout reads fs few array state new v block edit entry done n at.some at.inodes x i e some other can

    pub gone_waits : inode_mode bytes ≡ 0 → inode_blocks bytes ≡ [] → (i e : ℕ) → i ≢ 0 → i ≢ n → CanUnlink library_layout state.lives fs i e → CanUnlink library_layout new.lives fs i e
    gone_waits mode none i e some other can =
        let x = subst (λ p. InodeFreed library_layout m (with_inode m place bytes) p) at.at (rewritten.freed m at.long place at.few bytes whole mode none) in
        freed_waits T library_layout reads fs few array state new v block edit entry done n at.some at.inodes x i e some other can

    pub kept : inode_mode bytes ≡ inode_mode old → inode_links bytes ≡ inode_links old →
        ((c : ℕ) → Contains (inode_blocks bytes) c → Contains (inode_blocks old) c ⊎ ((inode_mode bytes ≢ 2) × Contains adds (c, 2))) → VolumeKeeps T library_layout fs array new
    kept mode links blocks =
        let x = subst (λ p. InodeKept library_layout m (with_inode m place bytes) p adds) at.at (rewritten.kept m at.long place at.few bytes whole adds mode links blocks) in
        inode_kept T library_layout reads fs few array state new v block edit entry done n at.some at.inodes x

    pub grown : (d i e : ℕ) (data_bytes : List ℕ) → inode_mode old ≡ 2 → inode_mode bytes ≡ 2 → inode_links bytes ≡ inode_links old →
        ((c : ℕ) → Contains (inode_blocks bytes) c → Contains (inode_blocks old) c ⊎ (c ≡ d)) → i ≢ 0 → HoldsOnly state.lives d data_bytes → OneEntry library_layout data_bytes i → Contains adds (d, 2) →
        CanName library_layout state.lives fs i e → after ≡ Some e → VolumeKeeps T library_layout fs array new
    grown d i e data_bytes was now links blocks some only one added can comes =
        directory_grown T library_layout reads fs few array state new v block edit entry done (library_layout.home n).0 place d i e data_bytes some at.inodes
        (rewritten.grown m at.long place at.few bytes whole d was now links blocks) only one added can comes

  -- an entry is written or cleared
  pub entered : (n place block : ℕ) (found : Found) → IsDirectory state fs n found → IsGap state found block place → (bytes : List ℕ) → length bytes ≡ 32 → (i e entry : ℕ) → half_at bytes 0 ≡ i → i ≢ 0 →
      CanName library_layout state.lives fs i e → propose_of T state fs block (edit_at (32 * place) bytes [] [] (Some e)) ≡ Ok (entry, new) → VolumeKeeps T library_layout fs array new
  entered n place block found dir gap bytes whole i e entry is some can done =
      entry_made T library_layout reads fs few array state new v block (edit_at (32 * place) bytes [] [] (Some e)) entry done 2
      (under_direct T library_layout reads (latest state.lives) fs (library_layout.home n).0 found.block found.place block dir.is.stands.inodes gap.has) (λ z. omega arith) (λ z. omega arith) place i e some
      (subst (λ x. EntryMade library_layout (latest state.lives block) (put (latest state.lives block) (32 * place) bytes) place x) is (entry_written (latest state.lives block) gap.long place gap.few bytes whole)) can refl

  pub cleared : (slot : Slot) → IsSlot state fs slot → (after : Option ℕ) (entry : ℕ) → propose_of T state fs slot.block (edit_at (32 * slot.place) (replicate 32 0) [] [] after) ≡ Ok (entry, new) →
      VolumeKeeps T library_layout fs array new × CanUnlink library_layout new.lives fs slot.inode entry
  unfolding half_at
  cleared slot is after entry done =
      let named = is.names in
      entry_cleared T library_layout reads fs few array state new v slot.block (edit_at (32 * slot.place) (replicate 32 0) [] [] after) entry done 2
      (under_direct T library_layout reads (latest state.lives) fs named.index named.block named.place slot.block named.inodes named.has) (λ z. omega arith) (λ z. omega arith) slot.place slot.inode is.some
      (entry_written (latest state.lives slot.block) is.long slot.place is.few (replicate 32 0) refl) named

  pub cleared_waits : (slot : Slot) → IsSlot state fs slot → (after : Option ℕ) (entry : ℕ) → propose_of T state fs slot.block (edit_at (32 * slot.place) (replicate 32 0) [] [] after) ≡ Ok (entry, new) →
      (i e : ℕ) → i ≢ 0 → CanUnlink library_layout state.lives fs i e → CanUnlink library_layout new.lives fs i e
  unfolding half_at
  cleared_waits slot is after entry done i e some can =
      let named = is.names in
      slot_waits T library_layout reads fs few array state new v slot.block (edit_at (32 * slot.place) (replicate 32 0) [] [] after) entry done 2
      (under_direct T library_layout reads (latest state.lives) fs named.index named.block named.place slot.block named.inodes named.has) (λ z. omega arith) (λ z. omega arith) slot.place 0 i e some some
      (entry_written (latest state.lives slot.block) is.long slot.place is.few (replicate 32 0) refl) can

  -- an entry goes to another inode
  pub turned : (slot : Slot) → IsSlot state fs slot → (bytes : List ℕ) → length bytes ≡ 2 → (n e entry : ℕ) → half_at bytes 0 ≡ n → n ≢ 0 → slot.inode ≢ n → CanName library_layout state.lives fs n e →
      propose_of T state fs slot.block (edit_at (32 * slot.place) bytes [] [] (Some e)) ≡ Ok (entry, new) → VolumeKeeps T library_layout fs array new × CanUnlink library_layout new.lives fs slot.inode entry
  turned slot is bytes whole n e entry half some apart can done =
      let named = is.names in
      entry_turned T library_layout reads fs few array state new v slot.block (edit_at (32 * slot.place) bytes [] [] (Some e)) entry done 2
      (under_direct T library_layout reads (latest state.lives) fs named.index named.block named.place slot.block named.inodes named.has) (λ z. omega arith) (λ z. omega arith) slot.place n slot.inode e some is.some apart
      (subst (λ x. EntryMade library_layout (latest state.lives slot.block) (put (latest state.lives slot.block) (32 * slot.place) bytes) slot.place x) half
      (number_written (latest state.lives slot.block) is.long slot.place is.few bytes (omega (arith, whole)) (omega (arith, whole)))) named can refl

  -- a block of inodes is attached
  pub attached : (root index block first entry : ℕ) → IsRoot (latest state.lives) fs root → IsEmptyPointer state fs index → block < 2 ^ 32 → IsInodes library_layout (latest state.lives) fs 0 first →
      HoldsOnly state.lives block zero_block → latest state.lives block ≡ zero_block → block ≢ 0 →
      propose_of T state fs root (edit_at (4 * index) (to_le_bytes w32 block) ((block, 4) ∷ []) [] None) ≡ Ok (entry, new) → IsAdded T fs array index block entry new
  attached root index block first entry is_root empty small top only holds there done =
      let edit = edit_at (4 * index) (to_le_bytes w32 block) ((block, 4) ∷ []) [] None in
      let m = latest state.lives root in
      let same = same_root (latest state.lives) fs empty.root root empty.is_root is_root in
      let set = pointer_written m (ap (λ r. length (latest state.lives r)) (sym same) ∙ empty.long) index empty.few block small
      (pointer_is m index empty.few ∙ (ap (λ r. pointer_word (latest state.lives r) index) (sym same) ∙ empty.empty)) in
      let apart : block ≢ root = λ e.
      let bytes : m ≡ zero_block = ap (latest state.lives) (sym e) ∙ holds in
      let one = same_root (latest state.lives) fs top.root root top.is_root is_root in
      top.there (sym top.points ∙ (ap (λ r. library_layout.pointer (latest state.lives r) 0) one ∙ (ap (λ b. library_layout.pointer b 0) bytes ∙ zeros_pointer 0))) in
      record {
        keeps = pointer_set T library_layout reads fs few array state new v root edit entry done index block zero_block is_root set there only zeros_direct (with_edit array index entry)
            (λ i ne. ap (λ t. if t then Some entry else array i) (ne_eqb i index ne))
            (inr ((first, top), ap (λ t. if t then Some entry else array index) (eq-eqb index index refl), zeros_mode));
        inodes = (inodes_set T library_layout reads fs few array state new v root edit entry done index block is_root set there).0;
        empty = proposed_others T state new v.consistent fs root edit entry done block apart ∙ holds;
      }

  -- a block of pointers is written: after an edit that lets a link be taken, so does what comes after this
  pub dropped : (block n e entry : ℕ) (edit : Edit) → Under T (latest state.lives) fs block 5 → n ≢ 0 → CanUnlink library_layout state.lives fs n e → edit.after ≡ Some e →
      propose_of T state fs block edit ≡ Ok (entry, new) → VolumeKeeps T library_layout fs array new × CanUnlink library_layout new.lives fs n entry
  dropped block n e entry edit at some can comes done = (
    other_written T library_layout reads fs few array state v block new edit entry done 5 (λ z. omega arith) (λ z. omega arith) (λ z. omega arith) at,
    other_spare T library_layout reads fs few array state v block new edit entry done 5 n e (λ z. omega arith) (λ z. omega arith) (λ z. omega arith) at some can comes,
  )

  pub dropped_waits : (block i e entry : ℕ) (edit : Edit) → Under T (latest state.lives) fs block 5 → i ≢ 0 → CanUnlink library_layout state.lives fs i e → propose_of T state fs block edit ≡ Ok (entry, new) → CanUnlink library_layout new.lives fs i e
  dropped_waits block i e entry edit at some can done = other_waits T library_layout reads fs few array state v block new edit entry done 5 i e (λ z. omega arith) (λ z. omega arith) (λ z. omega arith) at some can

  -- a block of data of a file is written: one that its inode points to, or one that its block of pointers does
  pub file_data : (n block entry : ℕ) (found : Found) (edit : Edit) → IsFile state fs n found → Contains (library_layout.direct (latest state.lives found.block) found.place) block →
      propose_of T state fs block edit ≡ Ok (entry, new) → VolumeKeeps T library_layout fs array new
  file_data n block entry found edit is has done =
      let x : IsInFile library_layout (latest state.lives) fs block = record {
        index = (library_layout.home n).0;
        block = found.block;
        place = found.place;
        inodes = is.is.stands.inodes;
        file = λ z. is.file (sym (found_mode state fs n found is.is) ∙ z);
        has = has;
      } in
      file_written T library_layout reads fs few array state v block new edit entry done x

  pub pointed_data : (indirect place block entry : ℕ) (edit : Edit) → Under T (latest state.lives) fs indirect 5 → place < 128 → word_at (latest state.lives indirect) (4 * place) ≡ block → block ≢ 0 →
      propose_of T state fs block edit ≡ Ok (entry, new) → VolumeKeeps T library_layout fs array new
  pointed_data indirect place block entry edit at low points there done =
      below_written T library_layout reads fs few array state v block new edit entry done indirect 5 2 (λ z. omega arith) (λ z. omega arith) (λ z. omega arith) at
      (data_owned T lib (latest state.lives indirect) place block low points there)

  -- a block of pointers is written
  pub pointed : (block entry : ℕ) (edit : Edit) → Under T (latest state.lives) fs block 5 → propose_of T state fs block edit ≡ Ok (entry, new) → VolumeKeeps T library_layout fs array new
  pointed block entry edit at done = other_written T library_layout reads fs few array state v block new edit entry done 5 (λ z. omega arith) (λ z. omega arith) (λ z. omega arith) at

-- the last pointer of an inode
last_word : (m : List ℕ) (p : ℕ) → p < 8 → word_at m (64 * p + 56) ≡ word_at (inode_at m p) 56
last_word m p few = word_part m p few (64 * p + 56) 56 refl (omega arith)

-- an inode's block of pointers is reached
pub pointers_reached : (T : Types) (lib : IsLibrary T) (state : StoreState) (fs n : ℕ) (found : Found) → IsFound state fs n found → (block : ℕ) → word_at found.inode 56 ≡ block → block ≢ 0 → Under T (latest state.lives) fs block 5
pointers_reached T lib state fs n found is block e ne =
    let m = latest state.lives found.block in
    indirect_reached T library_layout (library_reads T lib) (latest state.lives) fs (library_layout.home n).0 found.block block 5 is.stands.inodes
    (indirect_owned T lib m found.place block is.stands.few (last_word m found.place is.stands.few ∙ (ap (λ b. word_at b 56) (sym is.bytes) ∙ e)) ne)
