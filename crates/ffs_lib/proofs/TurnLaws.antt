-- What the edits of `replace` leave: of an entry that goes to another inode, and of a link that may be taken later.
use Rattle.std.proofs.Common.{◌≡◌, ◌≢◌, ℕ, suc, ◌*◌, ◌^◌, ◌<◌, List, [], length, replicate, Option, Some, Result, Ok, Err, sym, ◌∙◌, ap, arith, subst, inl, inr, OnOk, w16}
use Rattle.ffs_lib.proofs.Common.{CanUnlink, Edit, FfsFault, Fields, Found, IsFound, IsSlot, Slot, StoreState, Types, Under, fields_of, inode_blocks, inode_in}
use Rattle.ffs_lib.proofs.Common.{inode_links, inode_mode, latest, library_layout, propose_of, to_le_bytes}
use Rattle.ffs_model.proofs.ForCallers.{given_later, library_reads, one_later, proposed_given, proposed_next, under_direct}
use Rattle.ffs_lookup.proofs.ForCallers.{entry_is}
use Rattle.ffs_lib.specs.Edits.{edit_at}
use Rattle.ffs_lib.specs.Replacing.{Turned}
use Rattle.ffs_lib.specs.Steps.{Dropped, MayLose, MayName, Proposed, ShortEdit, Stage, clearing}
use Rattle.ffs_lib.proofs.Edited.{cleared_waits, dropped_waits, gone_waits, less_waits, turned}
use Rattle.ffs_lib.proofs.Entering.{inode_put, others_put}
use Rattle.ffs_lib.proofs.Fields.{free_blocks, free_mode, same_blocks}
use Rattle.ffs_lib.proofs.Laws.{DroppedData, can_edit}
use Rattle.ffs_lib.proofs.Linked.{linked_inode}
use Rattle.ffs_lib.proofs.Moving.{name_lost}
use Rattle.ffs_lib.proofs.Owners.{stands_from}
use Rattle.ffs_lib.proofs.Short.{part_short}
use Rattle.ffs_lib.proofs.Turning.{name_turned, number_half, number_long}

-- what holds where a proposal was accepted
pub on_proposed : (T : Types) (fs block : ℕ) (edit : Edit) (old new : StoreState) (P : Type 0) (result : Result ℕ FfsFault) → Proposed T fs block edit old new result → ((entry : ℕ) → propose_of T old fs block edit ≡ Ok (entry, new) → P) → OnOk result P
on_proposed T fs block edit old new P (Ok entry) p f = f entry p
on_proposed T fs block edit old new P (Err fault) p f = tt

-- An entry goes to another inode

-- what an entry names stands in its block
pub slot_names : (state : StoreState) (fs : ℕ) (slot : Slot) (is : IsSlot state fs slot) → library_layout.entry (latest state.lives slot.block) slot.place ≡ slot.inode
slot_names state fs slot is = is.names.names

module _ (T : Types) (fs : ℕ) (array : ℕ → Option ℕ) (old : StoreState) (s : Stage T fs array old) (slot : Slot) (is : IsSlot old fs slot) (n e : ℕ) (small : n < 2 ^ 16) (m : MayName old fs n e) where
  abbrev edit : Edit
  edit = edit_at (32 * slot.place) (to_le_bytes w16 n) [] [] (Some e)

  pub turns_short : ShortEdit T old fs slot.block edit
  turns_short =
      let r = is.names in
      part_short T old (Some e) (can_edit s m.given) fs s.few slot.block slot.place (under_direct T library_layout (library_reads T s.library) (latest old.lives) fs r.index r.block r.place slot.block r.inodes r.has) is.long is.few
      (to_le_bytes w16 n) (omega (arith, number_long n)) (omega (arith, number_long n))

  pub turns : (new : StoreState) → slot.inode ≢ n → (entry : ℕ) → propose_of T old fs slot.block edit ≡ Ok (entry, new) → Stage T fs array new × (Turned (latest old.lives) (latest new.lives) fs slot n × MayLose new fs slot.inode entry)
  turns new apart entry done =
      let h = s.keeps.consistent in
      let k = turned T s.library fs s.few array old new s.keeps slot is (to_le_bytes w16 n) (number_long n) n e entry (number_half n small) m.some apart m.can done in
      let names = sym (entry_is (latest old.lives slot.block) slot.place is.few) ∙ slot_names old fs slot is in
      let t = name_turned T s.library old new h fs s.few slot is names n small m.some (Some e) entry done in
      let named = linked_inode T fs array old s.keeps slot is in (
        record { library = s.library; few = s.few; keeps = k.0 },
        (t, record { some = is.some; can = k.1; given = proposed_given T old new h fs slot.block edit entry done; inode = named.own; found = named.found ∙ sym (t.inodes slot.inode); linked = named.linked }),
      )

-- A link of another inode may be taken later

still_loses : (T : Types) (old new : StoreState) (fs block : ℕ) (edit : Edit) (entry : ℕ) → propose_of T old fs block edit ≡ Ok (entry, new) → (i e : ℕ) → MayLose old fs i e → CanUnlink library_layout new.lives fs i e →
    inode_in (latest new.lives) fs i ≡ inode_in (latest old.lives) fs i → MayLose new fs i e
still_loses T old new fs block edit entry done i e m can same = record {
  some = m.some;
  can = can;
  given = given_later old new (one_later new.next old.next (proposed_next T old new fs block edit entry done)) (Some e) m.given;
  inode = m.inode;
  found = m.found ∙ sym same;
  linked = m.linked;
}

module _ (T : Types) (fs : ℕ) (array : ℕ → Option ℕ) (old : StoreState) (s : Stage T fs array old) (i e : ℕ) (m : MayLose old fs i e) where
  pub clear_waits : (new : StoreState) (slot : Slot) → IsSlot old fs slot → (after : Option ℕ) (entry : ℕ) → propose_of T old fs slot.block (edit_at (32 * slot.place) (replicate 32 0) [] [] after) ≡ Ok (entry, new) → MayLose new fs i e
  clear_waits new slot is after entry done =
      still_loses T old new fs slot.block (edit_at (32 * slot.place) (replicate 32 0) [] [] after) entry done i e m
      (cleared_waits T s.library fs s.few array old new s.keeps slot is after entry done i e m.some m.can) ((name_lost T s.library old new s.keeps.consistent fs s.few slot is after entry done).0 i)

  module _ (n a : ℕ) (other : i ≢ n) (found : Found) (is : IsFound old fs n found) (exact : Ok found.inode ≡ inode_in (latest old.lives) fs n) where
    pub link_waits : (bytes : List ℕ) → length bytes ≡ 64 → (links : ℕ) → fields_of bytes ≡ record (fields_of found.inode) { links = links } → suc links ≡ inode_links found.inode →
        (new : StoreState) (entry : ℕ) → propose_of T old fs found.block (edit_at (64 * found.place) bytes [] [] (Some a)) ≡ Ok (entry, new) → MayLose new fs i e
    link_waits bytes whole links set one new entry done =
        let mode = ap (λ (f : Fields). f.mode) set in
        let low = (stands_from (latest old.lives) fs n found.inode exact).low in
        let p = inode_put T s.library old new s.keeps.consistent fs s.few n found.block found.place is.stands low bytes whole (λ z. is.used (sym mode ∙ z)) [] [] (Some a) entry done in
        still_loses T old new fs found.block (edit_at (64 * found.place) bytes [] [] (Some a)) entry done i e m
        (less_waits T s.library fs s.few array old new s.keeps n found.block found.place is.stands bytes whole [] [] (Some a) entry done (mode ∙ ap inode_mode is.bytes)
        (ap suc (ap (λ (f : Fields). f.links) set) ∙ (one ∙ ap inode_links is.bytes)) (same_blocks found.inode bytes (ap (λ (f : Fields). f.direct) set) ∙ ap inode_blocks is.bytes) i e m.some other m.can) (p.1 i other).0

    pub free_waits : (bytes : List ℕ) → bytes ≡ replicate 64 0 → (drops : List ℕ) (new : StoreState) (entry : ℕ) → propose_of T old fs found.block (edit_at (64 * found.place) bytes [] drops (Some a)) ≡ Ok (entry, new) → MayLose new fs i e
    free_waits bytes free drops new entry done =
        still_loses T old new fs found.block (edit_at (64 * found.place) bytes [] drops (Some a)) entry done i e m
        (gone_waits T s.library fs s.few array old new s.keeps n found.block found.place is.stands bytes (ap length free) [] drops (Some a) entry done (ap inode_mode free ∙ free_mode) (ap inode_blocks free ∙ free_blocks) i e m.some other m.can)
        (others_put T s.library old new s.keeps.consistent fs s.few n found.block found.place is.stands bytes (ap length free) [] drops (Some a) entry done i other).0

  -- what a block of pointers points to is dropped
  pub data_waits : (n a block : ℕ) → i ≢ n → (block ≢ 0 → Under T (latest old.lives) fs block 5) → (new : StoreState) (d : ℕ) (inode : List ℕ) → Dropped T fs block a old new (Ok d) → DroppedData T fs array old new n inode d → MayLose new fs i e
  data_waits n a block other at new d inode (inl x) k = subst (λ (y : StoreState). MayLose y fs i e) (sym x.0) m
  data_waits n a block other at new d inode (inr x) k =
      still_loses T old new fs block (clearing old block a) d x.2 i e m (dropped_waits T s.library fs s.few array old new s.keeps block i e d (clearing old block a) (at x.0) m.some m.can x.2) (k.others i other).0
