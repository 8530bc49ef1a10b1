-- An inode that an entry names is in use, with a link at least.
use Rattle.std.proofs.Common.{◌≡◌, ◌≢◌, ℕ, ◌-◌, ◌/◌, ◌%◌, ◌<◌, ◌≤◌, Bool, List, Option, Some, None, Ok, true, refl, sym, ◌∙◌, ap, inl, inr, arith, subst, IsTrue, if◌then◌else◌, le-ltb}
use Rattle.ffs_lib.proofs.Common.{IsInodes, IsSlot, Slot, StoreState, Types, VolumeKeeps, cases_lt, has_empty_pointer, has_room, inode_at, inode_in, inode_links}
use Rattle.ffs_lib.proofs.Common.{latest, library_layout, pointer_word, root_in, was_given}
use Rattle.ffs_model.proofs.ForCallers.{everything, everything_cut, everything_seen, links_read, mode_read, named_linked, named_links}
use Rattle.ffs_lookup.proofs.ForCallers.{block_again, root_again, same_ok}
use Rattle.ffs_lib.specs.Outcomes.{HasFreePointer}
use Rattle.ffs_lib.specs.Results.{SameUse}
use Rattle.ffs_lib.proofs.Owners.{Stands, stands_from, stands_to}
use Rattle.ffs_lib.proofs.Rooms.{room_by}

pub record IsLinkedInode (content : ℕ → List ℕ) (fs n : ℕ) : Type 0 where
  pub own : List ℕ
  pub found : Ok own ≡ inode_in content fs n
  pub linked : 1 ≤ inode_links own

-- a pointer past the last one is none
few_pointers : (m : List ℕ) (j b : ℕ) → library_layout.pointer m j ≡ b → b ≢ 0 → j < 16
few_pointers m j b e there = elim (cases_lt j 16) [
  | inl lt ↦ lt
  | inr ge ↦ absurd (there (sym e ∙ ap (λ (t : Bool). if t then pointer_word m j else 0) (le-ltb j 16 ge)))
]

pub linked_inode : (T : Types) (fs : ℕ) (array : ℕ → Option ℕ) (state : StoreState) → VolumeKeeps T library_layout fs array state → (entry : Slot) → IsSlot state fs entry → IsLinkedInode (latest state.lives) fs entry.inode
linked_inode T fs array state v entry is =
    let content = latest state.lives in
    let n = entry.inode in
    let y : ℕ × ℕ = (entry.block, entry.place) in
    let l = named_links T fs array state v n y is.some is.names in
    let m = content l.block in
    let p : ℕ = (n - 1) % 8 in
    let low : p < 8 = omega arith in
    let index : (n - 1) / 8 < 16 = few_pointers (content l.inodes.root) ((n - 1) / 8) l.block l.inodes.points l.inodes.there in
    let own = inode_at m p in
    let stands : Stands content fs n own = record {
      some = is.some;
      low = omega (arith, index);
      block = l.block;
      inodes = l.inodes;
      bytes = refl;
      used = λ z. l.used (mode_read m p low ∙ z);
    } in
    let same : library_layout.links m p ≡ inode_links own = links_read m p low in
    record { own = own; found = stands_to content fs n own stands; linked = omega (arith, named_linked T fs array state v n y is.some is.names, same) }

pub linked_own : (T : Types) (fs : ℕ) (array : ℕ → Option ℕ) (state : StoreState) → VolumeKeeps T library_layout fs array state → (entry : Slot) → IsSlot state fs entry → (own : List ℕ) → Ok own ≡ inode_in (latest state.lives) fs entry.inode → 1 ≤ inode_links own
linked_own T fs array state v entry is own e =
    let named = linked_inode T fs array state v entry is in
    let same : inode_links own ≡ inode_links named.own = ap inode_links (same_ok own named.own (e ∙ sym named.found)) in
    omega (arith, same, named.linked)

-- where there is a block of inodes there is a first one
pub first_there : (T : Types) (fs : ℕ) (array : ℕ → Option ℕ) (state : StoreState) → VolumeKeeps T library_layout fs array state → (i c : ℕ) → IsInodes library_layout (latest state.lives) fs i c → (b : ℕ) × IsInodes library_layout (latest state.lives) fs 0 b
first_there T fs array state v i c at =
    let same = everything_seen state.lives in
    subst (λ (u : ℕ → List ℕ). (b : ℕ) × IsInodes library_layout u fs 0 b) same
    (v.frame.first (everything state.lives) i c (everything_cut T state v.consistent) (subst (λ (u : ℕ → List ℕ). IsInodes library_layout u fs i c) (sym same) at))

pub free_pointer : (T : Types) (fs : ℕ) (array : ℕ → Option ℕ) (state : StoreState) → VolumeKeeps T library_layout fs array state → (n : ℕ) (inode : List ℕ) → Ok inode ≡ inode_in (latest state.lives) fs n →
    ((root : ℕ) → Ok root ≡ root_in (latest state.lives) fs → has_empty_pointer (latest state.lives) root ≡ true) → HasFreePointer (latest state.lives) fs
free_pointer T fs array state v n inode is empty =
    let content = latest state.lives in
    let s = stands_from content fs n inode is in
    let first = first_there T fs array state v ((n - 1) / 8) s.block s.inodes in
    let top = root_again content fs s.inodes.root s.inodes.is_root in
    record { first = first.0; inodes = block_again content fs 0 first.0 first.1; root = s.inodes.root; is_root = top; empty = empty s.inodes.root top }

-- a recorded number was given
pub recorded_given : (state : StoreState) (array : ℕ → Option ℕ) → ((j n : ℕ) → array j ≡ Some n → IsTrue (was_given state (Some n))) → (after : Option ℕ) (j : ℕ) → after ≡ array j → IsTrue (was_given state after)
recorded_given state array given None j e = refl
recorded_given state array given (Some n) j e = given j n (sym e)

-- an inode that is as before has room as before
pub same_room : (v w : ℕ → List ℕ) (fs d : ℕ) (inode : List ℕ) → SameUse v w fs d → Ok inode ≡ inode_in v fs d → has_room w inode ≡ has_room v inode
same_room v w fs d inode same is = room_by v w inode inode refl (same.1 inode is).1
