-- Edits of a step that are refused for want of something alone.
use Rattle.std.proofs.Common.{◌≡◌, ◌≢◌, ℕ, ◌*◌, ◌^◌, ◌<◌, ◌≤◌, true, ◌&&◌, List, [], ◌∷◌, length, get_or, Option, Some, Ok, refl, sym, ◌∙◌, ap, arith, eq-eqb, slice_set, replicate, ◌==◌, w32}
use Rattle.ffs_lib.proofs.Common.{Gives, IsEmptyPointer, IsPlace, IsRoot, IsSlot, Slot, StoreState, Types, Under, alive_and, and_from, direct_in, fields_of}
use Rattle.ffs_lib.proofs.Common.{init_of, inode_at, inode_pairs, is_for, is_fresh, latest, library_layout, life_at, may_add, new_life, pointer_word, root}
use Rattle.ffs_lib.proofs.Common.{to_le_bytes, word_at}
use Rattle.xn_model.proofs.ForCallers.{set_same}
use Rattle.ffs_model.proofs.ForCallers.{Replaces, data_short, direct_set, inode_add_short, inode_freed_short, inode_short, inode_words, library_reads, root_set_short, started, under_direct, under_inodes}
use Rattle.ffs_lookup.proofs.ForCallers.{gives_ok}
use Rattle.ffs_lib.specs.Edits.{edit_at, data_of_inode}
use Rattle.ffs_lib.specs.Outcomes.{CanEdit, HasNoData}
use Rattle.ffs_lib.specs.Steps.{ShortEdit}
use Rattle.ffs_lib.proofs.Fields.{direct_get}
use Rattle.ffs_lib.proofs.Edited.{same_root}
use Rattle.ffs_lib.proofs.Writing.{get_apart, get_here}

-- Edits

-- a block that begins its life may be added
pub begun_addable : (T : Types) (old new : StoreState) (fs ty block number : ℕ) (bytes : List ℕ) → Gives (init_of T old fs ty bytes) old new (Ok (block, number)) → may_add new fs (block, ty) ≡ true
begun_addable T old new fs ty block number bytes done =
    let s = started T old new fs ty bytes (block, number) (gives_ok (init_of T old fs ty bytes) old new (block, number) done) in
    let alive : life_at new.lives block ≡ Some (new_life old.next (Some fs) ty bytes) = ap (λ lives. life_at lives block) s.lives ∙ set_same old.lives block (Some (new_life old.next (Some fs) ty bytes)) s.within in
    ap (alive_and (λ l. is_fresh l.status && ((l.ty == ty) && is_for fs l.fs))) alive ∙ and_from (ty == ty) (fs == fs) (eq-eqb ty ty refl) (eq-eqb fs fs refl)

-- a free inode
pub free_pairs : inode_pairs (replicate 64 0) 0 ≡ []
unfolding word_at
free_pairs = refl

-- The pairs of an inode by its fields
module _ (was bytes : List ℕ) (last : word_at bytes 56 ≡ word_at was 56) where
  pub pairs_kept : (fields_of bytes).direct ≡ (fields_of was).direct → inode_pairs bytes 0 ≡ inode_pairs was 0
  pairs_kept same = inode_words was bytes (λ i lt. direct_get bytes i lt ∙ (ap (λ ws. get_or ws i 0) same ∙ sym (direct_get was i lt))) last

  pub pairs_set : (index c : ℕ) → index < 12 → (fields_of bytes).direct ≡ slice_set (fields_of was).direct index c → direct_in was index ≡ 0 → c ≢ 0 → Replaces (inode_pairs was 0) (inode_pairs bytes 0) [] ((c, 2) ∷ [])
  pairs_set index c low set none some =
      direct_set was bytes index c low (λ i lt ne. direct_get bytes i lt ∙ (ap (λ ws. get_or ws i 0) set ∙ (get_apart (fields_of was).direct index c i ne ∙ sym (direct_get was i lt)))) last none
      (direct_get bytes index low ∙ (ap (λ ws. get_or ws index 0) set ∙ get_here (fields_of was).direct index c low)) some

module _ (T : Types) (state : StoreState) (after : Option ℕ) (can : CanEdit T state after) (fs : ℕ) (few : fs < 32) where
  abbrev v : ℕ → List ℕ
  v = latest state.lives

  pub under_place : (n block place : ℕ) → IsPlace state fs n block place → Under T v fs block 4
  under_place n block place at = under_inodes T library_layout (library_reads T can.library) v fs (library_layout.home n).0 block at.inodes

  -- an entry of a directory is written
  pub entry_short : (block place : ℕ) → Under T v fs block 2 → length (v block) ≡ 512 → place < 16 → (bytes : List ℕ) → length bytes ≡ 32 → ShortEdit T state fs block (edit_at (32 * place) bytes [] [] after)
  entry_short block place at long low bytes whole = data_short T can.library state can.consistent fs few block long after can.given at (32 * place) bytes (omega (arith, whole)) (omega (arith, whole, low))

  -- or a part of it
  pub part_short : (block place : ℕ) → Under T v fs block 2 → length (v block) ≡ 512 → place < 16 → (bytes : List ℕ) → 0 < length bytes → length bytes ≤ 32 → ShortEdit T state fs block (edit_at (32 * place) bytes [] [] after)
  part_short block place at long low bytes some part = data_short T can.library state can.consistent fs few block long after can.given at (32 * place) bytes some (omega (arith, part, low))

  -- an inode is written
  module _ (n block place : ℕ) (at : IsPlace state fs n block place) (bytes : List ℕ) (whole : length bytes ≡ 64) where
    pub kept_short : inode_pairs bytes 0 ≡ inode_pairs (inode_at (v block) place) 0 → ShortEdit T state fs block (edit_at (64 * place) bytes [] [] after)
    kept_short same = inode_short T can.library state can.consistent fs few block at.long after can.given (under_place n block place at) place at.few bytes whole same

    pub attached_short : (c u : ℕ) → may_add state fs (c, u) ≡ true → Replaces (inode_pairs (inode_at (v block) place) 0) (inode_pairs bytes 0) [] ((c, u) ∷ []) →
        ShortEdit T state fs block (edit_at (64 * place) bytes ((c, u) ∷ []) [] after)
    attached_short c u may set = inode_add_short T can.library state can.consistent fs few block at.long after can.given (under_place n block place at) place at.few bytes whole c u may set

    pub freed_short : inode_pairs bytes 0 ≡ [] → HasNoData T v (inode_at (v block) place) → ShortEdit T state fs block (edit_at (64 * place) bytes [] (data_of_inode (inode_at (v block) place)) after)
    freed_short bare none = inode_freed_short T can.library state can.consistent fs few block at.long after can.given (under_place n block place at) place at.few bytes whole bare none

  pub slot_short : (entry : Slot) → IsSlot state fs entry → (bytes : List ℕ) → length bytes ≡ 32 → ShortEdit T state fs entry.block (edit_at (32 * entry.place) bytes [] [] after)
  slot_short entry at bytes whole =
      let r = at.names in
      entry_short entry.block entry.place (under_direct T library_layout (library_reads T can.library) v fs r.index r.block r.place entry.block r.inodes r.has) at.long at.few bytes whole

  -- the root block points to a block more
  pub pointer_short : (block index c : ℕ) → IsRoot v fs block → (empty : IsEmptyPointer state fs index) → c < 2 ^ 32 → may_add state fs (c, 4) ≡ true → ShortEdit T state fs block (edit_at (4 * index) (to_le_bytes w32 c) ((c, 4) ∷ []) [] after)
  pointer_short block index c is empty small may =
      let same = same_root v fs empty.root block empty.is_root is in
      root_set_short T can.library state can.consistent fs few block (ap (λ r. length (v r)) (sym same) ∙ empty.long) after can.given (root is.at is.there) index c empty.few small (ap (λ r. pointer_word (v r) index) (sym same) ∙ empty.empty) may
