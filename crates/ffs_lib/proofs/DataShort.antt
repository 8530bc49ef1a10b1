-- The edits of a file's bytes are refused for want of something alone, and their numbers were given.
use Rattle.std.proofs.Common.{◌≡◌, ℕ, ◌+◌, ◌*◌, ◌<◌, ◌≤◌, List, [], ◌∷◌, length, get_or, Option, sym, ◌∙◌, ap, arith, subst, IsTrue, slice_set}
use Rattle.ffs_lib.proofs.Common.{Found, IsFile, StoreState, Types, direct_in, fields_of, inode_pairs, length-replicate, may_add, put, word_at, zero_block}
use Rattle.xn_model.proofs.ForCallers.{addable, length_put}
use Rattle.ffs_model.proofs.ForCallers.{Replaces, indirect_set}
use Rattle.ffs_lib.specs.Edits.{edit_at}
use Rattle.ffs_lib.specs.Outcomes.{CanEdit}
use Rattle.ffs_lib.proofs.Fields.{direct_get}
use Rattle.ffs_lib.specs.Steps.{ShortEdit}
use Rattle.ffs_lib.proofs.Short.{attached_short, kept_short, pairs_kept, pairs_set}

-- New blocks

pub block_long : (at : ℕ) (bytes : List ℕ) → at + length bytes ≤ 512 → length (put zero_block at bytes) ≡ 512
block_long at bytes fits = let whole : length zero_block ≡ 512 = length-replicate {A = ℕ} 512 0 in length_put zero_block at bytes (omega arith) ∙ whole

-- A file's inode

module _ (T : Types) (state : StoreState) (after : Option ℕ) (can : CanEdit T state after) (fs : ℕ) (few : fs < 32) (n : ℕ) (found : Found) (file : IsFile state fs n found) (bytes : List ℕ) (whole : length bytes ≡ 64) where
  -- gets a block of data
  pub direct_refused : (index block : ℕ) → index < 12 → (fields_of bytes).direct ≡ slice_set (fields_of found.inode).direct index block → word_at bytes 56 ≡ word_at found.inode 56 → direct_in found.inode index ≡ 0 →
      IsTrue (may_add state fs (block, 2)) → ShortEdit T state fs found.block (edit_at (64 * found.place) bytes ((block, 2) ∷ []) [] after)
  direct_refused index block low set last none may =
      attached_short T state after can fs few n found.block found.place file.is.stands bytes whole block 2 may
      (subst (λ own. Replaces (inode_pairs own 0) (inode_pairs bytes 0) [] ((block, 2) ∷ [])) file.is.bytes
      (pairs_set found.inode bytes last index block low set none (addable T state can.consistent fs block 2 may).holds.2))

  -- gets a block of pointers
  pub pointers_refused : (block : ℕ) → (fields_of bytes).direct ≡ (fields_of found.inode).direct → word_at bytes 56 ≡ block → word_at found.inode 56 ≡ 0 →
      IsTrue (may_add state fs (block, 5)) → ShortEdit T state fs found.block (edit_at (64 * found.place) bytes ((block, 5) ∷ []) [] after)
  pointers_refused block direct last none may =
      attached_short T state after can fs few n found.block found.place file.is.stands bytes whole block 5 may
      (subst (λ own. Replaces (inode_pairs own 0) (inode_pairs bytes 0) [] ((block, 5) ∷ [])) file.is.bytes
      (indirect_set found.inode bytes block (λ i lt. direct_get bytes i lt ∙ (ap (λ ws. get_or ws i 0) direct ∙ sym (direct_get found.inode i lt))) none last
      (addable T state can.consistent fs block 5 may).holds.2))

  -- gets another size
  pub size_refused : (fields_of bytes).direct ≡ (fields_of found.inode).direct → word_at bytes 56 ≡ word_at found.inode 56 → ShortEdit T state fs found.block (edit_at (64 * found.place) bytes [] [] after)
  size_refused direct last =
      kept_short T state after can fs few n found.block found.place file.is.stands bytes whole (subst (λ own. inode_pairs bytes 0 ≡ inode_pairs own 0) file.is.bytes (pairs_kept found.inode bytes last direct))
