-- The edits of `reclaim`, one after another, each after no other.
--     given_up_edits, repaired_edits  those by which an inode is given up; those of an inode by what it needs
--     repair_parts, reclaimed_parts   those of some inodes, in their order; of all, the lowest first
use Rattle.std.specs.Prelude.{ℕ, ◌-◌, ◌*◌, ◌/◌, ◌%◌, List, [], ◌∷◌, map, replicate, None, if◌then◌else◌}
use Rattle.std.specs.Int.{w16, to_le_bytes}
use Rattle.std.specs.List.{range_with_len}
use Rattle.xn_model.specs.Lists.{put}
use Rattle.xn_model.specs.Root.{word_at}
use Rattle.ffs_model.specs.Library.{zero_block}
use Rattle.ffs_lookup.specs.declared.repairs.Repair.{Repair}
use Rattle.ffs_lookup.specs.declared.repairs.Repair.TheVariants.{Keep, GiveUp, SetLinks}
use Rattle.ffs_lookup.specs.Files.{Files}
use Rattle.ffs_lookup.specs.Newest.{inode_block_in, inode_in}
use Rattle.ffs_lib.specs.Edits.{data_of_inode, data_of_pointers, edit_at}
use Rattle.ffs_lib.specs.Orders.{Edits, Makes, Parts, edits_at, has_data}
use Rattle.ffs_lib.specs.Reclaiming.{needs}
use Rattle.ffs_lib.specs.Steps.{newest_block}

-- of an inode with these 64 bytes, at a place of its block, whose block of pointers has these bytes: it is freed, and before that its block of pointers
-- emptied, if that points to anything
abbrev pub given_up_edits : List ℕ → ℕ → ℕ → List ℕ → Edits
given_up_edits pointers home place inode =
    let freed = (home, edit_at (64 * place) (replicate 64 0) [] (data_of_inode inode) None) ∷ [] in
    if has_data pointers inode then (word_at inode 56, edit_at 0 zero_block [] (data_of_pointers pointers) None) ∷ freed else freed

abbrev pub repaired_edits : (ℕ → List ℕ) → ℕ → ℕ → Repair → Edits
repaired_edits content fs n Keep = []
repaired_edits content fs n GiveUp =
    edits_at (inode_block_in content fs ((n - 1) / 8)) (inode_in content fs n)
    (λ home inode. given_up_edits (content (word_at inode 56)) home ((n - 1) % 8) inode)
repaired_edits content fs n (SetLinks links) =
    edits_at (inode_block_in content fs ((n - 1) / 8)) (inode_in content fs n)
    (λ home inode. (home, edit_at (64 * ((n - 1) % 8)) (put inode 2 (to_le_bytes w16 links)) [] [] None) ∷ [])

abbrev pub repair_parts : Files → ℕ → List ℕ → Parts
repair_parts files fs numbers = map (λ n. λ state. Makes (repaired_edits (newest_block state) fs n (needs files n))) numbers

abbrev pub reclaimed_parts : Files → ℕ → Parts
reclaimed_parts files fs = repair_parts files fs (range_with_len 1 128)
