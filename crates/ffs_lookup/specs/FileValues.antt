-- The files that the bytes of a file system have.
--     place_in                      the 64 bytes at the place of an inode, in use or not
--     block_value, blocks_value     a block of a directory; the blocks of one with an inode
--     bytes_value                   the bytes of a file with an inode, up to its size
--     inode_value, files_of         what an inode is by its 64 bytes; what each one is
--     HasBlocksOnce, AreBlocksOnce  an inode points to no block twice; no directory does
use Rattle.std.specs.Prelude.{◌≡◌, ◌≢◌, ℕ, ◌-◌, ◌/◌, ◌%◌, ◌<◌, ◌==◌, ◌||◌, nat_lt, List, map, Option, Some, None, Result, Ok, Err, if◌then◌else◌}
use Rattle.std.specs.List.{range_with_len}
use Rattle.ffs_model.specs.Library.{inode_at, inode_links, inode_mode}
use Rattle.ffs_format.specs.Fields.{direct_in}
use Rattle.ffs_lookup.specs.declared.fault.FfsFault.{FfsFault}
use Rattle.ffs_lookup.specs.Files.{Blocks, Entry, InodeValue, Absent, Free, Unusable, File, Directory}
use Rattle.ffs_lookup.specs.Newest.{and_then, byte_of, directory_in, file_end, inode_block_in, is_free_inode, name_of_place}

abbrev pub place_in : (ℕ → List ℕ) → ℕ → ℕ → Result (List ℕ) FfsFault
place_in content fs n = and_then (inode_block_in content fs ((n - 1) / 8)) (λ block. Ok (inode_at (content block) ((n - 1) % 8)))

-- by the block's number, 0 for none
abbrev pub block_value : (ℕ → List ℕ) → ℕ → Option (List (Option Entry))
block_value content block = if block == 0 then None else Some (map (name_of_place (content block)) (range_with_len 0 16))

abbrev pub blocks_value : (ℕ → List ℕ) → List ℕ → Blocks
blocks_value content inode = map (λ index. block_value content (direct_in inode index)) (range_with_len 0 12)

abbrev pub bytes_value : (ℕ → List ℕ) → List ℕ → List ℕ
bytes_value content inode = map (byte_of content inode) (range_with_len 0 (file_end inode))

-- 64 bytes 0 are a free inode
abbrev pub inode_value : (ℕ → List ℕ) → List ℕ → InodeValue
inode_value content inode =
    if is_free_inode inode then Free
    else if inode_mode inode == 0 then Unusable
    else if inode_mode inode == 2 then Directory (inode_links inode) (blocks_value content inode)
    else File (inode_links inode) (bytes_value content inode)

abbrev pub value_in : (ℕ → List ℕ) → Result (List ℕ) FfsFault → InodeValue
value_in content (Ok inode) = inode_value content inode
value_in content (Err fault) = Absent

unfoldable pub files_of : (ℕ → List ℕ) → ℕ → ℕ → InodeValue
files_of content fs n = if (n == 0) || nat_lt 128 n then Absent else value_in content (place_in content fs n)

abbrev pub HasBlocksOnce : List ℕ → Type 0
HasBlocksOnce inode = (i j : ℕ) → i < 12 → j < 12 → direct_in inode i ≢ 0 → direct_in inode i ≡ direct_in inode j → i ≡ j

abbrev pub AreBlocksOnce : (ℕ → List ℕ) → ℕ → Type 0
AreBlocksOnce content fs = (d : ℕ) (inode : List ℕ) → Ok inode ≡ directory_in content fs d → HasBlocksOnce inode
