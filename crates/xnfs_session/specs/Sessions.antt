-- What callers see of a session, and what its calls tell.
--     SessionValue S       a store, the file system whose volume is open on it, and the numbers that the volume keeps of its edits
--     node_from n inode    what is told of the inode n
--     new_of, mode_of      what is made of a kind, and the mode of its inode
--     removed_of           what `remove` makes of the files, by the kind
--     removal_in           the entry that it clears
--     used_in              how many inodes are in use
--     name_blocks          how many blocks a new name in a directory takes, with an inode or without
--     owner_of             a block's type, and the blocks that its newest bytes point to
use Rattle.std.specs.Prelude.{ℕ, ◌+◌, Bool, true, false, List, Option, Some, Result, Ok, Err, ◌==◌, count_by, is_ok, if◌then◌else◌}
use Rattle.std.specs.List.{range_with_len}
use Rattle.store_types.specs.declared.refusal.Refusal.{Refusal}
use Rattle.xn_model.specs.Calls.{own_life}
use Rattle.xn_model.specs.Lists.{blocks_of}
use Rattle.xn_model.specs.Lives.{StoreState, current}
use Rattle.xn_model.specs.Results.{result_map}
use Rattle.xn_model.specs.Types.{Types}
use Rattle.ffs_format.specs.Fields.{fields_of}
use Rattle.ffs_model.specs.Library.{inode_mode, inode_links}
use Rattle.ffs_lookup.specs.declared.fault.FfsFault.{FfsFault}
use Rattle.ffs_lookup.specs.declared.fault.FfsFault.TheVariants.{TooLarge}
use Rattle.ffs_lookup.specs.declared.places.Room.{Room}
use Rattle.ffs_lookup.specs.declared.places.Room.TheVariants.{Pointer}
use Rattle.ffs_lookup.specs.declared.places.Slot.{Slot}
use Rattle.ffs_lookup.specs.Files.{Answer, Files, InodeValue, new_directory, new_file, removed, unlinked}
use Rattle.ffs_lookup.specs.Newest.{and_then, directory_in, has_free_inode, has_room, inode_in, mapped, rmdir_in, room_in, root_in, unlink_in}
use Rattle.xnfs_session.specs.declared.session.Kind.{Kind}
use Rattle.xnfs_session.specs.declared.session.Kind.TheVariants.{File, Directory}
use Rattle.xnfs_session.specs.declared.session.Node.{Node}

pub record SessionValue (S : Type 0) : Type 0 where
  pub store : S
  pub fs : ℕ
  -- of the edits that added blocks of inodes, by index
  pub numbers : List (Option ℕ)

abbrev pub node_from : ℕ → List ℕ → Node
node_from n inode = record { number = n; is_directory = inode_mode inode == 2; links = inode_links inode; size = (fields_of inode).size }

-- what is made of a kind, and the mode of its inode
abbrev pub new_of : Kind → InodeValue
new_of File = new_file
new_of Directory = new_directory

abbrev pub mode_of : Kind → ℕ
mode_of File = 1
mode_of Directory = 2

-- the files without a name: that of a file, or of an empty directory, as a function of them; and the entry that is cleared
abbrev pub removed_of : Kind → Files → ℕ → List ℕ → Answer (Unit {0})
removed_of File = unlinked
removed_of Directory = removed

abbrev pub removal_in : Kind → (ℕ → List ℕ) → ℕ → ℕ → List ℕ → Result Slot FfsFault
removal_in File = unlink_in
removal_in Directory = rmdir_in

-- how many inodes are in use
abbrev pub is_used : (ℕ → List ℕ) → ℕ → ℕ → Bool
is_used content fs n = is_ok (inode_in content fs n)

unfoldable pub used_in : (ℕ → List ℕ) → ℕ → ℕ
used_in content fs = count_by (is_used content fs) (range_with_len 1 128)

-- how many blocks an entry takes: one where it goes to the directory's first empty pointer
abbrev pub entry_blocks : Option Room → ℕ
entry_blocks (Some (Pointer index)) = 1
entry_blocks _ = 0

abbrev pub if_entry : (ℕ → List ℕ) → List ℕ → Result ℕ FfsFault
if_entry content directory = if has_room content directory then Ok (entry_blocks (room_in content directory)) else Err TooLarge

-- and how many its inode does, where that is new: one where no block of inodes has a free one
abbrev pub inode_blocks : (ℕ → List ℕ) → ℕ → Bool → Result ℕ FfsFault
inode_blocks content fs false = Ok 0
inode_blocks content fs true = mapped (λ root. if has_free_inode content root then 0 else 1) (root_in content fs)

abbrev pub name_blocks : (ℕ → List ℕ) → ℕ → ℕ → Bool → Result ℕ FfsFault
name_blocks content fs directory is_new =
    and_then (directory_in content fs directory) (λ inode. and_then (if_entry content inode) (λ entry. mapped (λ n. entry + n) (inode_blocks content fs is_new)))

-- a block with its type, and what its newest bytes point to
abbrev pub owner_of : Types → StoreState → ℕ → ℕ → Result (ℕ × List ℕ) Refusal
owner_of T state fs block = result_map (λ l. (l.ty, blocks_of (T.owned l.ty (current l)))) (own_life state fs block)
