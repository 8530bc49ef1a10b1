-- What is found in the newest bytes of a file system, and which fault is told where it is not there. Faults come in the order of the
-- tests.
--     root_in, inode_block_in                     the root block; the block of inodes at an index
--     inode_in, directory_in, file_in             the 64 bytes of the inode in use with a number; of a directory; of a file
--     slots_in_block, slots_of                      the entries of a block, by place; of a directory, block after block as its inode has them
--     name_at, first_named, named_in              an entry's name; the first entry with a name, as `None` or as a fault where there is none
--     listing, without_entry                      the entries of a directory with their names; without one of them
--     names_of, names_in                          the names of a directory and the inodes that they name
--     most_bytes                                  how many bytes a file has at most
--     file_end, byte_of, bytes_from               where a file ends; its byte at an offset, 0 in a hole; its bytes from an offset on, up to its end
--     read_count, read_into                       how many bytes a read answers, and what it leaves of those that it was given
--     room_in, number_in, IsLowest                where a directory has room for an entry; the number of the lowest free inode; a look-up for it
--     make_in, create_in, write_in, unlink_in, rmdir_in, rename_in    what a call looks up before it edits
--     is_short, is_own, RefusesAs                 a fault for want of something; one of the library's own; what is answered where a look-up fails
use Rattle.std.specs.Prelude.{ℕ, ◌+◌, ◌*◌, ◌-◌, ◌/◌, ◌%◌, Bool, true, false, not, ◌&&◌, ◌||◌, ◌==◌, nat_lt, min, List, ◌++◌, length, drop, map, find, replicate}
use Rattle.std.specs.Prelude.{Option, Some, None, Result, Ok, Err, ◌≡◌, IfErr, get_or, is_some, bytes_eq, option_map, filter, filter_map, flat_map}
use Rattle.std.specs.Prelude.{if◌then◌else◌}
use Rattle.std.specs.List.{list_any, range_with_len}
use Rattle.std.specs.Option.{ok_or}
use Rattle.store_types.specs.declared.refusal.Refusal.TheVariants.{RootTaken}
use Rattle.xn_model.specs.Root.{slot, word_at}
use Rattle.xn_model.specs.Lives.{StoreState}
use Rattle.ffs_model.specs.Shortages.{is_shortage}
use Rattle.ffs_model.specs.Library.{half_at, pointer_word, inode_at, inode_mode, inode_links, inode_blocks}
use Rattle.ffs_format.specs.Entries.{is_name, name_in}
use Rattle.ffs_format.specs.Fields.{direct_in}
use Rattle.ffs_lookup.specs.declared.fault.FfsFault.{FfsFault}
use Rattle.ffs_lookup.specs.declared.fault.FfsFault.TheVariants.{NoEntry, Exists, NotDir, IsDir, DirNotEmpty, BadName, TooLarge, NoInode, Kernel, Unsound}
use Rattle.ffs_lookup.specs.declared.places.Slot.{Slot}
use Rattle.ffs_lookup.specs.declared.places.Free.{Free}
use Rattle.ffs_lookup.specs.declared.places.Room.{Room}
use Rattle.ffs_lookup.specs.declared.places.Room.TheVariants.{Entry, Pointer}

-- Results

abbrev pub mapped : {A B : Type 0} → (A → B) → Result A FfsFault → Result B FfsFault
mapped f (Ok x) = Ok (f x)
mapped f (Err fault) = Err fault

abbrev pub and_then : {A B : Type 0} → Result A FfsFault → (A → Result B FfsFault) → Result B FfsFault
and_then (Ok x) f = f x
and_then (Err fault) f = Err fault

-- Blocks and inodes

-- a root slot's block, if its type is 3
abbrev pub root_of_type : ℕ × ℕ → Result ℕ FfsFault
root_of_type s = if s.0 == 0 then Err NoEntry else if s.1 == 3 then Ok s.0 else Err NoEntry

unfoldable pub root_in : (ℕ → List ℕ) → ℕ → Result ℕ FfsFault
root_in content fs = root_of_type (slot (content 0) fs)

abbrev pub unless_zero : ℕ → Result ℕ FfsFault
unless_zero block = if block == 0 then Err NoEntry else Ok block

unfoldable pub inode_block_in : (ℕ → List ℕ) → ℕ → ℕ → Result ℕ FfsFault
inode_block_in content fs index = and_then (root_in content fs) (λ root. unless_zero (pointer_word (content root) index))

abbrev pub unless_unused : List ℕ → Result (List ℕ) FfsFault
unless_unused inode = if inode_mode inode == 0 then Err NoEntry else Ok inode

-- inodes are numbered from 1 to 128, eight in a block
unfoldable pub inode_in : (ℕ → List ℕ) → ℕ → ℕ → Result (List ℕ) FfsFault
inode_in content fs n =
    if (n == 0) || nat_lt 128 n then Err NoEntry
    else and_then (inode_block_in content fs ((n - 1) / 8)) (λ block. unless_unused (inode_at (content block) ((n - 1) % 8)))

abbrev pub if_directory : List ℕ → Result (List ℕ) FfsFault
if_directory inode = if inode_mode inode == 2 then Ok inode else Err NotDir

abbrev pub if_file : List ℕ → Result (List ℕ) FfsFault
if_file inode = if inode_mode inode == 2 then Err IsDir else Ok inode

unfoldable pub directory_in : (ℕ → List ℕ) → ℕ → ℕ → Result (List ℕ) FfsFault
directory_in content fs n = and_then (inode_in content fs n) if_directory

unfoldable pub file_in : (ℕ → List ℕ) → ℕ → ℕ → Result (List ℕ) FfsFault
file_in content fs n = and_then (inode_in content fs n) if_file

-- Entries of directories

abbrev pub entry_at : (ℕ → List ℕ) → ℕ → ℕ → Slot
entry_at content block place = record { block = block; place = place; inode = half_at (content block) (32 * place) }

-- an entry that names no inode is none
abbrev pub used_entry : Slot → Option Slot
used_entry entry = if entry.inode == 0 then None else Some entry

abbrev pub slots_in_block : (ℕ → List ℕ) → ℕ → List Slot
slots_in_block content block = filter_map (λ place. used_entry (entry_at content block place)) (range_with_len 0 16)

-- of the directory with this inode
abbrev pub slots_of : (ℕ → List ℕ) → List ℕ → List Slot
slots_of content inode = flat_map (slots_in_block content) (inode_blocks inode)

abbrev pub name_at : (ℕ → List ℕ) → Slot → List ℕ
name_at content entry = name_in (content entry.block) (32 * entry.place)

abbrev pub has_name : (ℕ → List ℕ) → List ℕ → Slot → Bool
has_name content name entry = bytes_eq (name_at content entry) name

abbrev pub first_named : (ℕ → List ℕ) → List ℕ → List ℕ → Option Slot
first_named content inode name = find (has_name content name) (slots_of content inode)

abbrev pub entry_named : (ℕ → List ℕ) → List ℕ → List ℕ → Result Slot FfsFault
entry_named content name inode = if is_name name then ok_or (first_named content inode name) NoEntry else Err BadName

-- the entry with a name in a directory
unfoldable pub named_in : (ℕ → List ℕ) → ℕ → ℕ → List ℕ → Result Slot FfsFault
named_in content fs n name = and_then (directory_in content fs n) (entry_named content name)

-- each name with the inode that it names
abbrev pub names_of : (ℕ → List ℕ) → List ℕ → List (List ℕ × ℕ)
names_of content inode = map (λ entry. (name_at content entry, entry.inode)) (slots_of content inode)

-- the same of one block's bytes, of the entries at these places
abbrev pub name_of_place : List ℕ → ℕ → Option (List ℕ × ℕ)
name_of_place m place = if half_at m (32 * place) == 0 then None else Some (name_in m (32 * place), half_at m (32 * place))

abbrev pub names_at : List ℕ → List ℕ → List (List ℕ × ℕ)
names_at m places = filter_map (name_of_place m) places

unfoldable pub names_in : (ℕ → List ℕ) → ℕ → ℕ → Result (List (List ℕ × ℕ)) FfsFault
names_in content fs n = mapped (names_of content) (directory_in content fs n)

-- each entry with its name
abbrev pub listing : (ℕ → List ℕ) → List ℕ → List (Slot × List ℕ)
listing content inode = map (λ entry. (entry, name_at content entry)) (slots_of content inode)

abbrev pub is_at : Slot → Slot → Bool
is_at entry other = (other.block == entry.block) && (other.place == entry.place)

-- without the one that stands there
abbrev pub without_entry : Slot → List (Slot × List ℕ) → List (Slot × List ℕ)
without_entry entry entries = filter (λ p. not (is_at entry p.0)) entries

-- Bytes of files

-- the block of a file with this inode at an index, 0 to 139; 0 for a hole
abbrev pub file_block : (ℕ → List ℕ) → List ℕ → ℕ → ℕ
file_block content inode index =
    if nat_lt index 12 then direct_in inode index
    else if word_at inode 56 == 0 then 0 else pointer_word (content (word_at inode 56)) (index - 12)

-- a byte of a block, 0 of none
abbrev pub byte_in : (ℕ → List ℕ) → ℕ → ℕ → ℕ
byte_in content block at = if block == 0 then 0 else get_or (content block) at 0

abbrev pub byte_of : (ℕ → List ℕ) → List ℕ → ℕ → ℕ
byte_of content inode at = byte_in content (file_block content inode (at / 512)) (at % 512)

-- 140 blocks: 12 that the inode points to, and 128 more
abbrev pub most_bytes : ℕ
most_bytes = 71680

abbrev pub file_end : List ℕ → ℕ
file_end inode = min (word_at inode 4) most_bytes

-- at most so many bytes from an offset on
abbrev pub bytes_from : (ℕ → List ℕ) → List ℕ → ℕ → ℕ → List ℕ
bytes_from content inode offset count = map (byte_of content inode) (range_with_len offset (min count (file_end inode - offset)))

-- what a read of so many bytes answers
abbrev pub read_count : ℕ → ℕ → Result (List ℕ) FfsFault → Result ℕ FfsFault
read_count count offset file = mapped (λ inode. min count (file_end inode - offset)) file

-- and what it leaves of them
abbrev pub read_into : (ℕ → List ℕ) → List ℕ → ℕ → Result (List ℕ) FfsFault → List ℕ
read_into content old offset (Ok inode) = let new = bytes_from content inode offset (length old) in new ++ drop (length new) old
read_into content old offset (Err fault) = old

-- What a call looks up before it edits

-- of `make`: whether a root block is there, without any block of inodes
abbrev pub has_pointer : List ℕ → Bool
has_pointer root = list_any (λ index. not (pointer_word root index == 0)) (range_with_len 0 16)

abbrev pub if_bare : List ℕ → Result Bool FfsFault
if_bare root = if pointer_word root 0 == 0 then (if has_pointer root then Err (Unsound 1) else Ok true) else Err Exists

abbrev pub if_makeable : (ℕ → List ℕ) → ℕ × ℕ → Result Bool FfsFault
if_makeable content s = if s.0 == 0 then Ok false else if s.1 == 3 then if_bare (content s.0) else Err (Kernel RootTaken)

unfoldable pub make_in : (ℕ → List ℕ) → ℕ → Result Bool FfsFault
make_in content fs = if_makeable content (slot (content 0) fs)

unfoldable pub write_in : (ℕ → List ℕ) → ℕ → ℕ → ℕ → Result (List ℕ) FfsFault
write_in content fs n size = and_then (file_in content fs n) (λ inode. if nat_lt most_bytes size then Err TooLarge else Ok inode)

unfoldable pub unlink_in : (ℕ → List ℕ) → ℕ → ℕ → List ℕ → Result Slot FfsFault
unlink_in content fs n name = and_then (named_in content fs n name) (λ entry. mapped (λ inode. entry) (file_in content fs entry.inode))

abbrev pub if_empty : (ℕ → List ℕ) → Slot → List ℕ → Result Slot FfsFault
if_empty content entry inode = if length (slots_of content inode) == 0 then Ok entry else Err DirNotEmpty

unfoldable pub rmdir_in : (ℕ → List ℕ) → ℕ → ℕ → List ℕ → Result Slot FfsFault
rmdir_in content fs n name = and_then (named_in content fs n name) (λ entry. and_then (directory_in content fs entry.inode) (if_empty content entry))

-- a place of a block without an entry
abbrev pub has_gap : List ℕ → Bool
has_gap m = list_any (λ place. half_at m (32 * place) == 0) (range_with_len 0 16)

-- room for an entry more in a directory: a gap in one of its blocks, or an empty pointer
abbrev pub has_room : (ℕ → List ℕ) → List ℕ → Bool
has_room content inode = list_any (λ block. has_gap (content block)) (inode_blocks inode) ||
    list_any (λ index. direct_in inode index == 0) (range_with_len 0 12)

-- a free inode, which is all zeros
abbrev pub is_free_inode : List ℕ → Bool
is_free_inode inode = bytes_eq inode (replicate 64 0)

-- one in the block to which a pointer leads, 0 to none
abbrev pub has_free_at : (ℕ → List ℕ) → ℕ → Bool
has_free_at content block = not (block == 0) && list_any (λ place. is_free_inode (inode_at (content block) place)) (range_with_len 0 8)

abbrev pub has_free_inode : (ℕ → List ℕ) → ℕ → Bool
has_free_inode content root = list_any (λ index. has_free_at content (pointer_word (content root) index)) (range_with_len 0 16)

-- The first place without an entry in the first block that has one, or else the first empty pointer.
abbrev pub room_from : (ℕ → List ℕ) → List ℕ → Option ℕ → Option Room
room_from content inode (Some block) = option_map (Entry block) (find (λ place. half_at (content block) (32 * place) == 0) (range_with_len 0 16))
room_from content inode None = option_map Pointer (find (λ index. direct_in inode index == 0) (range_with_len 0 12))

abbrev pub room_in : (ℕ → List ℕ) → List ℕ → Option Room
room_in content inode = room_from content inode (find (λ block. has_gap (content block)) (inode_blocks inode))

-- a pointer of the root block for a new block of inodes
abbrev pub has_empty_pointer : (ℕ → List ℕ) → ℕ → Bool
has_empty_pointer content root = list_any (λ index. pointer_word (content root) index == 0) (range_with_len 0 16)

abbrev pub has_inode : (ℕ → List ℕ) → ℕ → Bool
has_inode content root = has_free_inode content root || has_empty_pointer content root

-- The first free inode in the first block that has one, or else the first one of a block for the first empty pointer.
abbrev pub number_from : (ℕ → List ℕ) → ℕ → Option ℕ → Option ℕ
number_from content root (Some index) =
    option_map (λ place. 8 * index + place + 1) (find (λ place. is_free_inode (inode_at (content (pointer_word (content root) index)) place))
    (range_with_len 0 8))
number_from content root None = option_map (λ index. 8 * index + 1) (find (λ index. pointer_word (content root) index == 0) (range_with_len 0 16))

abbrev pub number_in : (ℕ → List ℕ) → ℕ → Option ℕ
number_in content root = number_from content root (find (λ index. has_free_at content (pointer_word (content root) index)) (range_with_len 0 16))

-- it is the lowest one; there is none in the blocks that there are
abbrev pub IsLowest : (ℕ → List ℕ) → ℕ → Option Free → Type 0
IsLowest content fs (Some free) = (root : ℕ) → Ok root ≡ root_in content fs → Some free.number ≡ number_in content root
IsLowest content fs None = (root : ℕ) → Ok root ≡ root_in content fs → has_free_inode content root ≡ false

abbrev pub if_room : (ℕ → List ℕ) → List ℕ → ℕ → Result (List ℕ) FfsFault
if_room content inode root = if has_inode content root then (if has_room content inode then Ok inode else Err TooLarge) else Err NoInode

abbrev pub if_new : (ℕ → List ℕ) → ℕ → List ℕ → List ℕ → Result (List ℕ) FfsFault
if_new content fs name inode =
    if is_name name then (if is_some (first_named content inode name) then Err Exists else and_then (root_in content fs) (if_room content inode))
    else Err BadName

-- of `create` and `mkdir`
unfoldable pub create_in : (ℕ → List ℕ) → ℕ → ℕ → List ℕ → Result (List ℕ) FfsFault
create_in content fs n name = and_then (directory_in content fs n) (if_new content fs name)

-- of `rename`: whether the inode may be named again, from the directory with an inode to that with another, which may be the same
abbrev pub if_linkable : (ℕ → List ℕ) → Bool → List ℕ → Slot → List ℕ → Result Slot FfsFault
if_linkable content same to entry inode =
    if (inode_mode inode == 2) && not same then Err IsDir
    else if inode_links inode == 65535 then Err TooLarge
    else if has_room content to then Ok entry else Err TooLarge

abbrev pub if_unnamed : (ℕ → List ℕ) → ℕ → Bool → List ℕ → List ℕ → Slot → Result Slot FfsFault
if_unnamed content fs same to new_name entry =
    if is_some (first_named content to new_name) then Err Exists else and_then (inode_in content fs entry.inode) (if_linkable content same to entry)

abbrev pub if_movable : (ℕ → List ℕ) → ℕ → Bool → List ℕ → List ℕ → List ℕ → List ℕ → Result Slot FfsFault
if_movable content fs same name new_name from to =
    if (inode_mode from == 2) && (inode_mode to == 2) then
    (if is_name name && is_name new_name then and_then (ok_or (first_named content from name) NoEntry) (if_unnamed content fs same to new_name)
    else Err BadName)
    else Err NotDir

-- the entry that is moved
unfoldable pub rename_in : (ℕ → List ℕ) → ℕ → ℕ → List ℕ → ℕ → List ℕ → Result Slot FfsFault
rename_in content fs d name other new_name =
    and_then (inode_in content fs d) (λ from. and_then (inode_in content fs other) (λ to. if_movable content fs (d == other) name new_name from to))

-- the store is short of something
abbrev pub is_short : FfsFault → Bool
is_short (Kernel refusal) = is_shortage refusal
is_short fault = false

-- neither the store's nor for want of memory
abbrev pub is_own : FfsFault → Bool
is_own (Kernel refusal) = false
is_own fault = true

-- Where a look-up fails that fault is answered, and nothing changes. Else a fault is the store's, or for want of memory.
abbrev pub RefusesAs : {A B : Type 0} → Result A FfsFault → StoreState → StoreState → Result B FfsFault → Type 0
RefusesAs (Err fault) old new result = (result ≡ Err fault) × (new ≡ old)
RefusesAs (Ok found) old new result = IfErr result (λ fault. is_own fault ≡ false)

-- The directory with a number is the same, but for one entry that is gone.
abbrev pub TakesEntry : (ℕ → List ℕ) → (ℕ → List ℕ) → ℕ → ℕ → Slot → Type 0
TakesEntry old new fs n entry = (inode : List ℕ) → Ok inode ≡ directory_in old fs n → (Ok inode ≡ directory_in new fs n) ×
    (listing new inode ≡ without_entry entry (listing old inode))
