-- The files of a volume as a value, and each call as a function of it. An inode has a number from 1 to 128, and eight stand in a block of inodes. A
-- directory has up to 12 blocks, at the indices 0 to 11, each of 16 places for entries. Faults come in the order of the tests.
--     Entry, Blocks, InodeValue, Files            an entry; the blocks of a directory; what an inode is; what each one is, by its number
--     fault_told                                        the fault of a look-up
--     in_use, directory_of, file_of               an inode in use; the links and the blocks of a directory; the links and the bytes of a file
--     directory_block, positions, entry_at               a block of a directory; the places of all blocks, in order; the entry at one
--     look_up, room                               where the first entry with a name stands, and what it names; where an entry more goes
--     free_number                                 the inode that is taken for a new file or directory
--     with_value, with_entry, with_block, without_link    the files with one changed: another value; an entry put or cleared; a new block of inodes;
--                                                         a link less
--     Answer                                      a fault, and nothing changes; or what is answered, and the files after it
--     read, read_over, listed                     what `read` and `list` answer
--     empty_volume, made                          a volume without files; `make`
--     created, written, unlinked, removed, renamed, replaced    the other calls
--     IsSingle, AreSingle                         no name stands twice in a directory; in each one
use Rattle.std.specs.Prelude.{◌≡◌, ℕ, ◌+◌, ◌-◌, ◌/◌, ◌<◌, Bool, true, false, not, ◌&&◌, ◌==◌, nat_lt, nat_le, List, [], ◌++◌, length, take, drop, map, find}
use Rattle.std.specs.Prelude.{replicate, Option, Some, None, Result, Ok, Err, is_some, bytes_eq, option_map, option_and_then, unwrap_or, filter_map, flat_map}
use Rattle.std.specs.Prelude.{slice_index_or, slice_set, if◌then◌else◌}
use Rattle.std.specs.List.{range_with_len}
use Rattle.std.specs.Option.{ok_or, option_or}
use Rattle.ffs_format.specs.Entries.{is_name}
use Rattle.ffs_lookup.specs.declared.fault.FfsFault.{FfsFault}
use Rattle.ffs_lookup.specs.declared.fault.FfsFault.TheVariants.{NoEntry, Exists, NotDir, IsDir, DirNotEmpty, BadName, TooLarge, NoInode}
use Rattle.ffs_lookup.specs.Newest.{and_then, mapped, most_bytes}

-- Values

-- an entry: a name, and the number of the inode that it names
abbrev pub Entry : Type 0
Entry = List ℕ × ℕ

-- the blocks of a directory, by index: none, or its 16 places, each free or with an entry
abbrev pub Blocks : Type 0
Blocks = List (Option (List (Option Entry)))

-- What an inode is: in no block of inodes yet; free; neither free nor in use, which no call of a volume leaves; a file with its links, and its bytes up
-- to its size; a directory with its links and its blocks.
pub data InodeValue : Type 0 where
  Absent : InodeValue
  Free : InodeValue
  Unusable : InodeValue
  File : (links : ℕ) (bytes : List ℕ) → InodeValue
  Directory : (links : ℕ) (blocks : List (Option (List (Option (List ℕ × ℕ))))) → InodeValue

abbrev pub Files : Type 0
Files = ℕ → InodeValue

abbrev pub Answer : Type 0 → Type 0
Answer A = Result (A × (ℕ → InodeValue)) FfsFault

-- the fault of a look-up, if there is one
abbrev pub fault_told : {A : Type 0} → Result A FfsFault → Result (Unit {0}) FfsFault
fault_told r = mapped (λ x. tt) r

-- What is found

abbrev pub in_use : InodeValue → Result InodeValue FfsFault
in_use (File links bytes) = Ok (File links bytes)
in_use (Directory links blocks) = Ok (Directory links blocks)
in_use other = Err NoEntry

abbrev pub directory_of : InodeValue → Result (ℕ × Blocks) FfsFault
directory_of (Directory links blocks) = Ok (links, blocks)
directory_of (File links bytes) = Err NotDir
directory_of other = Err NoEntry

abbrev pub file_of : InodeValue → Result (ℕ × List ℕ) FfsFault
file_of (File links bytes) = Ok (links, bytes)
file_of (Directory links blocks) = Err IsDir
file_of other = Err NoEntry

abbrev pub links_of : InodeValue → ℕ
links_of (File links bytes) = links
links_of (Directory links blocks) = links
links_of other = 0

abbrev pub is_directory : InodeValue → Bool
is_directory (Directory links blocks) = true
is_directory other = false

abbrev pub is_free : InodeValue → Bool
is_free Free = true
is_free other = false

abbrev pub is_absent : InodeValue → Bool
is_absent Absent = true
is_absent other = false

-- Places of a directory: the index of a block, and the place in it

abbrev pub directory_block : Blocks → ℕ → Option (List (Option Entry))
directory_block blocks index = slice_index_or blocks index None

abbrev pub positions_in : ℕ → Option (List (Option Entry)) → List (ℕ × ℕ)
positions_in index None = []
positions_in index (Some places) = map (λ place. (index, place)) (range_with_len 0 16)

-- block after block
abbrev pub positions : Blocks → List (ℕ × ℕ)
positions blocks = flat_map (λ index. positions_in index (directory_block blocks index)) (range_with_len 0 12)

abbrev pub entry_at : Blocks → ℕ × ℕ → Option Entry
entry_at blocks at = option_and_then (λ places. slice_index_or places at.1 None) (directory_block blocks at.0)

abbrev pub is_named : List ℕ → Option Entry → Bool
is_named name None = false
is_named name (Some entry) = bytes_eq entry.0 name

-- where the first entry with a name stands, and the number of the inode that it names
abbrev pub look_up : List ℕ → Blocks → Option ((ℕ × ℕ) × ℕ)
look_up name blocks =
    option_and_then (λ at. option_map (λ entry. (at, entry.1)) (entry_at blocks at))
    (find (λ at. is_named name (entry_at blocks at)) (positions blocks))

-- The first free place, or else the first place of a new block at the lowest index that has none.
abbrev pub room : Blocks → Option (ℕ × ℕ)
room blocks =
    option_or (find (λ at. not (is_some (entry_at blocks at))) (positions blocks))
    (option_map (λ index. (index, 0)) (find (λ index. not (is_some (directory_block blocks index))) (range_with_len 0 12)))

-- with an entry, or none, at a place, in a new block of free places where there was none
abbrev pub put_entry : Blocks → ℕ × ℕ → Option Entry → Blocks
put_entry blocks at entry = slice_set blocks at.0 (Some (slice_set (unwrap_or (directory_block blocks at.0) (replicate 16 None)) at.1 entry))

-- The lowest free inode, or else the lowest of those that are in no block of inodes yet.
abbrev pub free_number : Files → Option ℕ
free_number files = option_or (find (λ n. is_free (files n)) (range_with_len 1 128)) (find (λ n. is_absent (files n)) (range_with_len 1 128))

-- Files with one changed

abbrev pub with_value : Files → ℕ → InodeValue → Files
with_value files n value x = if x == n then value else files x

abbrev pub with_entry_in : (ℕ × ℕ) → Option Entry → InodeValue → InodeValue
with_entry_in at entry (Directory links blocks) = Directory links (put_entry blocks at entry)
with_entry_in at entry other = other

abbrev pub with_entry : Files → ℕ → ℕ × ℕ → Option Entry → Files
with_entry files d at entry = with_value files d (with_entry_in at entry (files d))

-- A block of inodes is added for the inode with a number, where it was in none: all eight are free.
abbrev pub with_block : Files → ℕ → Files
with_block files n x = if is_absent (files n) && (not (x == 0) && ((x - 1) / 8 == (n - 1) / 8)) then Free else files x

-- a link less, or free without the last one
abbrev pub less_a_link : InodeValue → InodeValue
less_a_link (File links bytes) = if nat_le links 1 then Free else File (links - 1) bytes
less_a_link (Directory links blocks) = if nat_le links 1 then Free else Directory (links - 1) blocks
less_a_link other = other

abbrev pub without_link : Files → ℕ → Files
without_link files n = with_value files n (less_a_link (files n))

-- What `read` and `list` answer

-- at most so many bytes of a file from an offset on
abbrev pub read : Files → ℕ → ℕ → ℕ → Result (List ℕ) FfsFault
read files n offset count = mapped (λ file. take count (drop offset file.1)) (file_of (files n))

-- and what it leaves of the bytes that it was given
abbrev pub read_over : List ℕ → Result (List ℕ) FfsFault → List ℕ
read_over old (Ok new) = new ++ drop (length new) old
read_over old (Err fault) = old

-- the names of a directory, and the inodes that they name
abbrev pub listed : Files → ℕ → Result (List Entry) FfsFault
listed files d = mapped (λ directory. filter_map (entry_at directory.1) (positions directory.1)) (directory_of (files d))

-- Calls

abbrev pub new_file : InodeValue
new_file = File 1 []

abbrev pub new_directory : InodeValue
new_directory = Directory 1 (replicate 12 None)

-- inode 1 is a directory without blocks, and the others of its block of inodes are free
abbrev pub empty_volume : Files
empty_volume n = if n == 1 then new_directory else if not (n == 0) && nat_le n 8 then Free else Absent

abbrev pub made : Files → Answer (Unit {0})
made files = if is_absent (files 1) then Ok (tt, empty_volume) else Err Exists

-- a new file or directory, and its name in a directory
abbrev pub made_at : InodeValue → Files → ℕ → List ℕ → ℕ → ℕ × ℕ → ℕ × Files
made_at value files d name n at = (n, with_entry (with_value (with_block files n) n value) d at (Some (name, n)))

abbrev pub made_in : InodeValue → Files → ℕ → List ℕ → ℕ × Blocks → Answer ℕ
made_in value files d name directory =
    if is_name name then
    (if is_some (look_up name directory.1) then Err Exists
    else and_then (ok_or (free_number files) NoInode) (λ n. mapped (made_at value files d name n) (ok_or (room directory.1) TooLarge)))
    else Err BadName

-- `create` and `mkdir` make a new file, and a new directory
abbrev pub created : InodeValue → Files → ℕ → List ℕ → Answer ℕ
created value files d name = and_then (directory_of (files d)) (made_in value files d name)

-- bytes with others from an offset on, and zeros before these where there were none
abbrev pub written_bytes : List ℕ → ℕ → List ℕ → List ℕ
written_bytes old offset new = take offset old ++ replicate (offset - length old) 0 ++ new ++ drop (offset + length new) old

-- no bytes change nothing
abbrev pub written_in : Files → ℕ → ℕ → List ℕ → ℕ × List ℕ → Answer (Unit {0})
written_in files n offset bytes file =
    if nat_lt most_bytes (offset + length bytes) then Err TooLarge
    else if length bytes == 0 then Ok (tt, files)
    else Ok (tt, with_value files n (File file.0 (written_bytes file.1 offset bytes)))

abbrev pub written : Files → ℕ → ℕ → List ℕ → Answer (Unit {0})
written files n offset bytes = and_then (file_of (files n)) (written_in files n offset bytes)

-- the entry of a directory that has a name
abbrev pub entry_named : List ℕ → ℕ × Blocks → Result ((ℕ × ℕ) × ℕ) FfsFault
entry_named name directory = if is_name name then ok_or (look_up name directory.1) NoEntry else Err BadName

-- an entry is cleared, and the inode that it names has a link less
abbrev pub cleared : Files → ℕ → (ℕ × ℕ) × ℕ → Files
cleared files d found = without_link (with_entry files d found.0 None) found.1

abbrev pub unlinked : Files → ℕ → List ℕ → Answer (Unit {0})
unlinked files d name =
    and_then (directory_of (files d)) (λ directory. and_then (entry_named name directory) (λ found.
    mapped (λ file. (tt, cleared files d found)) (file_of (files found.1))))

abbrev pub is_bare : ℕ × Blocks → Bool
is_bare directory = not (is_some (find (λ at. is_some (entry_at directory.1 at)) (positions directory.1)))

abbrev pub removed : Files → ℕ → List ℕ → Answer (Unit {0})
removed files d name =
    and_then (directory_of (files d)) (λ directory. and_then (entry_named name directory) (λ found. and_then (directory_of (files found.1)) (λ inner.
    if is_bare inner then Ok (tt, cleared files d found) else Err DirNotEmpty)))

-- both are directories
abbrev pub directories : InodeValue → InodeValue → Result ((ℕ × Blocks) × (ℕ × Blocks)) FfsFault
directories (Directory links blocks) (Directory links' blocks') = Ok ((links, blocks), (links', blocks'))
directories from to = Err NotDir

-- of both directories: each in use, then that they are directories, then both names
abbrev pub both_directories : Files → ℕ → List ℕ → ℕ → List ℕ → Result ((ℕ × Blocks) × (ℕ × Blocks)) FfsFault
both_directories files d name other other_name =
    and_then (in_use (files d)) (λ from. and_then (in_use (files other)) (λ to. and_then (directories from to) (λ found.
    if is_name name && is_name other_name then Ok found else Err BadName)))

-- the new entry is put, then the old one is cleared
abbrev pub moved : Files → ℕ → (ℕ × ℕ) × ℕ → ℕ → List ℕ → ℕ × ℕ → Unit {0} × Files
moved files d found other new_name at = (tt, with_entry (with_entry files other at (Some (new_name, found.1))) d found.0 None)

abbrev pub moved_in : Files → ℕ → (ℕ × ℕ) × ℕ → ℕ → List ℕ → Blocks → InodeValue → Answer (Unit {0})
moved_in files d found other new_name to inode =
    if is_directory inode && not (d == other) then Err IsDir
    else if links_of inode == 65535 then Err TooLarge
    else mapped (moved files d found other new_name) (ok_or (room to) TooLarge)

abbrev pub renamed : Files → ℕ → List ℕ → ℕ → List ℕ → Answer (Unit {0})
renamed files d name other new_name =
    and_then (both_directories files d name other new_name) (λ both. and_then (ok_or (look_up name both.0.1) NoEntry) (λ found.
    if is_some (look_up new_name both.1.1) then Err Exists else and_then (in_use (files found.1)) (moved_in files d found other new_name both.1.1)))

-- Two entries: the second one names what the first does, which is cleared, and what it named has a link less. Onto itself nothing changes, and where both
-- name one inode the first is cleared as by `unlinked`.
abbrev pub turned : Files → ℕ → List ℕ → (ℕ × ℕ) × ℕ → ℕ → List ℕ → (ℕ × ℕ) × ℕ → Files
turned files d name from other other_name to = without_link (with_entry (with_entry files other to.0 (Some (other_name, from.1))) d from.0 None) to.1

abbrev pub is_same : ℕ → (ℕ × ℕ) × ℕ → ℕ → (ℕ × ℕ) × ℕ → Bool
is_same d from other to = (d == other) && ((from.0.0 == to.0.0) && (from.0.1 == to.0.1))

abbrev pub replaced_in : Files → ℕ → List ℕ → (ℕ × ℕ) × ℕ → ℕ → List ℕ → (ℕ × ℕ) × ℕ → Answer (Unit {0})
replaced_in files d name from other other_name to =
    if not (from.1 == to.1) && (links_of (files from.1) == 65535) then Err TooLarge
    else if is_same d from other to then Ok (tt, files)
    else if from.1 == to.1 then Ok (tt, cleared files d from)
    else Ok (tt, turned files d name from other other_name to)

abbrev pub replaced : Files → ℕ → List ℕ → ℕ → List ℕ → Answer (Unit {0})
replaced files d name other other_name =
    and_then (both_directories files d name other other_name) (λ both.
    and_then (ok_or (look_up name both.0.1) NoEntry) (λ from. and_then (ok_or (look_up other_name both.1.1) NoEntry) (λ to.
    and_then (file_of (files from.1)) (λ file. and_then (file_of (files to.1)) (λ former. replaced_in files d name from other other_name to)))))

-- Names that stand once

abbrev pub IsPlace : ℕ × ℕ → Type 0
IsPlace at = (at.0 < 12) × (at.1 < 16)

-- two entries with one name stand at one place
abbrev pub IsSingle : Blocks → Type 0
IsSingle blocks = (a b : ℕ × ℕ) (e f : Entry) → IsPlace a → IsPlace b → entry_at blocks a ≡ Some e → entry_at blocks b ≡ Some f → e.0 ≡ f.0 → a ≡ b

abbrev pub AreSingle : Files → Type 0
AreSingle files = (d : ℕ) (directory : ℕ × Blocks) → Ok directory ≡ directory_of (files d) → IsSingle directory.1
