-- What each call answers, and what it makes of the files, where it has room: a call may also be refused for want of memory, of a free
-- block, number or bucket, or until something is written. Faults come in the order of the tests. The time is the caller's.
--     new_name, made               a name that is not there yet; a new inode with its first name
--     replaced                     a new inode in the place of what had the name, if something had
--     linked, unlinked, removed, renamed     the calls on names
--     written, truncated           on the bytes of a file
--     with_permissions, with_owner, with_mtime    on an inode's attributes
--     reaped                       an orphan is gone
--     read, target, IsListing      what reads answer
use Rattle.std.specs.Prelude.{◌≡◌, ◌↔◌, ℕ, ℤ, ◌+◌, ◌-◌, ◌==◌, nat_le, nat_lt, Bool, false, not, ◌&&◌, List, ◌++◌, length, take, drop, replicate, slice_get}
use Rattle.std.specs.Prelude.{Option, None, Some, Result, Ok, Err, Contains, is_some, if◌then◌else◌}
use Rattle.std.specs.Option.{ok_or}
use Rattle.treefs_format.specs.Leaves.{greatest_size}
use Rattle.treefs_format.specs.Names.{is_name}
use Rattle.treefs_model.specs.declared.fault.Fault.{Fault}
use Rattle.treefs_model.specs.declared.fault.Fault.TheVariants.{NoEntry, Exists, NotDir, IsDir, NotEmpty, BadName, TooLarge, Cycle}
use Rattle.treefs_model.specs.Files.{Content, Directory, File, Files, Inode, Names, SymbolicLink, and_then, changed_at, directory_at, file_at, found, is_directory, is_orphan, names_for, number_in, target_in, when, with_inode, with_name}

-- Times

-- the content changed
abbrev pub touched : ℤ → Inode → Inode
touched time inode = record inode { mtime = time; ctime = time }

-- the inode alone
abbrev pub marked : ℤ → Inode → Inode
marked time inode = record inode { ctime = time }

-- Links

abbrev pub more_links : ℤ → Inode → Inode
more_links time inode = record (marked time inode) { links = inode.links + 1 }

-- the last one goes without a time
abbrev pub less_links : ℤ → Inode → Inode
less_links time inode = if nat_le inode.links 1 then record inode { links = 0 } else record (marked time inode) { links = inode.links - 1 }

abbrev pub lost : Files → ℤ → Option ℕ → Files
lost files time None = files
lost files time (Some n) = changed_at files n (less_links time)

-- New names

-- none of that name stands in the directory
abbrev pub new_name : Files → ℕ → List ℕ → Result (Unit {0}) Fault
new_name files d name = and_then (names_for files d name) (λ names. when (not (is_some (names name))) (tt {0}) Exists)

-- inode n gets its first name
abbrev pub made : Files → ℤ → ℕ → List ℕ → ℕ → Inode → Files
made files time d name n inode = changed_at (with_name (with_inode files n (Some inode)) d name (Some n)) d (touched time)

-- what a name leads to, if it may be replaced: no directory
abbrev pub replaceable : Files → Option ℕ → Result (Option ℕ) Fault
replaceable files None = Ok None
replaceable files (Some m) = and_then (found files m) (λ inode. if is_directory inode.content then Err IsDir else Ok (Some m))

-- inode n gets a name, and what had it loses it
abbrev pub replaced : Files → ℤ → ℕ → List ℕ → ℕ → Inode → Result Files Fault
replaced files time d name n inode =
    and_then (names_for files d name) (λ names. and_then (replaceable files (names name)) (λ m. Ok (lost (made files time d name n inode) time m)))

-- a file may have one more link
abbrev pub linkable : Inode → Result (Unit {0}) Fault
linkable inode = if is_directory inode.content then Err IsDir else if is_orphan inode then Err NoEntry else Ok (tt {0})

abbrev pub linked : Files → ℤ → ℕ → ℕ → List ℕ → Result Files Fault
linked files time n d name =
    and_then (directory_at files d) (λ directory. and_then (found files n) (λ inode. and_then (linkable inode)
    (λ fine. and_then (new_name files d name) (λ new. Ok (changed_at (with_name (changed_at files n (more_links time)) d name (Some n)) d (touched time))))))

-- Names that go

abbrev pub without_name : Files → ℤ → ℕ → List ℕ → ℕ → Files
without_name files time d name n = changed_at (changed_at (with_name files d name None) n (less_links time)) d (touched time)

abbrev pub unlinked : Files → ℤ → ℕ → List ℕ → Result Files Fault
unlinked files time d name =
    and_then (number_in files d name) (λ n. and_then (found files n) (λ inode. if is_directory inode.content then Err IsDir else Ok (without_name files time d name n)))

-- whether a directory is empty is told
abbrev pub removed : Files → ℤ → ℕ → List ℕ → Bool → Result Files Fault
removed files time d name empty =
    and_then (number_in files d name) (λ n. and_then (found files n)
    (λ inode. if not (is_directory inode.content) then Err NotDir else when empty (without_name files time d name n) NotEmpty))

-- A name that moves

-- a directory comes to stand in another
abbrev pub moved_to : ℕ → Content → Content
moved_to d (Directory parent names) = Directory d names
moved_to d (File bytes) = File bytes
moved_to d (SymbolicLink bytes) = SymbolicLink bytes

abbrev pub moved : ℤ → ℕ → Inode → Inode
moved time d inode = record (marked time inode) { content = moved_to d inode.content }

-- what the new name leads to may go: a directory only for a directory, and empty
abbrev pub may_go : Files → Inode → Option ℕ → Bool → Result (Option ℕ) Fault
may_go files inode None empty = Ok None
may_go files inode (Some m) empty = and_then (found files m) (λ other.
    if is_directory other.content && not (is_directory inode.content) then Err IsDir
    else if is_directory inode.content && not (is_directory other.content) then Err NotDir
    else if is_directory other.content && not empty then Err NotEmpty
    else Ok (Some m))

abbrev pub move_name : Files → ℤ → ℕ → List ℕ → ℕ → List ℕ → ℕ → Option ℕ → Files
move_name files time d name to new n m =
    let there = with_name (with_name files d name None) to new (Some n) in
    changed_at (changed_at (lost (changed_at there n (moved time to)) time m) d (touched time)) to (touched time)

-- Told are whether the new place is n, or below it, and whether what has the new name is empty. Nothing is done where that is n, too.
abbrev pub renamed : Files → ℤ → ℕ → List ℕ → ℕ → List ℕ → Bool → Bool → Result Files Fault
renamed files time d name to new below empty =
    and_then (directory_at files d) (λ names. and_then (directory_at files to) (λ others.
    and_then (when (is_name name && is_name new) (tt {0}) BadName) (λ fine. and_then (ok_or (names name) NoEntry) (λ n. and_then (found files n) (λ inode.
    if below then Err Cycle else if leads_to (others new) n then Ok files
    else and_then (may_go files inode (others new) empty) (λ m. Ok (move_name files time d name to new n m)))))))
  where
    leads_to : Option ℕ → ℕ → Bool
    leads_to None n = false
    leads_to (Some m) n = m == n

-- Bytes

-- of so many bytes, with zeros behind
abbrev pub resized : ℕ → List ℕ → List ℕ
resized size bytes = take size bytes ++ replicate (size - length bytes) 0

-- new bytes from a place on, with zeros before them where the file ends before
abbrev pub overwritten : List ℕ → ℕ → List ℕ → List ℕ
overwritten bytes at new = resized at bytes ++ new ++ drop (at + length new) bytes

abbrev pub with_bytes : (List ℕ → List ℕ) → Content → Content
with_bytes change (File bytes) = File (change bytes)
with_bytes change (SymbolicLink bytes) = SymbolicLink (change bytes)
with_bytes change (Directory parent names) = Directory parent names

abbrev pub rewritten : ℤ → (List ℕ → List ℕ) → Inode → Inode
rewritten time change inode = record (touched time inode) { content = with_bytes change inode.content }

-- the bytes that are taken of those given: all, or a beginning of them
abbrev pub written : Files → ℤ → ℕ → ℕ → List ℕ → ℕ → Result Files Fault
written files time n at bytes taken =
    and_then (file_at files n) (λ old. if nat_le greatest_size at then Err TooLarge else if (length bytes == 0) then Ok files
    else Ok (changed_at files n (rewritten time (λ b. overwritten b at (take taken bytes)))))

abbrev pub truncated : Files → ℤ → ℕ → ℕ → Result Files Fault
truncated files time n size =
    and_then (file_at files n) (λ old. if nat_lt greatest_size size then Err TooLarge else Ok (changed_at files n (rewritten time (resized size))))

-- Attributes

abbrev pub with_permissions : ℤ → ℕ → Inode → Inode
with_permissions time permissions inode = record (marked time inode) { permissions = permissions }

abbrev pub with_owner : ℤ → ℕ → ℕ → Inode → Inode
with_owner time uid gid inode = record (marked time inode) { uid = uid; gid = gid }

abbrev pub with_mtime : ℤ → ℤ → Inode → Inode
with_mtime time mtime inode = record (marked time inode) { mtime = mtime }

-- an orphan is gone
abbrev pub reaped : Files → ℕ → Files
reaped files n = with_inode files n None

-- Reads

abbrev pub read : Files → ℕ → ℕ → ℕ → Result (List ℕ) Fault
read files n at count = and_then (file_at files n) (λ bytes. Ok (take count (drop at bytes)))

abbrev pub target : Files → ℕ → Result (List ℕ) Fault
target files n = and_then (found files n) (λ inode. target_in inode.content)

-- the names of a directory, each once, with the numbers to which they lead
pub record IsListing (names : Names) (listed : List (List ℕ × ℕ)) : Type 0 where
  pub all : (name : List ℕ) (n : ℕ) → (names name ≡ Some n) ↔ Contains listed (name, n)
  pub once : (i j : ℕ) (p : List ℕ × ℕ) → slice_get listed i ≡ Some p → slice_get listed j ≡ Some p → i ≡ j
