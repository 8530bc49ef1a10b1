-- The files of a volume as a value: what each inode is, by its number, from 1 on. Inode 1 is the top directory. A name leads to a
-- number, or nowhere (`None`).
--     Inode, Files            what an inode says, and its content; what each one is
--     Content                 the bytes of a file or of a symbolic link; the names of a directory, and the directory in which it stands
--     found, directory_at, file_at, number_in     look-ups, each with its faults in their order
--     is_orphan, is_empty     an inode without a link; a directory without a name
--     with_inode, changed_at  the files with one inode set, or changed
--     AreConsistent           each name leads to an inode, links are the names that lead to it, and each directory stands where its one name is
use Rattle.std.specs.Prelude.{◌≡◌, ◌↔◌, ℕ, ℤ, ◌+◌, ◌==◌, Bool, true, false, List, length, slice_get, Option, None, Some, Result, Ok, Err, Contains, bytes_eq, if◌then◌else◌}
use Rattle.std.specs.Option.{ok_or}
use Rattle.treefs_format.specs.Names.{is_name}
use Rattle.treefs_model.specs.declared.fault.Fault.{Fault}
use Rattle.treefs_model.specs.declared.fault.Fault.TheVariants.{NoEntry, NotDir, IsDir, NotLink, BadName}

-- None where the name is not there
abbrev pub Names : Type 0
Names = List ℕ → Option ℕ

pub data Content : Type 0 where
  File : (bytes : List ℕ) → Content
  SymbolicLink : (bytes : List ℕ) → Content
  Directory : (parent : ℕ) (names : List ℕ → Option ℕ) → Content

pub record Inode : Type 0 where
  -- 12 bits
  pub permissions : ℕ
  pub uid : ℕ
  pub gid : ℕ
  -- in nanoseconds since 1970: when the content changed, and when the inode did
  pub mtime : ℤ
  pub ctime : ℤ
  -- how many names lead to it; of inode 1 one more
  pub links : ℕ
  pub generation : ℕ
  pub content : Content

abbrev pub Files : Type 0
Files = ℕ → Option Inode

-- Steps that may fail

abbrev pub and_then : {A B : Type 0} → Result A Fault → (A → Result B Fault) → Result B Fault
and_then (Ok x) f = f x
and_then (Err fault) f = Err fault

abbrev pub when : {A : Type 0} → Bool → A → Fault → Result A Fault
when met x fault = if met then Ok x else Err fault

-- Look-ups

abbrev pub found : Files → ℕ → Result Inode Fault
found files n = ok_or (files n) NoEntry

abbrev pub names_in : Content → Result Names Fault
names_in (Directory parent names) = Ok names
names_in (File bytes) = Err NotDir
names_in (SymbolicLink bytes) = Err NotDir

abbrev pub bytes_in : Content → Result (List ℕ) Fault
bytes_in (Directory parent names) = Err IsDir
bytes_in (File bytes) = Ok bytes
bytes_in (SymbolicLink bytes) = Ok bytes

abbrev pub target_in : Content → Result (List ℕ) Fault
target_in (SymbolicLink bytes) = Ok bytes
target_in (File bytes) = Err NotLink
target_in (Directory parent names) = Err NotLink

abbrev pub is_directory : Content → Bool
is_directory (Directory parent names) = true
is_directory (File bytes) = false
is_directory (SymbolicLink bytes) = false

abbrev pub is_orphan : Inode → Bool
is_orphan inode = inode.links == 0

-- the names of a directory that has a link
abbrev pub linked_names : Inode → Result Names Fault
linked_names inode = and_then (names_in inode.content) (λ names. if is_orphan inode then Err NoEntry else Ok names)

abbrev pub directory_at : Files → ℕ → Result Names Fault
directory_at files d = and_then (found files d) linked_names

abbrev pub file_at : Files → ℕ → Result (List ℕ) Fault
file_at files n = and_then (found files n) (λ inode. bytes_in inode.content)

-- the names of a directory, for a name that is one
abbrev pub names_for : Files → ℕ → List ℕ → Result Names Fault
names_for files d name = and_then (directory_at files d) (λ names. when (is_name name) names BadName)

-- the number to which a name of a directory leads
abbrev pub number_in : Files → ℕ → List ℕ → Result ℕ Fault
number_in files d name = and_then (names_for files d name) (λ names. ok_or (names name) NoEntry)

-- Files with one inode changed

abbrev pub with_inode : Files → ℕ → Option Inode → Files
with_inode files n inode x = if x == n then inode else files x

abbrev pub changed_in : (Inode → Inode) → Option Inode → Option Inode
changed_in change None = None
changed_in change (Some inode) = Some (change inode)

abbrev pub changed_at : Files → ℕ → (Inode → Inode) → Files
changed_at files n change = with_inode files n (changed_in change (files n))

abbrev pub with_entry : List ℕ → Option ℕ → Content → Content
with_entry name number (Directory parent names) = Directory parent (λ x. if bytes_eq x name then number else names x)
with_entry name number other = other

-- a name of a directory set to lead to a number, or nowhere
abbrev pub renamed_in : List ℕ → Option ℕ → Inode → Inode
renamed_in name number inode = record inode { content = with_entry name number inode.content }

abbrev pub with_name : Files → ℕ → List ℕ → Option ℕ → Files
with_name files d name number = changed_at files d (renamed_in name number)

-- Rules

-- how many links n has, where so many names lead to it
abbrev pub links_for : ℕ → List (ℕ × List ℕ) → ℕ
links_for n all = if n == 1 then length all + 1 else length all

-- a name of the directory d leads to n
abbrev pub Leads : Files → ℕ → List ℕ → ℕ → Type 0
Leads files d name n = (inode : Inode) × (parent : ℕ) × (names : Names) × (files d ≡ Some inode) × (inode.content ≡ Directory parent names)
    × (names name ≡ Some n)

-- these are all names that lead to n, each once: a directory, and the name there
pub record AreNames (files : Files) (n : ℕ) (all : List (ℕ × List ℕ)) : Type 0 where
  pub lead : (d : ℕ) (name : List ℕ) → Leads files d name n ↔ Contains all (d, name)
  pub once : (i j : ℕ) (p : ℕ × List ℕ) → slice_get all i ≡ Some p → slice_get all j ≡ Some p → i ≡ j

pub record AreConsistent (files : Files) : Type 0 where
  -- inode 1 is a directory, which no name leads to, and stands in itself
  pub top : (inode : Inode) × (names : Names) × (files 1 ≡ Some inode) × (inode.content ≡ Directory 1 names)
  pub unnamed : (d : ℕ) (name : List ℕ) → Leads files d name 1 → ⊥
  pub named : (d : ℕ) (name : List ℕ) (n : ℕ) → Leads files d name n → (inode : Inode) × (files n ≡ Some inode)
  pub names : (d : ℕ) (name : List ℕ) (n : ℕ) → Leads files d name n → is_name name ≡ true
  pub links : (n : ℕ) (inode : Inode) → files n ≡ Some inode → (all : List (ℕ × List ℕ)) × AreNames files n all × (inode.links ≡ links_for n all)
  -- a directory has one name, in its parent
  pub one : (d : ℕ) (name : List ℕ) (n parent : ℕ) (inode : Inode) (names : Names) → Leads files d name n → files n ≡ Some inode →
      inode.content ≡ Directory parent names → (d ≡ parent) × (inode.links ≡ 1)
