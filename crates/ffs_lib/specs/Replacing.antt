-- What `replace` does: the entry of one file comes to name another file, which leaves its own.
--     replace_in            what it looks up: the entry that is moved, and the one that is replaced
--     turned_entry          an entry of a list, with another inode where it stands at a place
--     Turned                all lists have it so, and inodes are as before
--     ReplacedInodes        what the files don't say of the inodes, where the two entries name two files
--     pair_of, IsDirect, AreDirect, KeepsPairs    the two entries as slots; that inodes point to their blocks; that what they name in the cuts stays
--     NamesStand            what the two entries name in the cuts
--     Replaced              what the files don't say of the inodes in each case
use Rattle.std.specs.Prelude.{◌≡◌, ◌≢◌, ℕ, Bool, not, ◌&&◌, ◌==◌, List, map, Contains, Option, Result, Ok, Err, ◌<◌, OnErr, if◌then◌else◌}
use Rattle.std.specs.Option.{ok_or}
use Rattle.xn_model.specs.Lives.{Lives, StoreState}
use Rattle.ffs_model.specs.Library.{inode_blocks, inode_links, inode_mode, library_layout}
use Rattle.ffs_model.specs.Names.{IsInodes}
use Rattle.ffs_model.specs.Standing.{AreNamed, SlotPair, StayNamed}
use Rattle.ffs_format.specs.Entries.{is_name}
use Rattle.ffs_lookup.specs.declared.fault.FfsFault.{FfsFault}
use Rattle.ffs_lookup.specs.declared.fault.FfsFault.TheVariants.{BadName, NoEntry, NotDir, TooLarge}
use Rattle.ffs_lookup.specs.declared.places.Slot.{Slot}
use Rattle.ffs_lookup.specs.Newest.{and_then, directory_in, file_in, first_named, inode_in, is_at, listing}
use Rattle.ffs_lib.specs.Results.{AsBefore, IsAs, SameInode}
use Rattle.ffs_lib.specs.Stages.{KeptOrEmptied, Unnames}
use Rattle.ffs_lib.specs.Steps.{newest_block}

-- What it looks up: both directories, both names, both entries, both files; then whether the first inode may have a link more, if the second
-- entry names another one.

abbrev pub if_directories : List ℕ → List ℕ → List ℕ → List ℕ → Result (List ℕ × List ℕ) FfsFault
if_directories name other_name from to =
    if (inode_mode from == 2) && (inode_mode to == 2) then (if is_name name && is_name other_name then Ok (from, to) else Err BadName) else Err NotDir

unfoldable pub directories_in : (ℕ → List ℕ) → ℕ → ℕ → List ℕ → ℕ → List ℕ → Result (List ℕ × List ℕ) FfsFault
directories_in content fs d name other other_name = and_then (inode_in content fs d)
    (λ from. and_then (inode_in content fs other) (if_directories name other_name from))

abbrev pub is_full_for : Slot → Slot → List ℕ → Bool
is_full_for from to inode = not (from.inode == to.inode) && (inode_links inode == 65535)

unfoldable pub files_in : (ℕ → List ℕ) → ℕ → Slot → Slot → Result (Slot × Slot) FfsFault
files_in content fs from to =
    and_then (file_in content fs from.inode) (λ inode. and_then (file_in content fs to.inode)
    (λ other. if is_full_for from to inode then Err TooLarge else Ok (from, to)))

abbrev pub entries_named : (ℕ → List ℕ) → ℕ → List ℕ → List ℕ → List ℕ × List ℕ → Result (Slot × Slot) FfsFault
entries_named content fs name other_name directories =
    and_then (ok_or (first_named content directories.0 name) NoEntry)
    (λ from. and_then (ok_or (first_named content directories.1 other_name) NoEntry) (files_in content fs from))

unfoldable pub replace_in : (ℕ → List ℕ) → ℕ → ℕ → List ℕ → ℕ → List ℕ → Result (Slot × Slot) FfsFault
replace_in content fs d name other other_name = and_then (directories_in content fs d name other other_name) (entries_named content fs name other_name)

-- What it leaves

abbrev pub turned_entry : Slot → ℕ → Slot × List ℕ → Slot × List ℕ
turned_entry entry n p = if is_at entry p.0 then (record p.0 { inode = n }, p.1) else p

-- Inodes are as before, lists have another inode at the place of the entry, and all inodes but the one that has its block are as before.
pub record Turned (old new : ℕ → List ℕ) (fs : ℕ) (entry : Slot) (n : ℕ) : Type 0 where
  pub inodes : (d : ℕ) → inode_in new fs d ≡ inode_in old fs d
  pub entries : (inode : List ℕ) → listing new inode ≡ map (turned_entry entry n) (listing old inode)
  pub others : (d : ℕ) (own : List ℕ) → Ok own ≡ inode_in old fs d → Contains (inode_blocks own) entry.block → (x : ℕ) → x ≢ d → SameInode old new fs x

-- What the files don't say of the inodes where two entries name two files, also where that is refused: each directory has its 64 bytes, and one with the
-- entries that it had is as before in all. The moved inode is as before but for its links, and so is the former one where it has more than one. All but
-- these and the two directories are as before.
pub record ReplacedInodes (old new : ℕ → List ℕ) (fs d : ℕ) (from : Slot) (other : ℕ) (to : Slot) : Type 0 where
  pub inodes : (x : ℕ) (inode : List ℕ) → Ok inode ≡ directory_in old fs x → Ok inode ≡ directory_in new fs x
  pub listed : (x : ℕ) (inode : List ℕ) → Ok inode ≡ directory_in old fs x → listing new inode ≡ listing old inode → SameInode old new fs x
  pub moved : AsBefore old new fs from.inode
  pub former : (inode : List ℕ) → Ok inode ≡ inode_in old fs to.inode → 1 < inode_links inode → IsAs old new fs to.inode inode
  pub others : (x : ℕ) → x ≢ d → x ≢ other → x ≢ from.inode → x ≢ to.inode → SameInode old new fs x

-- In the cuts

abbrev pub pair_of : Slot → Slot → SlotPair
pair_of from to = record { from = (from.block, from.place); to = (to.block, to.place); moved = from.inode; former = to.inode }

-- an inode points to a block itself
pub record IsDirect (content : ℕ → List ℕ) (fs b : ℕ) : Type 0 where
  pub index : ℕ
  pub block : ℕ
  pub place : ℕ
  pub inodes : IsInodes library_layout content fs index block
  pub has : Contains (library_layout.direct (content block) place) b

pub record AreDirect (content : ℕ → List ℕ) (fs : ℕ) (p : SlotPair) : Type 0 where
  pub from : IsDirect content fs p.from.0
  pub to : IsDirect content fs p.to.0

-- what two slots name in the cuts they name on
abbrev pub KeepsPairs : ℕ → StoreState → StoreState → Type 0
KeepsPairs fs old new =
    (first : Lives) (p : SlotPair) (after : Option ℕ) → AreDirect (newest_block old) fs p → StayNamed library_layout first old.lives p after →
    StayNamed library_layout first new.lives p after

-- In every cut that has the second entry's block as it was newest at the call, or later, this entry names one of the two files; and in every one that
-- has both blocks so, one of the entries names the moved one.
abbrev pub NamesStand : StoreState → StoreState → Slot → Slot → Type 0
NamesStand old new from to = AreNamed library_layout old.lives new.lives (pair_of from to)

-- The call

-- What the files don't say: onto itself nothing is done; where both entries name one inode the first is taken from its directory, as `unlink` does; and
-- where they name two. A refusal leaves the inode that was to lose a link its 64 bytes.
pub record Replaced (old new : StoreState) (fs d : ℕ) (from : Slot) (other : ℕ) (to : Slot) (result : Result (Unit {0}) FfsFault) : Type 0 where
  pub itself : from ≡ to → new ≡ old
  pub same : from ≢ to → from.inode ≡ to.inode →
      Unnames (newest_block old) (newest_block new) fs d from.inode × OnErr result (KeptOrEmptied (newest_block old) (newest_block new) fs from.inode)
  pub another : from.inode ≢ to.inode →
      ReplacedInodes (newest_block old) (newest_block new) fs d from other to × OnErr result (KeptOrEmptied (newest_block old) (newest_block new) fs to.inode)
