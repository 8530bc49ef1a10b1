-- What inodes need, so that each is in use exactly where it has a name, with as many links as names.
--     is_bare_in content inode  it is no directory with entries
--     repair_found              what an inode needs that so many entries name
--     repair_in content fs n    what inode n needs; the top directory needs nothing
--     repair_at repairs n       what is said of inode n, by its number less 1
--     idle_in state fs          nothing of the file system is pending
use Rattle.std.specs.Prelude.{ℕ, ◌-◌, Bool, not, ◌||◌, ◌==◌, nat_lt, List, length, slice_index_or, Result, Ok, Err, if◌then◌else◌}
use Rattle.xn_model.specs.Lives.{StoreState}
use Rattle.ffs_model.specs.Library.{inode_links, inode_mode}
use Rattle.ffs_lookup.specs.declared.fault.FfsFault.{FfsFault}
use Rattle.ffs_lookup.specs.declared.repairs.Repair.{Repair}
use Rattle.ffs_lookup.specs.declared.repairs.Repair.TheVariants.{Keep, GiveUp, SetLinks}
use Rattle.ffs_lookup.specs.Newest.{slots_of, inode_in}
use Rattle.ffs_lookup.specs.Counts.{if_idle, names_count}

abbrev pub is_bare_in : (ℕ → List ℕ) → List ℕ → Bool
is_bare_in content inode = not (inode_mode inode == 2) || (length (slots_of content inode) == 0)

-- of one in use: without names it is given up, unless it is a directory with entries; it has no more links than names
abbrev pub repair_of : (ℕ → List ℕ) → ℕ → List ℕ → Repair
repair_of content names inode =
    if names == 0 then (if is_bare_in content inode then GiveUp else Keep)
    else if nat_lt names (inode_links inode) then SetLinks names else Keep

abbrev pub repair_found : (ℕ → List ℕ) → ℕ → Result (List ℕ) FfsFault → Repair
repair_found content names (Ok inode) = repair_of content names inode
repair_found content names (Err fault) = Keep

unfoldable pub repair_in : (ℕ → List ℕ) → ℕ → ℕ → Repair
repair_in content fs n = if n == 1 then Keep else repair_found content (names_count content fs n) (inode_in content fs n)

abbrev pub repair_at : List Repair → ℕ → Repair
repair_at repairs n = if n == 0 then Keep else slice_index_or repairs (n - 1) Keep

abbrev pub idle_in : StoreState → ℕ → Result (Unit {0}) FfsFault
idle_in state fs = if_idle state fs (Ok tt)
