-- `reclaim` by its function of the files, and what it leaves.
--     numbers_listed, name_count   the inodes that the entries of a directory name; how many entries of all directories name one
--     need_of, needs               what an inode needs, so that it is in use exactly where it has a name, with as many links as names; by its number
--     with_links, repaired         an inode with so many links; as it needs to be
--     repaired_below, reclaimed    the files where the inodes with lower numbers are repaired; what `reclaim` answers, and the files after it
--     repair_stages, reclaimed_stages    what is asked for one inode, and for all, the lowest first
--     LeftByRepair                 what the files don't say of an inode that needed something
--     Repaired                     an inode is as it needs to be
--     MayRepair                    an inode's links are to spare in every cut, so it may be repaired
--     RepairedOne                  one is as it needs to be, and all others are as before, with what they have to spare
--     emptying, Emptied            a block of pointers is cleared, if it points to anything
--     StopsRepairing               what is left where an inode was to be repaired, and of what the fault tells
--     InMiddle                     the inodes up to a number are repaired
--     Reclaims                     the call
use Rattle.std.specs.Prelude.{◌≡◌, ◌≢◌, ℕ, ◌-◌, ◌<◌, ◌≤◌, ◌==◌, ◌⊎◌, nat_lt, List, [], ◌∷◌, length, map, flat_map, count_by}
use Rattle.std.specs.Prelude.{replicate, Option, None, Result, Ok, Err, ⊤, if◌then◌else◌}
use Rattle.std.specs.List.{range_with_len}
use Rattle.xn_model.specs.Root.{word_at}
use Rattle.xn_model.specs.Types.{Types}
use Rattle.xn_model.specs.Lives.{StoreState}
use Rattle.xn_model.specs.Calls.{Edit, propose_of}
use Rattle.ffs_model.specs.Library.{inode_links, library_layout, zero_block}
use Rattle.ffs_model.specs.Volumes.{KeepsNumber}
use Rattle.ffs_lookup.specs.declared.fault.FfsFault.{FfsFault}
use Rattle.ffs_lookup.specs.declared.fault.FfsFault.TheVariants.{NoEntry}
use Rattle.ffs_lookup.specs.declared.repairs.Repair.{Repair}
use Rattle.ffs_lookup.specs.declared.repairs.Repair.TheVariants.{Keep, GiveUp, SetLinks}
use Rattle.ffs_lookup.specs.declared.repairs.Repairs.{Repairs}
use Rattle.ffs_lookup.specs.Counts.{if_idle}
use Rattle.ffs_lookup.specs.Files.{Answer, Directory, Entry, File, Files, Free, InodeValue, is_bare, listed, with_value}
use Rattle.ffs_lookup.specs.FileValues.{files_of, place_in}
use Rattle.ffs_lookup.specs.Newest.{inode_in, mapped}
use Rattle.ffs_lookup.specs.Repairs.{repair_at, repair_in}
use Rattle.ffs_lib.specs.Edits.{data_of_pointers, edit_at}
use Rattle.ffs_lib.specs.Results.{AsBefore, IsLinked, OnlyChanges, SameInode}
use Rattle.ffs_lib.specs.Stages.{Does, KeptOrEmptied, OfLink, Stages, cut_short}
use Rattle.ffs_lib.specs.Steps.{Stage, Tells, WantsHome, WantsPointers, newest_block}

-- The call as a function of the files

abbrev pub numbers_listed : Result (List Entry) FfsFault → List ℕ
numbers_listed (Ok entries) = map (λ entry. entry.1) entries
numbers_listed (Err fault) = []

abbrev pub name_count : Files → ℕ → ℕ
name_count files n = count_by (λ m. m == n) (flat_map (λ d. numbers_listed (listed files d)) (range_with_len 1 128))

-- one without names is given up, unless it is a directory with entries
abbrev pub need_of : ℕ → InodeValue → Repair
need_of names (File links bytes) = if names == 0 then GiveUp else if nat_lt names links then SetLinks names else Keep
need_of names (Directory links blocks) =
    if names == 0 then (if is_bare (links, blocks) then GiveUp else Keep)
    else if nat_lt names links then SetLinks names
    else Keep
need_of names other = Keep

-- the top directory needs nothing
abbrev pub needs : Files → ℕ → Repair
needs files n = if n == 1 then Keep else need_of (name_count files n) (files n)

abbrev pub with_links : ℕ → InodeValue → InodeValue
with_links l (File links bytes) = File l bytes
with_links l (Directory links blocks) = Directory l blocks
with_links l other = other

abbrev pub repaired : Repair → InodeValue → InodeValue
repaired Keep value = value
repaired GiveUp value = Free
repaired (SetLinks links) value = with_links links value

abbrev pub repaired_below : Files → ℕ → Files
repaired_below files n x = if nat_lt x n then repaired (needs files x) (files x) else files x

abbrev pub reclaimed : Files → Answer (ℕ → Repair)
reclaimed files = Ok (needs files, λ n. repaired (needs files n) (files n))

-- of one that is given up the block of pointers is emptied first
abbrev pub repair_stages : Files → ℕ → Repair → Stages
repair_stages files n Keep = []
repair_stages files n GiveUp = (files, OfLink n) ∷ (with_value files n (cut_short (files n)), OfLink n) ∷ []
repair_stages files n (SetLinks links) = (files, OfLink n) ∷ []

abbrev pub stages_at : Files → ℕ → Stages
stages_at files n = repair_stages (repaired_below files n) n (needs files n)

abbrev pub reclaimed_stages : Files → Stages
reclaimed_stages files = flat_map (stages_at files) (range_with_len 1 128)

-- An inode that needed something, also where the store refused: it is as before; it is free, or has its 64 bytes, and may be emptied; it is as before
-- but for its links.
abbrev pub LeftByRepair : (ℕ → List ℕ) → (ℕ → List ℕ) → ℕ → ℕ → Repair → Type 0
LeftByRepair old new fs n Keep = SameInode old new fs n
LeftByRepair old new fs n GiveUp = (place_in new fs n ≡ Ok (replicate 64 0)) ⊎ KeptOrEmptied old new fs n
LeftByRepair old new fs n (SetLinks links) = AsBefore old new fs n

-- One inode

-- kept as it is, or free, which is 64 zeros, or with so many links and all else as before
abbrev pub Repaired : (ℕ → List ℕ) → (ℕ → List ℕ) → ℕ → ℕ → Repair → Type 0
Repaired old new fs n Keep = SameInode old new fs n
Repaired old new fs n GiveUp = (inode_in new fs n ≡ Err NoEntry) × (place_in new fs n ≡ Ok (replicate 64 0))
Repaired old new fs n (SetLinks links) = (inode : List ℕ) → Ok inode ≡ inode_in old fs n → IsLinked old new fs n inode links

-- an inode in use has so many links to spare, whatever a cut takes
pub record HasSpare (state : StoreState) (fs n : ℕ) (spare : ℕ → ℕ) : Type 0 where
  pub some : n ≢ 0
  pub inode : List ℕ
  pub found : Ok inode ≡ inode_in (newest_block state) fs n
  pub spares : KeepsNumber library_layout state.lives fs None (spare (inode_links inode)) n

abbrev pub MayRepair : StoreState → ℕ → ℕ → Repair → Type 0
MayRepair state fs n Keep = ⊤
MayRepair state fs n GiveUp = HasSpare state fs n (λ links. links)
MayRepair state fs n (SetLinks left) = (has : HasSpare state fs n (λ links. links - left)) × (left < inode_links has.inode)

pub record RepairedOne (old new : StoreState) (fs n : ℕ) (repair : Repair) : Type 0 where
  pub repaired : Repaired (newest_block old) (newest_block new) fs n repair
  pub others : OnlyChanges (newest_block old) (newest_block new) fs n
  pub nothing : repair ≡ Keep → new ≡ old
  pub spares : (i m : ℕ) → i ≢ 0 → i ≢ n → KeepsNumber library_layout old.lives fs None m i → KeepsNumber library_layout new.lives fs None m i

abbrev pub emptying : StoreState → ℕ → Edit
emptying old block = edit_at 0 zero_block [] (data_of_pointers (newest_block old block)) None

abbrev pub Emptied : Types → ℕ → ℕ → StoreState → StoreState → Result (Unit {0}) FfsFault → Type 0
Emptied T fs block old new (Ok done) =
    ((new ≡ old) × ((block ≡ 0) ⊎ (data_of_pointers (newest_block old block) ≡ [])))
    ⊎ ((block ≢ 0) × (length (newest_block old block) ≡ 512) × (entry : ℕ) × (propose_of T old fs block (emptying old block) ≡ Ok (entry, new))
    × (data_of_pointers (newest_block old block) ≢ []))
Emptied T fs block old new (Err fault) =
    (new ≡ old) × (block ≢ 0) × (length (newest_block old block) ≡ 512) × Tells (propose_of T old fs block (emptying old block)) fault

-- only the block of pointers of an inode changed, which owns nothing now
pub record PointersEmptied (old new : ℕ → List ℕ) (inode : List ℕ) : Type 0 where
  pub cleared : new (word_at inode 56) ≡ zero_block
  pub others : (c : ℕ) → c ≢ word_at inode 56 → new c ≡ old c

-- its 64 bytes are as before, and so are all others; of one that was to be given up the block of pointers may be cleared
pub record StopsRepairing (T : Types) (fs : ℕ) (old new : StoreState) (n : ℕ) (repair : Repair) (fault : FfsFault) : Type 0 where
  pub needed : repair ≢ Keep
  pub others : OnlyChanges (newest_block old) (newest_block new) fs n
  pub inode : List ℕ
  pub was : Ok inode ≡ inode_in (newest_block old) fs n
  pub is : Ok inode ≡ inode_in (newest_block new) fs n
  pub stage : (new ≡ old) ⊎ ((repair ≡ GiveUp) × PointersEmptied (newest_block old) (newest_block new) inode)
  pub wants : WantsHome T new fs n fault ⊎ WantsPointers T new fs n fault

-- All inodes

pub record InMiddle (T : Types) (fs : ℕ) (array : ℕ → Option ℕ) (old new : StoreState) (done : ℕ) : Type 0 where
  pub stage : Stage T fs array new
  pub before : (i : ℕ) → i ≢ 0 → i ≤ done → Repaired (newest_block old) (newest_block new) fs i (repair_in (newest_block old) fs i)
  pub later : (i : ℕ) → (i ≡ 0) ⊎ (done < i) → SameInode (newest_block old) (newest_block new) fs i
  pub nothing : flat_map (stages_at (files_of (newest_block old) fs)) (range_with_len 1 done) ≡ [] → new ≡ old
  pub spares : (i m : ℕ) → done < i → KeepsNumber library_layout old.lives fs None m i → KeepsNumber library_layout new.lives fs None m i

-- The call: `Pending` where something of the file system is pending, else what its function says, with what the files don't say.
abbrev pub Reclaims : Types → ℕ → StoreState → StoreState → Result Repairs FfsFault → Type 0
Reclaims T fs old new result =
    Does T fs (if_idle old fs (reclaimed (files_of (newest_block old) fs))) (reclaimed_stages (files_of (newest_block old) fs)) old new
    (mapped (λ repairs. repair_at repairs.each) result)
    × ((n : ℕ) → LeftByRepair (newest_block old) (newest_block new) fs n (needs (files_of (newest_block old) fs) n))
