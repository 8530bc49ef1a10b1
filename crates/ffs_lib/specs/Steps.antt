-- What a step of a call leaves, and what a part of a call does.
--     newest_block state        the newest_block bytes of each block
--     Tells, Wants        a fault that tells why the store refuses something; an edit of a block
--     WantsHome, WantsPointers    an edit of the block that has an inode; of the inode's block of pointers
--     left_by, skipped    what a call of the store leaves, or what was there where that is refused; a number was given, and nothing else changed
--     ShortEdit           the store refuses an edit for want of something alone
--     Follows             what a call of the store leaves that answers an entry
--     Proposed, Dropped, Attached   what one proposal leaves; where a block of pointers is cleared, if it points to anything; where a new
--                                   block is attached, which is forgotten where that is refused
--     Stage               a volume's rules hold, in the middle of a call
--     Ends, Leaves        they do at its end, and it did what it promises, or was refused and left one of its stages
--     Answers             what a call answers where its look-ups fail, and where they pass
--     TakesLink, Removed  an inode lost a link; a directory lost an entry, and the inode that it named a link
--     StopsAt, ..         what is left where a part of a call is refused, and of what the fault tells
--     Creates    the calls
use Rattle.std.specs.Prelude.{◌≡◌, ◌≢◌, ℕ, ◌+◌, ◌-◌, ◌/◌, ◌<◌, ◌≤◌, ◌⊎◌, List, [], length, Contains, Option}
use Rattle.std.specs.Prelude.{Some, None, Result, Ok, Err, true, MatchResult, IsTrue}
use Rattle.store_types.specs.declared.refusal.Refusal.{Refusal}
use Rattle.store_types.specs.declared.refusal.Refusal.TheVariants.{NoMemory}
use Rattle.xn_model.specs.Root.{word_at}
use Rattle.xn_model.specs.Types.{Types}
use Rattle.xn_model.specs.Lists.{put}
use Rattle.xn_model.specs.Lives.{StoreState}
use Rattle.xn_model.specs.Calls.{Edit, forget_of, init_of, propose_of, was_given}
use Rattle.ffs_model.specs.Cuts.{latest}
use Rattle.ffs_model.specs.Library.{IsLibrary, half_at, inode_blocks, inode_links, library_layout, zero_block}
use Rattle.ffs_model.specs.Shortages.{is_shortage}
use Rattle.ffs_model.specs.Volumes.{CanName, CanUnlink, VolumeKeeps}
use Rattle.ffs_lookup.specs.declared.fault.FfsFault.{FfsFault}
use Rattle.ffs_lookup.specs.declared.fault.FfsFault.TheVariants.{Kernel, NoEntry}
use Rattle.ffs_lookup.specs.declared.places.Slot.{Slot}
use Rattle.ffs_lookup.specs.declared.places.Free.{Free}
use Rattle.ffs_lookup.specs.declared.places.Room.{Room}
use Rattle.ffs_lookup.specs.declared.places.Room.TheVariants.{Entry, Pointer}
use Rattle.ffs_lookup.specs.Places.{IsFree}
use Rattle.ffs_lookup.specs.Newest.{TakesEntry, create_in, directory_in, inode_block_in, inode_in, is_short, listing, room_in, root_in, without_entry}
use Rattle.ffs_lib.specs.Edits.{data_of_pointers, edit_at}
use Rattle.ffs_format.specs.Entries.{entry_of, is_name}
use Rattle.ffs_lib.specs.Volumes.{IsVolume}
use Rattle.ffs_lib.specs.declared.volume.Volume.{Volume}
use Rattle.ffs_lib.specs.Results.{AsBefore, HasMore, IsLowestNumber, MadeEntry, OnlyChanges, OthersSame, SameInode, SameOrNew, TookLink, new_inode}

abbrev pub newest_block : StoreState → ℕ → List ℕ
newest_block state = latest state.lives

-- Refusals

-- the store refuses this, or had no memory for it
abbrev pub Tells : {A : Type 0} → Result A Refusal → FfsFault → Type 0
Tells (Ok x) fault = fault ≡ Kernel NoMemory
Tells (Err refusal) fault = (fault ≡ Kernel refusal) ⊎ (fault ≡ Kernel NoMemory)

abbrev pub Wants : Types → StoreState → ℕ → ℕ → FfsFault → Type 0
Wants T state fs block fault = (edit : Edit) × Tells (propose_of T state fs block edit) fault

-- an edit of the block of an inode; of its block of pointers
abbrev pub WantsHome : Types → StoreState → ℕ → ℕ → FfsFault → Type 0
WantsHome T state fs n fault = MatchResult (inode_block_in (newest_block state) fs ((n - 1) / 8)) (λ block. Wants T state fs block fault) (λ other. ⊥)

abbrev pub WantsPointers : Types → StoreState → ℕ → ℕ → FfsFault → Type 0
WantsPointers T state fs n fault = MatchResult (inode_in (newest_block state) fs n) (λ inode. Wants T state fs (word_at inode 56) fault) (λ other. ⊥)

abbrev pub left_by : {A : Type 0} → Result (A × StoreState) Refusal → StoreState → StoreState
left_by (Ok (x, after)) old = after
left_by (Err refusal) old = old

-- as where a new block was forgotten
abbrev pub skipped : StoreState → StoreState
skipped state = record state { next = state.next + 1 }

-- Proposals

abbrev pub ShortEdit : Types → StoreState → ℕ → ℕ → Edit → Type 0
ShortEdit T state fs block edit = (r : Refusal) → propose_of T state fs block edit ≡ Err r → is_shortage r ≡ true

abbrev pub Follows : Result (ℕ × StoreState) Refusal → StoreState → StoreState → Result ℕ FfsFault → Type 0
Follows called old new (Ok entry) = called ≡ Ok (entry, new)
Follows called old new (Err fault) = (new ≡ old) × Tells called fault

abbrev pub Proposed : Types → ℕ → ℕ → Edit → StoreState → StoreState → Result ℕ FfsFault → Type 0
Proposed T fs block edit old new result = Follows (propose_of T old fs block edit) old new result

abbrev pub clearing : StoreState → ℕ → ℕ → Edit
clearing old block after = edit_at 0 zero_block [] (data_of_pointers (newest_block old block)) (Some after)

abbrev pub Dropped : Types → ℕ → ℕ → ℕ → StoreState → StoreState → Result ℕ FfsFault → Type 0
Dropped T fs block after old new (Ok entry) =
    ((new ≡ old) × (entry ≡ after) × ((block ≡ 0) ⊎ (data_of_pointers (newest_block old block) ≡ [])))
    ⊎ ((block ≢ 0) × (length (newest_block old block) ≡ 512) × (propose_of T old fs block (clearing old block after) ≡ Ok (entry, new))
    × (data_of_pointers (newest_block old block) ≢ []))
Dropped T fs block after old new (Err fault) =
    (new ≡ old) × (block ≢ 0) × (length (newest_block old block) ≡ 512) × Tells (propose_of T old fs block (clearing old block after)) fault

-- the same of an edit that attaches a new block, which is forgotten where that is refused, if the store takes that
abbrev pub Attached : Types → ℕ → ℕ → ℕ → Edit → StoreState → StoreState → Result ℕ FfsFault → Type 0
Attached T fs added block edit old new (Ok entry) = propose_of T old fs block edit ≡ Ok (entry, new)
Attached T fs added block edit old new (Err fault) = (new ≡ left_by (forget_of T old fs added) old) × Tells (propose_of T old fs block edit) fault

-- Parts of calls

pub record Stage (T : Types) (fs : ℕ) (array : ℕ → Option ℕ) (state : StoreState) : Type 0 where
  pub library : IsLibrary T
  pub few : fs < 32
  pub keeps : VolumeKeeps T library_layout fs array state

-- it is refused for want of something, and left a stage
abbrev pub Stops : (FfsFault → Type 0) → FfsFault → Type 0
Stops R fault = (is_short fault ≡ true) × R fault

abbrev pub Ends : {A : Type 0} → Types → ℕ → (ℕ → Option ℕ) → StoreState → Result A FfsFault → (A → Type 0) → (FfsFault → Type 0) → Type 0
Ends T fs array new result P R = Stage T fs array new × MatchResult result P (Stops R)

-- the same, of a part that may change what the volume records
abbrev pub Leaves : {A : Type 0} → Types → Volume → StoreState → Result A FfsFault → (A → Type 0) → (FfsFault → Type 0) → Type 0
Leaves T volume new result P R = IsVolume T new volume × MatchResult result P (Stops R)

-- Where a look-up fails that fault is answered, and nothing changes. Else a call does what it promises of what was found, or is refused
-- for want of something, and leaves a stage.
abbrev pub Answers : {A B : Type 0} → Result A FfsFault → (A → B → Type 0) → (A → FfsFault → Type 0) → StoreState → StoreState → Result B FfsFault → Type 0
Answers (Err fault) Q R old new result = (result ≡ Err fault) × (new ≡ old)
Answers (Ok found) Q R old new result = MatchResult result (Q found) (Stops (R found))

-- Names and links

-- an inode in use lets a link be taken, by what comes after an edit
pub record MayLose (state : StoreState) (fs n after : ℕ) : Type 0 where
  pub some : n ≢ 0
  pub can : CanUnlink library_layout state.lives fs n after
  pub given : IsTrue (was_given state (Some after))
  pub inode : List ℕ
  pub found : Ok inode ≡ inode_in (newest_block state) fs n
  pub linked : 1 ≤ inode_links inode

pub record TakesLink (old new : ℕ → List ℕ) (fs n : ℕ) : Type 0 where
  pub others : (d : ℕ) → d ≢ n → SameInode old new fs d
  pub took : (inode : List ℕ) → Ok inode ≡ inode_in old fs n → TookLink old new fs n inode

-- an entry stands in a block of a directory, which is another inode
pub record Removable (content : ℕ → List ℕ) (fs d : ℕ) (entry : Slot) : Type 0 where
  pub own : List ℕ
  pub is : Ok own ≡ inode_in content fs d
  pub has : Contains (inode_blocks own) entry.block
  pub apart : d ≢ entry.inode

pub record Removed (old new : ℕ → List ℕ) (fs d : ℕ) (entry : Slot) : Type 0 where
  pub gone : TakesEntry old new fs d entry
  pub others : OthersSame old new fs d entry.inode
  pub unlinked : (inode : List ℕ) → Ok inode ≡ inode_in old fs entry.inode → TookLink old new fs entry.inode inode

-- An entry is cleared: inodes are as before, lists lose it, and so do all inodes but the one that has its block; then its inode loses a link.
pub record Clearing (old new : ℕ → List ℕ) (fs : ℕ) (slot : Slot) : Type 0 where
  pub inodes : (d : ℕ) → inode_in new fs d ≡ inode_in old fs d
  pub entries : (inode : List ℕ) → listing new inode ≡ without_entry slot (listing old inode)
  pub others : (n : ℕ) (own : List ℕ) → Ok own ≡ inode_in old fs n → Contains (inode_blocks own) slot.block → (d : ℕ) → d ≢ n → SameInode old new fs d

pub record Unnamed (old new : ℕ → List ℕ) (fs : ℕ) (slot : Slot) : Type 0 where
  pub middle : ℕ → List ℕ
  pub cleared : Clearing old middle fs slot
  pub took : TakesLink middle new fs slot.inode

-- an inode in use may be named once more, by what comes after an edit
pub record MayName (state : StoreState) (fs n after : ℕ) : Type 0 where
  pub some : n ≢ 0
  pub can : CanName library_layout state.lives fs n after
  pub given : IsTrue (was_given state (Some after))

-- the 32 bytes of an entry
pub record IsEntry (bytes : List ℕ) (n : ℕ) (name : List ℕ) : Type 0 where
  pub spelled : bytes ≡ entry_of n name
  pub whole : length bytes ≡ 32
  pub named : IsTrue (is_name name)
  pub half : half_at bytes 0 ≡ n

-- a directory has one entry more
pub record Entered (old new : ℕ → List ℕ) (fs d : ℕ) (name : List ℕ) (n : ℕ) : Type 0 where
  pub more : (inode : List ℕ) → Ok inode ≡ directory_in old fs d → HasMore old new fs d inode name n
  pub others : (x : ℕ) → x ≢ d → SameInode old new fs x

-- and an edit may come after that
abbrev pub Enters : StoreState → StoreState → ℕ → ℕ → List ℕ → ℕ → ℕ → Type 0
Enters old new fs d name n entry = Entered (newest_block old) (newest_block new) fs d name n × IsTrue (was_given new (Some entry))

-- the lowest free inode, and all inodes are as before, or free in its new block of inodes
pub record TakesFree (old new : StoreState) (fs : ℕ) (free : Free) : Type 0 where
  pub is : IsFree new fs free
  pub lowest : IsLowestNumber (newest_block old) fs free.number
  pub stays : (x : ℕ) → SameOrNew (newest_block old) (newest_block new) fs free.number x

-- an inode has a link more; then a directory names it
pub record AddsLink (old new : ℕ → List ℕ) (fs n : ℕ) : Type 0 where
  pub before : (d : ℕ) → AsBefore old new fs d
  pub others : (d : ℕ) → d ≢ n → SameInode old new fs d
  pub links : (inode after : List ℕ) → Ok inode ≡ inode_in old fs n → Ok after ≡ inode_in new fs n → inode_links after ≡ inode_links inode + 1

pub record NamedAgain (old new : ℕ → List ℕ) (fs d : ℕ) (name : List ℕ) (n : ℕ) : Type 0 where
  pub middle : ℕ → List ℕ
  pub linked : AddsLink old middle fs n
  pub entered : Entered middle new fs d name n

abbrev pub NamesAgain : StoreState → StoreState → ℕ → ℕ → List ℕ → ℕ → ℕ → Type 0
NamesAgain old new fs d name n entry = NamedAgain (newest_block old) (newest_block new) fs d name n × IsTrue (was_given new (Some entry))

-- a free inode came into use
pub record MadeInode (old new : ℕ → List ℕ) (fs mode n : ℕ) : Type 0 where
  pub free : inode_in old fs n ≡ Err NoEntry
  pub made : inode_in new fs n ≡ Ok (new_inode mode)
  pub others : OnlyChanges old new fs n

-- a directory lost an entry, and no other inode changed
pub record Unlisted (old new : ℕ → List ℕ) (fs d : ℕ) (entry : Slot) : Type 0 where
  pub gone : TakesEntry old new fs d entry
  pub others : OnlyChanges old new fs d

-- What is left where a part of a call is refused, and of what the fault tells

abbrev pub AllSame : StoreState → StoreState → ℕ → Type 0
AllSame old new fs = (d : ℕ) → SameInode (newest_block old) (newest_block new) fs d

-- the block of an inode
abbrev pub IsHome : (ℕ → List ℕ) → ℕ → ℕ → ℕ → Type 0
IsHome content fs n block = Ok block ≡ inode_block_in content fs ((n - 1) / 8)

-- nothing, for an edit of an inode's block
abbrev pub StopsAtHome : Types → ℕ → StoreState → StoreState → ℕ → FfsFault → Type 0
StopsAtHome T fs old new n fault = (new ≡ old) × WantsHome T old fs n fault

-- A new block was not begun; or it was, an edit of the block that was to own it is refused, and it is forgotten.
abbrev pub StopsAttaching : Types → ℕ → StoreState → StoreState → ℕ → List ℕ → ℕ → FfsFault → Type 0
StopsAttaching T fs old new ty bytes home fault =
    ((new ≡ old) × Tells (init_of T old fs ty bytes) fault)
    ⊎ MatchResult (init_of T old fs ty bytes) (λ made. (new ≡ skipped old) × Wants T made.1 fs home fault) (λ refusal. ⊥)

-- a block of inodes was to be added
pub record StopsGrowing (T : Types) (fs : ℕ) (old new : StoreState) (fault : FfsFault) : Type 0 where
  pub same : AllSame old new fs
  pub told : MatchResult (root_in (newest_block old) fs) (λ root. StopsAttaching T fs old new 4 zero_block root fault) (λ other. ⊥)

-- an entry was to be written where a directory has room, or into a new block of it, at its start
abbrev pub StopsAtRoom : Types → ℕ → StoreState → StoreState → ℕ → List ℕ → FfsFault → Option Room → Type 0
StopsAtRoom T fs old new d entry fault (Some (Entry block place)) = (new ≡ old) × Wants T old fs block fault
StopsAtRoom T fs old new d entry fault (Some (Pointer index)) =
    MatchResult (inode_block_in (newest_block old) fs ((d - 1) / 8)) (λ home. StopsAttaching T fs old new 2 (put zero_block 0 entry) home fault) (λ other. ⊥)
StopsAtRoom T fs old new d entry fault None = ⊥

pub record StopsEntering (T : Types) (fs : ℕ) (old new : StoreState) (d : ℕ) (entry : List ℕ) (fault : FfsFault) : Type 0 where
  pub same : AllSame old new fs
  pub told : MatchResult (directory_in (newest_block old) fs d) (λ inode. StopsAtRoom T fs old new d entry fault
      (room_in (newest_block old) inode)) (λ other. ⊥)

-- only the block of pointers of an inode changed, which owns nothing now
pub record ClearedPointers (old new : ℕ → List ℕ) (inode : List ℕ) : Type 0 where
  pub last : inode_links inode ≤ 1
  pub cleared : new (word_at inode 56) ≡ zero_block
  pub others : (c : ℕ) → c ≢ word_at inode 56 → new c ≡ old c

-- a link was to be taken from an inode: its 64 bytes are as before, and so are all others
pub record StopsTaking (T : Types) (fs : ℕ) (old new : StoreState) (n : ℕ) (fault : FfsFault) : Type 0 where
  pub others : OnlyChanges (newest_block old) (newest_block new) fs n
  pub inode : List ℕ
  pub was : Ok inode ≡ inode_in (newest_block old) fs n
  pub is : Ok inode ≡ inode_in (newest_block new) fs n
  pub stage : (new ≡ old) ⊎ ClearedPointers (newest_block old) (newest_block new) inode
  pub wants : WantsHome T new fs n fault ⊎ WantsPointers T new fs n fault

-- an entry was to be cleared, and then a link taken
abbrev pub StopsUnnaming : Types → ℕ → StoreState → StoreState → Slot → FfsFault → Type 0
StopsUnnaming T fs old new slot fault =
    ((new ≡ old) × Wants T old fs slot.block fault)
    ⊎ ((middle : StoreState) × Clearing (newest_block old) (newest_block middle) fs slot × StopsTaking T fs middle new slot.inode fault)

-- a link was to be added, and then an entry written
abbrev pub StopsNaming : Types → ℕ → StoreState → StoreState → ℕ → List ℕ → ℕ → FfsFault → Type 0
StopsNaming T fs old new d name n fault =
    StopsAtHome T fs old new n fault
    ⊎ ((middle : StoreState) × AddsLink (newest_block old) (newest_block middle) fs n × StopsEntering T fs middle new d (entry_of n name) fault)

-- an inode was to be taken into use, and then an entry written
abbrev pub StopsNew : Types → ℕ → StoreState → StoreState → ℕ → List ℕ → ℕ → ℕ → FfsFault → Type 0
StopsNew T fs old new d name mode n fault =
    StopsAtHome T fs old new n fault
    ⊎ ((middle : StoreState) × MadeInode (newest_block old) (newest_block middle) fs mode n × StopsEntering T fs middle new d (entry_of n name) fault)

-- before that a block of inodes, where no inode was free
abbrev pub StopsMaking : Types → ℕ → StoreState → StoreState → ℕ → List ℕ → ℕ → FfsFault → Type 0
StopsMaking T fs old new d name mode fault =
    StopsGrowing T fs old new fault
    ⊎ ((middle : StoreState) × (free : Free) × TakesFree old middle fs free × StopsNew T fs middle new d name mode free.number fault)

-- The calls

abbrev pub Creates : Types → ℕ → ℕ → List ℕ → ℕ → StoreState → StoreState → Result ℕ FfsFault → Type 0
Creates T fs d name mode old new result =
    Answers (create_in (newest_block old) fs d name) (λ _ n. MadeEntry (newest_block old) (newest_block new) fs d name mode n
    × IsLowestNumber (newest_block old) fs n)
    (λ _ fault. StopsMaking T fs old new d name mode fault) old new result
