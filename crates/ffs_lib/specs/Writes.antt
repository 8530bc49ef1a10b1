-- What the steps of a write leave, and what it asks of the store for a part of a file.
--     LastGiven                    the numbers of a write's last edits were given
--     Puts, PutsBy                 bytes are written into a file, by an edit
--     PointsTo                     a file has a block of pointers, and its bytes stay
--     ActedBy, StopsAction         an action was made, with an edit of this number; it was refused, and no byte of the file changed
--     Waits, IsFrom, WaitsOn, WaitsAfter     in the cuts: an edit is taken with others; what is pending is new; a step keeps that; an action does
--     PutsParts, StopsPart         bytes are written by the actions of a part; one of these was refused
--     RefusesPart, EndsPart        and in the cuts that is as good as nothing; how the actions of a part end
--     padded                       what a write writes: its bytes, and zeros before them from the file's end on
--     PartStops                    a part was refused behind the first of that, which are written
--     Parts                        the first of that are written, part after part, maybe up to a refusal
use Rattle.std.specs.Prelude.{◌≡◌, ◌≢◌, ℕ, ◌+◌, ◌-◌, ◌*◌, ◌/◌, ◌%◌, ◌<◌, ◌≤◌, ◌⊎◌, List, [], ◌++◌, length, min, replicate, take, Option, None, Some, Result, Ok}
use Rattle.std.specs.Prelude.{Contains, IsTrue, IfSome}
use Rattle.xn_model.specs.Root.{word_at}
use Rattle.xn_model.specs.Types.{Types}
use Rattle.xn_model.specs.Lives.{BlockState, Life, Lives, StoreState, life_at}
use Rattle.xn_model.specs.Rules.{IsConsistent}
use Rattle.xn_model.specs.Calls.{was_given}
use Rattle.ffs_model.specs.Cuts.{Choice, IsCut, IsFullAt, TakesAny}
use Rattle.ffs_model.specs.Library.{pointer_word}
use Rattle.ffs_lookup.specs.declared.fault.FfsFault.{FfsFault}
use Rattle.ffs_lookup.specs.Newest.{file_block, file_in, inode_block_in}
use Rattle.ffs_lib.specs.Orders.{Action, act_of, made_by}
use Rattle.ffs_lib.specs.Orders as orders
use Rattle.ffs_lib.specs.Results.{OnlyChanges, WroteBytes}
use Rattle.ffs_lib.specs.Steps.{Ends, Stage, Stops, newest_block}
use Rattle.ffs_lib.specs.WriteOrder.{TellsAct, TellsIn, adds_direct, after_at, first_past, last_after, no_last, parts_at, places, parts_made}
use Rattle.ffs_lib.specs.declared.data.Last.{Last}
use Rattle.ffs_lib.specs.declared.data.Progress.{Progress}

-- Blocks that are written

abbrev pub LastGiven : StoreState → Last → Type 0
LastGiven state last = IsTrue (was_given state last.edit) × IsTrue (was_given state last.size)

-- bytes are written into a file, its size stays, and so does every other inode
pub record Puts (old new : StoreState) (fs n start : ℕ) (bytes : List ℕ) : Type 0 where
  pub wrote : (inode : List ℕ) → Ok inode ≡ file_in (newest_block old) fs n → WroteBytes (newest_block old) (newest_block new) fs n inode start bytes
  pub others : OnlyChanges (newest_block old) (newest_block new) fs n
  pub later : old.next ≤ new.next

abbrev pub PutsBy : StoreState → StoreState → ℕ → ℕ → ℕ → List ℕ → ℕ → Type 0
PutsBy old new fs n start bytes entry = Puts old new fs n start bytes × IsTrue (was_given new (Some entry))

-- the file whose inode was this one has a block of pointers, which are 0 where it had no block
pub record PointsTo (old new : StoreState) (fs n : ℕ) (inode : List ℕ) (block : ℕ) : Type 0 where
  pub puts : Puts old new fs n 0 []
  pub after : List ℕ
  pub file : Ok after ≡ file_in (newest_block new) fs n
  pub points : word_at after 56 ≡ block
  pub there : block ≢ 0
  pub long : length (newest_block new block) ≡ 512
  pub holes : (index : ℕ) → 12 ≤ index → index < 140 → file_block (newest_block old) inode index ≡ 0 → pointer_word (newest_block new block) (index - 12) ≡ 0

-- Actions

abbrev pub ActedBy : Types → ℕ → Action → StoreState → StoreState → ℕ → Type 0
ActedBy T fs action old new entry = (act_of T fs action old ≡ Ok new) × (new.next ≡ entry + 1) × (old.next ≤ entry)

pub record StopsAction (T : Types) (fs : ℕ) (action : Action) (old new : StoreState) (n : ℕ) (fault : FfsFault) : Type 0 where
  pub same : Puts old new fs n 0 []
  pub told : TellsAct T fs action old new fault

-- In the cuts

-- Each cut that has all states of one block, and takes the last edit, has all states of each block with an edit from a number on; and it takes that edit,
-- where it takes the last one for the size.
pub record Waits (block from : ℕ) (lives : Lives) (last : Last) : Type 0 where
  pub all : (k : Choice) → IsCut lives k → IsFullAt lives k block → TakesAny lives k last.edit → (c : ℕ) (l : Life) (t : BlockState) →
      life_at lives c ≡ Some l → Contains l.pending t → from ≤ t.entry → IsFullAt lives k c
  pub size : (k : Choice) → IsCut lives k → IsFullAt lives k block → TakesAny lives k last.size → TakesAny lives k last.edit

-- all that is pending for a block has a number from one on
abbrev pub IsFrom : ℕ → Lives → ℕ → Type 0
IsFrom from lives c = (l : Life) (t : BlockState) → life_at lives c ≡ Some l → Contains l.pending t → from ≤ t.entry

-- the inode's block is the same one, and where that was so before the step it is so after it
pub record WaitsOn (fs n : ℕ) (old new : StoreState) (last next : Last) : Type 0 where
  pub home : inode_block_in (newest_block new) fs ((n - 1) / 8) ≡ inode_block_in (newest_block old) fs ((n - 1) / 8)
  pub waits : (block from : ℕ) → from ≤ old.next → Ok block ≡ inode_block_in (newest_block old) fs ((n - 1) / 8) → Waits block from old.lives last →
      Waits block from new.lives next
  pub newer : (from c : ℕ) → from ≤ old.next → IsFrom from old.lives c → IsFrom from new.lives c
  pub later : old.next ≤ new.next

-- so it is of an action that comes after an edit
abbrev pub WaitsAfter : ℕ → ℕ → StoreState → StoreState → Option ℕ → (Last → Last) → Type 0
WaitsAfter fs n old new after next = (last : Last) → last.edit ≡ after → WaitsOn fs n old new last (next last)

-- all actions of a part that writes at a place of a file's block at an index
pub record PutsParts (T : Types) (fs : ℕ) (parts : orders.Parts) (old new : StoreState) (n index at : ℕ) (bytes : List ℕ) (last next : Last) : Type 0 where
  pub puts : Puts old new fs n (512 * index + at) bytes
  pub given : LastGiven new next
  pub made : made_by T fs parts old ≡ Ok new
  pub last_is : next ≡ last_after (adds_direct (newest_block old) fs n index) old.next new.next last
  pub waits : WaitsOn fs n old new last next

-- one of them was refused: no byte of the file changed, but it may have a block of pointers more
pub record StopsPart (T : Types) (fs : ℕ) (parts : orders.Parts) (old new : StoreState) (n : ℕ) (fault : FfsFault) : Type 0 where
  pub same : Puts old new fs n 0 []
  pub told : TellsIn T fs parts old new fault

-- what was waited for before is waited for
abbrev pub RefusesPart : Types → ℕ → orders.Parts → StoreState → StoreState → ℕ → Last → FfsFault → Type 0
RefusesPart T fs parts old new n last fault = StopsPart T fs parts old new n fault × WaitsOn fs n old new last last

abbrev pub EndsPart : Types → ℕ → (ℕ → Option ℕ) → orders.Parts → StoreState → StoreState → ℕ → ℕ → ℕ → List ℕ → Last → Result Last FfsFault → Type 0
EndsPart T fs array parts old new n index at bytes last result =
    Ends T fs array new result (PutsParts T fs parts old new n index at bytes last) (RefusesPart T fs parts old new n last)

-- What a write writes into a file that ends somewhere, part after part

abbrev pub padded : ℕ → ℕ → List ℕ → List ℕ
padded end offset bytes = replicate (offset - end) 0 ++ bytes

-- where a part begins: the first one, that at the offset, or where a block begins
abbrev pub IsBorder : ℕ → ℕ → ℕ → Type 0
IsBorder end offset done = (done ≡ 0) ⊎ (min end offset + done ≡ offset) ⊎ ((min end offset + done) % 512 ≡ 0)

-- the parts of the first so many of that are made, and these are the last edits
abbrev pub MadeTo : Types → ℕ → ℕ → ℕ → ℕ → List ℕ → StoreState → ℕ → StoreState → Last → Type 0
MadeTo T fs n end offset bytes old done new last =
    parts_made T fs n end offset bytes (places (min end offset) offset (min end offset + done)) (old, no_last) ≡ Ok (new, last)

-- The part behind the first so many of the bytes was refused.
pub record PartStops (T : Types) (fs : ℕ) (old new : StoreState) (n end offset : ℕ) (bytes : List ℕ) (done : ℕ) (last : Last) (fault : FfsFault) : Type 0 where
  pub low : done < length (padded end offset bytes)
  pub border : IsBorder end offset done
  pub before : StoreState
  pub made : MadeTo T fs n end offset bytes old done before last
  pub puts : Puts old before fs n (min end offset) (take done (padded end offset bytes))
  pub told : StopsPart T fs (parts_at fs n offset bytes (min end offset + done) (after_at end offset bytes (min end offset + done) last)) before new n fault

pub record Parts (T : Types) (fs : ℕ) (array : ℕ → Option ℕ) (old new : StoreState) (n end offset : ℕ) (bytes : List ℕ) (progress : Progress) : Type 0 where
  pub stage : Stage T fs array new
  pub few : progress.done ≤ length (padded end offset bytes)
  pub border : progress.done < length (padded end offset bytes) → IsBorder end offset progress.done
  pub made : progress.fault ≡ None → MadeTo T fs n end offset bytes old progress.done new progress.last
  pub puts : Puts old new fs n (min end offset) (take progress.done (padded end offset bytes))
  pub calm : min end offset + progress.done ≤ first_past end offset → progress.last ≡ no_last
  pub waits : (there : StoreState × Last) → parts_made T fs n end offset bytes (places (min end offset) offset (first_past end offset)) (old, no_last)
      ≡ Ok there →
      first_past end offset ≤ min end offset + progress.done → end < offset + length bytes →
      IsConsistent T there.0 × WaitsOn fs n there.0 new no_last progress.last
  pub given : LastGiven new progress.last
  pub ended : IfSome progress.fault (Stops (PartStops T fs old new n end offset bytes progress.done progress.last))
