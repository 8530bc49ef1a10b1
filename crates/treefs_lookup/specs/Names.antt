-- Where names stand in directories, and where new ones go.
--     slot_of, slot_named            where the live record of a name stands in a directory
--     entry_found                    the same of a directory's number: its faults, then `BadName` and `NoEntry`
--     place_of                       where a new name goes
use Rattle.std.specs.Prelude.{ℕ, ◌+◌, ◌-◌, ◌==◌, Bool, ◌&&◌, nat_le, List, [], ◌∷◌}
use Rattle.std.specs.Prelude.{length, Option, None, Some, Result, Ok, Err, option_map, is_none, if◌then◌else◌}
use Rattle.std.specs.List.{list_any}
use Rattle.std.specs.Option.{ok_or, option_or}
use Rattle.xn_model.specs.Lives.{StoreState}
use Rattle.xn_model.specs.PendingIn.{newest_entry_of}
use Rattle.treefs_format.specs.Buckets.{dead_record, live_record, room_behind, room_without}
use Rattle.treefs_format.specs.Candidates.{candidates, name_hash}
use Rattle.treefs_format.specs.Names.{is_name}
use Rattle.treefs_format.specs.Records.{Record, end_of}
use Rattle.treefs_model.specs.Files.{and_then}
use Rattle.treefs_model.specs.Reading.{bucket_of, key_in}
use Rattle.treefs_model.specs.declared.fault.Fault.{Fault}
use Rattle.treefs_model.specs.declared.fault.Fault.TheVariants.{NoEntry, BadName, Full, TooLarge}
use Rattle.treefs_lookup.specs.Buckets.{bucket_block, bucket_start}
use Rattle.treefs_lookup.specs.Inodes.{directory_found}
use Rattle.treefs_lookup.specs.Readable.{readable}
use Rattle.treefs_lookup.specs.declared.bucket.Bucket.{Bucket}
use Rattle.treefs_lookup.specs.declared.names.Slot.{Slot}
use Rattle.treefs_lookup.specs.declared.places.Seen.{Seen}
use Rattle.treefs_lookup.specs.declared.places.NamePlace.{NamePlace}
use Rattle.treefs_lookup.specs.declared.places.NamePlace.TheVariants.{DeadRecord, Behind, Rewritten, NewBucket}

-- what the first of some buckets has that has one
abbrev pub first_some : {A : Type 0} → (ℕ → Option A) → List ℕ → Option A
first_some has [] = None
first_some has (bucket ∷ buckets) = option_or (has bucket) (first_some has buckets)

-- Names

-- a record of a bucket that stands in a block, from a byte on
abbrev pub slot_of : ℕ → ℕ → Record → Slot
slot_of block start r = record { block = block; offset = start + r.offset; number = r.entry.number }

abbrev pub slot_in : (ℕ → List ℕ) → ℕ → List ℕ → ℕ → Option Slot
slot_in content inode name bucket =
    option_map (slot_of (bucket_block content inode bucket) (bucket_start bucket)) (live_record (bucket_of content inode bucket) name)

unfoldable pub slot_named : (ℕ → List ℕ) → List ℕ → ℕ → List ℕ → Option Slot
slot_named content key inode name = first_some (slot_in content inode name) (candidates (name_hash key name))

abbrev pub named_in : (ℕ → List ℕ) → List ℕ → List ℕ → ℕ → Result Slot Fault
named_in content key name inode = if is_name name then ok_or (slot_named content key inode name) NoEntry else Err BadName

abbrev pub entry_found : (ℕ → List ℕ) → ℕ → ℕ → List ℕ → Result Slot Fault
entry_found content top d name = and_then (directory_found content top d) (λ directory. named_in content (key_in content top) name directory.block)

-- New names

abbrev pub dead_of : ℕ → ℕ → Record → NamePlace
dead_of block start r = DeadRecord block (start + r.offset)

abbrev pub dead_in : (ℕ → List ℕ) → ℕ → List ℕ → ℕ → Option NamePlace
dead_in content inode name bucket =
    option_map (dead_of (bucket_block content inode bucket) (bucket_start bucket)) (dead_record (bucket_of content inode bucket) name)

abbrev pub fits_behind : List ℕ → List ℕ → Bool
fits_behind bytes name = nat_le (5 + length name) (room_behind bytes)

abbrev pub fits_without : List ℕ → List ℕ → Bool
fits_without bytes name = nat_le (5 + length name) (room_without bytes)

-- in a bucket that is there, behind its records, or behind the live ones once it is rewritten, which takes that nothing is pending in its block
abbrev pub room_in : List ℕ → ℕ → ℕ → Option ℕ → List ℕ → Option NamePlace
room_in bytes block start entry name =
    if fits_behind bytes name then Some (Behind block (start + end_of bytes))
    else if fits_without bytes name && is_none entry then Some (Rewritten block start (start + (length bytes - room_without bytes)))
    else None

-- one that is not there is to be made
abbrev pub room_or_new : ℕ → List ℕ → ℕ → ℕ → Option ℕ → List ℕ → Option NamePlace
room_or_new bucket bytes block start entry name = if block == 0 then Some (NewBucket bucket) else room_in bytes block start entry name

abbrev pub room_at : StoreState → ℕ → ℕ → List ℕ → ℕ → Option NamePlace
room_at state fs inode name bucket =
    let content = readable state fs in
    let block = bucket_block content inode bucket in
    room_or_new bucket (bucket_of content inode bucket) block (bucket_start bucket) (newest_entry_of state block) name

-- the same of a bucket that was read
abbrev pub slot_of_bucket : List ℕ → Bucket → Option Slot
slot_of_bucket name bucket = option_map (slot_of bucket.block bucket.start) (live_record bucket.bytes.now name)

abbrev pub dead_of_bucket : List ℕ → Bucket → Option NamePlace
dead_of_bucket name bucket = option_map (dead_of bucket.block bucket.start) (dead_record bucket.bytes.now name)

abbrev pub room_of : StoreState → List ℕ → Bucket → Option NamePlace
room_of state name bucket = room_or_new bucket.number bucket.bytes.now bucket.block bucket.start (newest_entry_of state bucket.block) name

-- where none has a place, dead records may be in the way
abbrev pub way_fault : Bool → Fault
way_fault in_the_way = if in_the_way then Full else TooLarge

abbrev pub free_or_fault : Seen → Result NamePlace Fault
free_or_fault seen = ok_or seen.room (way_fault seen.in_the_way)

abbrev pub no_place : (ℕ → List ℕ) → ℕ → List ℕ → List ℕ → Fault
no_place content inode name buckets = way_fault (list_any (λ bucket. fits_without (bucket_of content inode bucket) name) buckets)

unfoldable pub dead_place : (ℕ → List ℕ) → ℕ → ℕ → List ℕ → Option NamePlace
dead_place content hash inode name = first_some (dead_in content inode name) (candidates hash)

unfoldable pub free_place : StoreState → ℕ → ℕ → ℕ → List ℕ → Result NamePlace Fault
free_place state fs hash inode name =
    ok_or (first_some (room_at state fs inode name) (candidates hash)) (no_place (readable state fs) inode name (candidates hash))

abbrev pub place_or : Option NamePlace → Result NamePlace Fault → Result NamePlace Fault
place_or (Some place) others = Ok place
place_or None others = others

-- its own dead record, or else the first candidate with room, or that is to be made
abbrev pub place_of : StoreState → ℕ → List ℕ → ℕ → List ℕ → Result NamePlace Fault
place_of state fs key inode name =
    place_or (dead_place (readable state fs) (name_hash key name) inode name) (free_place state fs (name_hash key name) inode name)
