use Rattle.std.specs.Prelude.{◌≡◌, ◌≢◌, ℕ, ◌+◌, ◌*◌, ◌%◌, ◌^◌, ◌<◌, List, length, Option, Some, None, Bool, true, false, Result, Ok, Err, IsSome, slice_get}
use Rattle.std.specs.Prelude.{unwrap_or, cond, ◌⊎◌}
use Rattle.disk.specs.Images.{block_of_image}

-- A lane in memory, as contracts see it. `write_fault` is what the next write is to do: fail, and keep the new bytes or not.
pub record MemoryLane : Type 0 where
  pub number : ℕ
  -- the newest bytes, and those that the last good sync found
  pub bytes : List ℕ
  pub settled : List ℕ
  -- the last bytes given to a write since then
  pub given : Option (List ℕ)
  pub faults : ℕ
  pub write_fault : Option Bool
  pub read_fault : Bool
  pub sync_fault : Bool

-- a lane over these bytes that has never failed, holds no write and is told no failure
abbrev pub fresh_lane : ℕ → List ℕ → MemoryLane
fresh_lane block bytes = record {
  number = block;
  bytes = bytes;
  settled = bytes;
  given = None;
  faults = 0;
  write_fault = None;
  read_fault = false;
  sync_fault = false;
}

-- what a crash may leave in its block
abbrev pub memory_leaves : MemoryLane → List ℕ → Type 0
memory_leaves lane bytes = (bytes ≡ lane.settled) ⊎ (lane.given ≡ Some bytes)

-- after a crash that keeps the write that the lane holds, if it holds one, or loses it
abbrev pub bytes_left : MemoryLane → Bool → List ℕ
bytes_left lane kept = cond kept (unwrap_or lane.given lane.settled) lane.settled

abbrev pub crashed_lane : MemoryLane → Bool → MemoryLane
crashed_lane lane kept = record lane { bytes = bytes_left lane kept; settled = bytes_left lane kept; given = None }

-- the count of faults after one more
abbrev pub next_count : ℕ → ℕ
next_count faults = (faults + 1) % 2 ^ 64

-- the bytes that a failing write leaves, of the old and the new ones
abbrev pub bytes_after_fault : Option Bool → List ℕ → List ℕ → List ℕ
bytes_after_fault (Some true) old new = new
bytes_after_fault (Some false) old new = old
bytes_after_fault None old new = old

-- the lane after the read that it was told to fail
abbrev pub read_failed : MemoryLane → MemoryLane
read_failed lane = record lane { faults = next_count lane.faults; read_fault = false }

-- the lane after the write that it was told to fail, with what was given to an open write
abbrev pub write_failed : MemoryLane → List ℕ → Option (List ℕ) → MemoryLane
write_failed lane new given = record lane {
  given = given;
  bytes = bytes_after_fault lane.write_fault lane.bytes new;
  faults = next_count lane.faults;
  write_fault = None;
}

-- What was given to an open write, after one that failed: its bytes. Where the old bytes stay and an open write was given those, they stay
-- that too, as a lane has room for its newest bytes, for the settled ones, and for no third ones.
abbrev pub IsGivenAfterFault : Option Bool → MemoryLane → List ℕ → Option (List ℕ) → Type 0
IsGivenAfterFault (Some false) lane new given =
    ((lane.given ≡ Some lane.bytes) × (given ≡ lane.given)) ⊎ ((lane.given ≢ Some lane.bytes) × (given ≡ Some new))
IsGivenAfterFault _ lane new given = given ≡ Some new

-- the lane after a good sync, and after the one that it was told to fail
abbrev pub synced : MemoryLane → MemoryLane
synced lane = record lane { settled = lane.bytes; given = None }

abbrev pub sync_failed : MemoryLane → MemoryLane
sync_failed lane = record lane { faults = next_count lane.faults; sync_fault = false }

-- every place has a lane, fresh, over its block of the image
pub record AreFreshLanes (image : List ℕ) (places : List (Option MemoryLane)) : Type 0 where
  pub whole : length image ≡ 512 * length places
  pub each : (k : ℕ) → k < length places → slice_get places k ≡ Some (Some (fresh_lane k (block_of_image image k)))

-- what a read, a write and a sync of such a lane answer: they fail exactly where they were told to
abbrev pub memory_read : {E : Type 0} → MemoryLane → Result (Unit {0}) E → MemoryLane → Type 0
memory_read old (Ok done) new = (old.read_fault ≡ false) × (new ≡ old)
memory_read old (Err fault) new = (old.read_fault ≡ true) × (new ≡ read_failed old)

abbrev pub memory_write : {E : Type 0} → MemoryLane → List ℕ → Result (Unit {0}) E → MemoryLane → Type 0
memory_write old bytes (Ok done) new = (old.write_fault ≡ None) × (new ≡ record old { bytes = bytes; given = Some bytes })
memory_write old bytes (Err fault) new = IsSome old.write_fault × (new ≡ write_failed old bytes new.given) ×
    IsGivenAfterFault old.write_fault old bytes new.given

abbrev pub memory_sync : {E : Type 0} → MemoryLane → Result (Unit {0}) E → MemoryLane → Type 0
memory_sync old (Ok done) new = (old.sync_fault ≡ false) × (new ≡ synced old)
memory_sync old (Err fault) new = (old.sync_fault ≡ true) × (new ≡ sync_failed old)
