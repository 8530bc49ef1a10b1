-- Lanes that fail at a read and at a write that were named when they were made.
use Rattle.std.specs.Prelude.{◌≡◌, ℕ, zero, suc, List, Option, Some, None, Bool, true, Result}
use Rattle.disk.specs.Mem.{MemoryLane, memory_read, memory_write, memory_sync}

-- Which read from now on is to fail, where 1 is the next one, and which write, with whether the new bytes stay then.
pub record PlannedLane : Type 0 where
  pub lane : MemoryLane
  pub fail_read : Option ℕ
  pub fail_write : Option (ℕ × Bool)

-- the place of the same read once the next one is done; none where it was the next
abbrev pub later_read : Option ℕ → Option ℕ
later_read (Some (suc (suc n))) = Some (suc n)
later_read (Some (suc zero)) = None
later_read (Some zero) = Some zero
later_read None = None

abbrev pub later_write : Option (ℕ × Bool) → Option (ℕ × Bool)
later_write (Some (suc (suc n), stays)) = Some (suc n, stays)
later_write (Some (suc zero, stays)) = None
later_write (Some (zero, stays)) = Some (zero, stays)
later_write None = None

-- the lane, told to fail where its turn has come
abbrev pub told_read : Option ℕ → MemoryLane → MemoryLane
told_read (Some (suc zero)) lane = record lane { read_fault = true }
told_read _ lane = lane

abbrev pub told_write : Option (ℕ × Bool) → MemoryLane → MemoryLane
told_write (Some (suc zero, stays)) lane = record lane { write_fault = Some stays }
told_write _ lane = lane

-- what a read and a write of such a lane answer
abbrev pub planned_read : {E : Type 0} → PlannedLane → Result (Unit {0}) E → PlannedLane → Type 0
planned_read old result new =
    memory_read (told_read old.fail_read old.lane) result new.lane
    × (new ≡ record { lane = new.lane; fail_read = later_read old.fail_read; fail_write = old.fail_write })

abbrev pub planned_write : {E : Type 0} → PlannedLane → List ℕ → Result (Unit {0}) E → PlannedLane → Type 0
planned_write old bytes result new =
    memory_write (told_write old.fail_write old.lane) bytes result new.lane
    × (new ≡ record { lane = new.lane; fail_read = old.fail_read; fail_write = later_write old.fail_write })

abbrev pub planned_sync : {E : Type 0} → PlannedLane → Result (Unit {0}) E → PlannedLane → Type 0
planned_sync old result new = memory_sync old.lane result new.lane × (new ≡ record old { lane = new.lane })
