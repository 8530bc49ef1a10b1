use Rattle.std.proofs.Common.{◌≡◌, ℕ, ◌<◌, length}
use Rattle.world.specs.Disks.{lane_at, IsLong}
use Rattle.world.proofs.Crashing.{CrashedTo}
use Rattle.world.proofs.unmounted.crash_lanes.Given as goal

abbrev pub invariant-loop-block : goal.invariant-loop-block
invariant-loop-block g l = CrashedTo l.kept l.initial.lanes l.lanes l.block-counter × ((c : ℕ) → c < l.block-counter → IsLong (lane_at l.lanes c)) × (length l.lanes ≡ l.block-end)
