use Rattle.std.proofs.Common.{◌≡◌, ℕ, ◌*◌, ◌<◌, length, Some, slice_get}
use Rattle.disk.specs.Mem.{MemoryLane}
use Rattle.disk.specs.Images.{block_of_image}
use Rattle.disk.proofs.mem.bytes_of_all.Given as goal

abbrev pub invariant-loop-block : goal.invariant-loop-block
invariant-loop-block l = record {
  len : length l.bytes.items ≡ 512 * l.block;
  each : (k : ℕ) → k < l.block → (lane : MemoryLane) × (slice_get l.lanes k ≡ Some (Some lane)) × (lane.bytes ≡ block_of_image l.bytes.items k);
}
