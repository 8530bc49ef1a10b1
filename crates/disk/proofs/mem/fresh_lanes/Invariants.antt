use Rattle.std.proofs.Common.{◌≡◌, ℕ, ◌<◌, length, Some, slice_get, vec_len, vec_capacity}
use Rattle.disk.specs.Mem.{fresh_lane}
use Rattle.disk.specs.Images.{block_of_image}
use Rattle.disk.proofs.mem.fresh_lanes.Given as goal

abbrev pub invariant-loop-block : goal.invariant-loop-block
invariant-loop-block l = record {
  len : vec_len l.places ≡ l.block;
  room : vec_capacity l.places ≡ l.blocks;
  long : length l.places.items ≡ l.block;
  each : (k : ℕ) → k < l.block → slice_get l.places.items k ≡ Some (Some (fresh_lane k (block_of_image l.image k)));
}
