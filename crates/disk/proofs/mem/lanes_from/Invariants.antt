use Rattle.std.proofs.Common.{◌≡◌, ℕ, ◌+◌, ◌-◌, ◌*◌, ◌<◌, ◌≤◌, length, take, Some, None, slice_get}
use Rattle.disk.specs.Mem.{fresh_lane}
use Rattle.disk.specs.Images.{block_of_image}
use Rattle.disk.proofs.mem.lanes_from.Given as goal

abbrev pub invariant-loop-done : goal.invariant-loop-done
invariant-loop-done g l = record {
  rest : l.image.items ≡ take (512 * (l.blocks - l.done)) l.initial.image.items;
  count : length l.lanes ≡ l.blocks;
  empty : (k : ℕ) → k + l.done < l.blocks → slice_get l.lanes k ≡ Some None;
  each : (k : ℕ) → l.blocks ≤ k + l.done → k < l.blocks → slice_get l.lanes k ≡ Some (Some (fresh_lane k (block_of_image l.initial.image.items k)));
}
