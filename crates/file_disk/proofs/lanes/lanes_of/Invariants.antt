use Rattle.std.proofs.Common.{◌≡◌, ℕ, ◌+◌, ◌-◌, ◌*◌, ◌<◌, ◌≤◌, length, take, Some, None, slice_get}
use Rattle.file_disk.proofs.Images.{lane_at}
use Rattle.file_disk.proofs.lanes.lanes_of.Given as goal

abbrev pub invariant-loop-done : goal.invariant-loop-done
invariant-loop-done l = record {
  rest : l.image.bytes.items ≡ take (512 * (l.blocks - l.done)) l.initial.image.bytes.items;
  count : length l.lanes ≡ l.blocks;
  empty : (k : ℕ) → k + l.done < l.blocks → slice_get l.lanes k ≡ Some None;
  each : (k : ℕ) → l.blocks ≤ k + l.done → k < l.blocks → slice_get l.lanes k ≡ Some (Some (lane_at l.initial.image.bytes.items k));
}
