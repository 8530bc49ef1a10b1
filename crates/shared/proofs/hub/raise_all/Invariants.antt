use Rattle.std.proofs.Common.{◌≡◌, ℕ, ◌<◌, slice_index}
use Rattle.xn_model.specs.Calls.{floor_of}
use Rattle.shared.specs.Hubs.{NoWordAbove}
use Rattle.shared.proofs.hub.raise_all.Given as goal

abbrev pub invariant-loop-number : goal.invariant-loop-number
invariant-loop-number g l = record {
  floor : l.publisher.floor ≡ l.initial.publisher.floor;
  below : NoWordAbove l.publisher.seen l.kernel.state;
  raised : (fs : ℕ) → fs < l.number → slice_index l.publisher.seen fs ≡ floor_of l.kernel.state fs;
}
