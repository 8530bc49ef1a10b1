use Rattle.std.proofs.Common.{◌≡◌, ◌≤◌, ◌++◌, ℕ, List, None, length, replicate, take, slice_get}
use Rattle.std.specs.Io.KnownBytes.{Appends}
use Rattle.xn_model.specs.Images.{joined}
use Rattle.world.specs.Disks.{image_of}
use Rattle.world.proofs.unmounted.write_lanes.Given as goal

abbrev pub invariant-loop-block : goal.invariant-loop-block
invariant-loop-block g l = record {
  written : (front : List ℕ) × Appends (g.W.Write.contents l.initial.out) (g.W.Write.contents l.out) front
      × (front ++ l.piece.items ≡ joined (take l.block (image_of l.initial.lanes (replicate (length l.initial.lanes) None))));
  rest : (k : ℕ) → l.block ≤ k → slice_get l.lanes k ≡ slice_get l.initial.lanes k;
  count : length l.lanes ≡ length l.initial.lanes;
}
