use Rattle.std.proofs.Common.{◌≡◌, ◌≤◌, drop, length}
use Rattle.treefs_lookup.specs.Readable.{readable}
use Rattle.treefs_lookup.specs.Walks.{reach, reached}
use Rattle.treefs_lookup.proofs.paths.walk.Given as goal

abbrev pub invariant-loop-left : goal.invariant-loop-left
invariant-loop-left g l = record {
  within : l.left ≤ length l.offsets;
  so_far : reach (readable (g.S.Store.state_of l.store) l.fs.number) l.top (drop l.left l.offsets) ≡ reached l.block 0;
}

abbrev pub decreases-loop-left : goal.decreases-loop-left
decreases-loop-left g l = l.left
