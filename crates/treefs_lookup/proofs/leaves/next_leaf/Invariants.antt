use Rattle.std.proofs.Common.{◌≤◌, ◌-◌}
use Rattle.treefs_format.specs.Paths.{leaf_count}
use Rattle.treefs_lookup.specs.Leaves.{AreMissing}
use Rattle.treefs_lookup.specs.Readable.{readable}
use Rattle.treefs_lookup.proofs.leaves.next_leaf.Given as goal

abbrev pub invariant-loop-number : goal.invariant-loop-number
invariant-loop-number g l = record {
  past : l.from ≤ l.number;
  missing : AreMissing (readable (g.S.Store.state_of l.store) l.fs.number) l.inode l.from l.number;
}

abbrev pub decreases-loop-number : goal.decreases-loop-number
decreases-loop-number g l = leaf_count - l.number
