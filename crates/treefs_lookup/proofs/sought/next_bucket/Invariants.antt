use Rattle.std.proofs.Common.{◌≤◌, ◌-◌, ◌+◌}
use Rattle.treefs_format.specs.Paths.{leaf_count}
use Rattle.treefs_lookup.specs.Sought.{AreWithout}
use Rattle.treefs_lookup.proofs.sought.next_bucket.Given as goal

abbrev pub invariant-loop-number : goal.invariant-loop-number
invariant-loop-number g l = record {
  past : l.from ≤ l.next;
  without : AreWithout (g.S.Store.state_of l.store) l.fs.number l.inode l.sought l.from l.next;
}

abbrev pub decreases-loop-number : goal.decreases-loop-number
decreases-loop-number g l = leaf_count + 1 - l.next
