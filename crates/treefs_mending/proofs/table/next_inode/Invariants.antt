use Rattle.std.proofs.Common.{◌+◌, ◌-◌, ◌≤◌}
use Rattle.treefs_format.specs.Paths.{leaf_count}
use Rattle.treefs_lookup.specs.Readable.{readable}
use Rattle.treefs_mending.specs.Table.{AreFree}
use Rattle.treefs_mending.proofs.table.next_inode.Given as goal

abbrev pub invariant-loop-leaf : goal.invariant-loop-leaf
invariant-loop-leaf g l = record {
  past : l.from ≤ l.next + 1;
  free : AreFree (readable (g.S.Store.state_of l.store) l.tree.fs.number) l.tree.top l.from (l.next + 1);
}

abbrev pub decreases-loop-leaf : goal.decreases-loop-leaf
decreases-loop-leaf g l = leaf_count - l.next
