use Rattle.std.proofs.Common.{◌≡◌, ◌+◌, ◌-◌, ◌≤◌, ◌++◌}
use Rattle.treefs_format.specs.Paths.{leaf_count}
use Rattle.treefs_lookup.specs.Readable.{readable}
use Rattle.treefs_mending.specs.Names.{bucket_count}
use Rattle.treefs_mending.specs.Rewritings.{rewritings, rewritings_from}
use Rattle.treefs_mending.proofs.rewritings.push_rewritings.Given as goal

abbrev pub invariant-loop-leaf : goal.invariant-loop-leaf
invariant-loop-leaf g l =
    let content = readable (g.S.Store.state_of l.store) l.fs.number in
    record {
      few : l.from ≤ leaf_count;
      so_far : l.acts.items ++ rewritings_from content l.inode (l.from + 1) (bucket_count - (l.from + 1)) ≡ l.fn.acts.items ++ rewritings content l.inode;
    }

abbrev pub decreases-loop-leaf : goal.decreases-loop-leaf
decreases-loop-leaf g l = leaf_count - l.from
