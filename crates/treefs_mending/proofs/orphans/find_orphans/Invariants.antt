use Rattle.std.proofs.Common.{◌≡◌, ◌+◌, ◌-◌, ◌≤◌, ◌++◌}
use Rattle.treefs_format.specs.Paths.{leaf_count}
use Rattle.treefs_lookup.specs.Readable.{readable}
use Rattle.treefs_mending.specs.Orphans.{orphans_from, orphans_of}
use Rattle.treefs_mending.specs.Surveys.{inode_count}
use Rattle.treefs_mending.proofs.orphans.find_orphans.Given as goal

abbrev pub invariant-loop-leaf : goal.invariant-loop-leaf
invariant-loop-leaf g l =
    let content = readable (g.S.Store.state_of l.store) l.tree.fs.number in
    record {
      few : l.from ≤ leaf_count;
      so_far : l.numbers.items ++ orphans_from content l.tree.top l.tallies (l.from + 1) (inode_count - l.from) ≡ orphans_of content l.tree.top l.tallies;
    }

abbrev pub decreases-loop-leaf : goal.decreases-loop-leaf
decreases-loop-leaf g l = leaf_count - l.from
