use Rattle.std.proofs.Common.{◌≡◌, ◌+◌, ◌-◌, ◌≤◌, ◌++◌}
use Rattle.treefs_format.specs.Paths.{leaf_count}
use Rattle.treefs_lookup.specs.Readable.{readable}
use Rattle.treefs_mending.specs.Names.{bucket_count, live_names, names_from}
use Rattle.treefs_mending.proofs.names.push_names.Given as goal

abbrev pub invariant-loop-bucket : goal.invariant-loop-bucket
invariant-loop-bucket g l =
    let content = readable (g.S.Store.state_of l.store) l.fs.number in
    record {
      few : l.next ≤ leaf_count + 1;
      so_far : l.names.items ++ names_from content l.inode l.next (bucket_count - l.next) ≡ l.fn.names.items ++ live_names content l.inode;
    }

abbrev pub decreases-loop-bucket : goal.decreases-loop-bucket
decreases-loop-bucket g l = leaf_count + 1 - l.next
