use Rattle.std.proofs.Common.{◌≡◌, ◌+◌, ◌-◌}
use Rattle.treefs_byte_plans.specs.Runs.{missing_count}
use Rattle.treefs_lookup.specs.Readable.{readable}
use Rattle.treefs_byte_plans.proofs.runs.missing_count.Given as goal

abbrev pub invariant-loop-count : goal.invariant-loop-count
invariant-loop-count g l =
    let content = readable (g.S.Store.state_of l.store) l.fs.number in
    missing_count content l.inode l.leaf l.most ≡ l.count + missing_count content l.inode (l.leaf + l.count) (l.most - l.count)
