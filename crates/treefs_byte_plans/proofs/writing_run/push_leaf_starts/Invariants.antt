use Rattle.std.proofs.Common.{◌≡◌, ◌≤◌, ◌++◌}
use Rattle.treefs_byte_plans.specs.Runs.{leaf_starts}
use Rattle.treefs_byte_plans.proofs.writing_run.push_leaf_starts.Given as goal

abbrev pub invariant-loop-left : goal.invariant-loop-left
invariant-loop-left l = record {
  within : l.place ≤ 512;
  joined : l.starts.items ++ leaf_starts l.left l.place l.rest ≡ l.fn.starts.items ++ leaf_starts l.count l.fn.place l.bytes;
}

abbrev pub decreases-loop-left : goal.decreases-loop-left
decreases-loop-left l = l.left
