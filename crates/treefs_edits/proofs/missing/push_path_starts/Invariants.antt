use Rattle.std.proofs.Common.{◌≡◌, ◌++◌, length}
use Rattle.treefs_edits.specs.Missing.{path_starts}
use Rattle.treefs_edits.proofs.missing.push_path_starts.Given as goal

abbrev pub invariant-loop-rest : goal.invariant-loop-rest
invariant-loop-rest l = l.starts.items ++ path_starts l.node_type l.rest ≡ l.fn.starts.items ++ path_starts l.node_type l.offsets

abbrev pub decreases-loop-rest : goal.decreases-loop-rest
decreases-loop-rest l = length l.rest
