use Rattle.std.proofs.Common.{◌≡◌, ◌++◌, length}
use Rattle.treefs_edits.specs.Missing.{node_starts}
use Rattle.treefs_edits.proofs.nodes.push_node_starts.Given as goal

abbrev pub invariant-loop-rest : goal.invariant-loop-rest
invariant-loop-rest l = l.starts.items ++ node_starts l.node_type l.last_type l.rest ≡ l.fn.starts.items ++ node_starts l.node_type l.last_type l.offsets

abbrev pub decreases-loop-rest : goal.decreases-loop-rest
decreases-loop-rest l = length l.rest
