use Rattle.std.proofs.Common.{◌≡◌, ◌++◌, length}
use Rattle.treefs_edits.specs.Missing.{node_acts}
use Rattle.treefs_edits.proofs.nodes.push_node_acts.Given as goal

abbrev pub invariant-loop-rest : goal.invariant-loop-rest
invariant-loop-rest l =
    l.acts.items ++ node_acts l.node_type l.last_type l.owner l.rest l.blocks ≡ l.fn.acts.items ++ node_acts l.node_type l.last_type l.fn.owner l.offsets l.begun

abbrev pub decreases-loop-rest : goal.decreases-loop-rest
decreases-loop-rest l = length l.rest
