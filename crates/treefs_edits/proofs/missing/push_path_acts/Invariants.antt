use Rattle.std.proofs.Common.{◌≡◌, ◌++◌, length}
use Rattle.treefs_edits.specs.Missing.{path_acts}
use Rattle.treefs_edits.proofs.missing.push_path_acts.Given as goal

abbrev pub invariant-loop-rest : goal.invariant-loop-rest
invariant-loop-rest l = l.acts.items ++ path_acts l.node_type l.owner l.rest l.blocks ≡ l.fn.acts.items ++ path_acts l.node_type l.fn.owner l.offsets l.begun

abbrev pub decreases-loop-rest : goal.decreases-loop-rest
decreases-loop-rest l = length l.rest
