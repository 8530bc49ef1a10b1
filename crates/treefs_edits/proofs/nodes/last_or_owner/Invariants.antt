use Rattle.std.proofs.Common.{◌≡◌, length}
use Rattle.treefs_edits.specs.Missing.{last_or_owner}
use Rattle.treefs_edits.proofs.nodes.last_or_owner.Given as goal

abbrev pub invariant-loop-rest : goal.invariant-loop-rest
invariant-loop-rest l = last_or_owner l.last l.rest ≡ last_or_owner l.fn.owner l.blocks

abbrev pub decreases-loop-rest : goal.decreases-loop-rest
decreases-loop-rest l = length l.rest
