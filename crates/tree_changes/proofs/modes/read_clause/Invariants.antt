use Rattle.std.proofs.Common.{◌≡◌, None, length}
use Rattle.tree_changes.specs.ModeTexts.{clause_behind}
use Rattle.tree_changes.proofs.modes.read_clause.Given as goal

abbrev pub invariant-loop-rest : goal.invariant-loop-rest
invariant-loop-rest l = clause_behind l.mask l.rest ≡ clause_behind None l.clause

abbrev pub decreases-loop-rest : goal.decreases-loop-rest
decreases-loop-rest l = length l.rest
