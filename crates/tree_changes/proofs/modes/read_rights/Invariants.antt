use Rattle.std.proofs.Common.{◌≡◌, false, length}
use Rattle.tree_changes.specs.ModeTexts.{rights_behind}
use Rattle.tree_changes.proofs.modes.read_rights.Given as goal

abbrev pub invariant-loop-rest : goal.invariant-loop-rest
invariant-loop-rest l = rights_behind l.bits l.is_large l.rest ≡ rights_behind 0 false l.letters

abbrev pub decreases-loop-rest : goal.decreases-loop-rest
decreases-loop-rest l = length l.rest
