use Rattle.std.proofs.Common.{◌≡◌, ◌++◌, length}
use Rattle.std.specs.Option.{option_copied, option_map}
use Rattle.tree_changes.specs.ModeTexts.{clauses_told, mode_parts, parts_in}
use Rattle.tree_changes.proofs.modes.read_clauses.Given as goal

abbrev pub invariant-loop-rest : goal.invariant-loop-rest
invariant-loop-rest l =
    option_map (λ clauses. l.clauses.items ++ clauses) (clauses_told (parts_in (option_copied l.rest))) ≡ clauses_told (mode_parts l.fn.text)

abbrev pub decreases-loop-rest : goal.decreases-loop-rest
decreases-loop-rest l = length (parts_in (option_copied l.rest))
