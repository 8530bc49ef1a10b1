use Rattle.std.proofs.Common.{◌≡◌, fold, take}
use Rattle.tree_changes.specs.Modes.{clause_applied}
use Rattle.tree_changes.proofs.modes.Modes.apply.Given as goal

abbrev pub invariant-loop-clause : goal.invariant-loop-clause
invariant-loop-clause l =
    l.permissions ≡ fold (λ before clause. clause_applied clause before l.is_folder) l.fn.permissions (take l.clause-index l.self.clauses.items)
