use Rattle.treefs_format.proofs.Stated.{candidate_below}
use Rattle.treefs_format.proofs.law.levels_are_apart.Goals as goal

pub returns-clause-high : goal.returns-clause-high
returns-clause-high c = candidate_below
