use Rattle.treefs_format.proofs.PathsOfLeaves.{paths_end, steps_are_paths}
use Rattle.treefs_format.proofs.law.paths_are_leaves.Goals as goal

pub returns-clause-paths : goal.returns-clause-paths
returns-clause-paths c = steps_are_paths

pub returns-clause-ends : goal.returns-clause-ends
returns-clause-ends c = paths_end
