use Rattle.treefs_values.proofs.LookUps.{inodes_found, numbers_found}
use Rattle.treefs_values.proofs.law.look_ups_are_values.Goals as goal

pub returns-clause-inodes : goal.returns-clause-inodes
returns-clause-inodes c = inodes_found

pub returns-clause-numbers : goal.returns-clause-numbers
returns-clause-numbers c = numbers_found
