use Rattle.treefs_laws.proofs.LookUps.{looked_up, told}
use Rattle.treefs_laws.proofs.law.look_ups_answer_the_files.Goals as goal

pub returns-clause-names : goal.returns-clause-names
returns-clause-names c = looked_up

pub returns-clause-inodes : goal.returns-clause-inodes
returns-clause-inodes c = told
