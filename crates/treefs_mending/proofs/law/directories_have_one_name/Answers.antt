use Rattle.std.proofs.Common.{refl}
use Rattle.treefs_mending.proofs.Single.{single_survey}
use Rattle.treefs_mending.proofs.law.directories_have_one_name.Goals as goal

pub returns-clause-few : goal.returns-clause-few
returns-clause-few c = λ content top n directory. (single_survey content top).few n directory

pub returns-clause-none : goal.returns-clause-none
returns-clause-none c = λ content top directory. (single_survey content top).none 1 refl directory
