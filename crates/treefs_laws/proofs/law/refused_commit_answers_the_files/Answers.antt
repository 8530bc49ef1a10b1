use Rattle.treefs_laws.proofs.RefusedNames.{first_refused, second_refused}
use Rattle.treefs_laws.proofs.law.refused_commit_answers_the_files.Goals as goal

pub returns-clause-named : goal.returns-clause-named
returns-clause-named c = λ T state state' volume volume' block d name fault does. first_refused T state state' volume volume' d name fault block does

pub returns-clause-replaced : goal.returns-clause-replaced
returns-clause-replaced c = λ T state state' volume volume' block d name fault does. second_refused T state state' volume volume' d name fault block does
