use Rattle.treefs_laws.proofs.Refused.{unlink_refused}
use Rattle.treefs_laws.proofs.law.refused_unlink_answers_the_files.Goals as goal

pub returns : goal.returns
returns c = λ T state state' volume volume' d name fault does. unlink_refused state volume volume' fault d name T state' does
