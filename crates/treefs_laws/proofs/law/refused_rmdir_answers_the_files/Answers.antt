use Rattle.treefs_laws.proofs.RefusedRemovals.{rmdir_refused}
use Rattle.treefs_laws.proofs.law.refused_rmdir_answers_the_files.Goals as goal

pub returns : goal.returns
returns c = λ T state state' volume volume' d name fault kept does. rmdir_refused T state state' volume volume' kept d name fault does
