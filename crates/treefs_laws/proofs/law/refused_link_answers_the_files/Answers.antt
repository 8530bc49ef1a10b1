use Rattle.treefs_laws.proofs.RefusedNames.{link_refused}
use Rattle.treefs_laws.proofs.law.refused_link_answers_the_files.Goals as goal

pub returns : goal.returns
returns c = λ T state state' volume volume' n d name fault does. link_refused T state state' volume volume' d name fault n does
