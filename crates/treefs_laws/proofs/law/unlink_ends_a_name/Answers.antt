use Rattle.treefs_laws.proofs.Unlinked.{unlinked_so}
use Rattle.treefs_laws.proofs.law.unlink_ends_a_name.Goals as goal

pub returns : goal.returns
returns c = λ T state state' volume volume' d name kept does. unlinked_so T state state' volume volume' d name kept does
