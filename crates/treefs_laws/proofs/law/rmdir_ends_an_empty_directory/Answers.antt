use Rattle.treefs_laws.proofs.Removed.{removed_so}
use Rattle.treefs_laws.proofs.law.rmdir_ends_an_empty_directory.Goals as goal

pub returns : goal.returns
returns c = λ T state state' volume volume' d name kept does. removed_so T state state' volume volume' d name kept does
