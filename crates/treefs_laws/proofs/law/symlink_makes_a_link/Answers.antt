use Rattle.treefs_laws.proofs.Made.{symlinked_so}
use Rattle.treefs_laws.proofs.law.symlink_makes_a_link.Goals as goal

pub returns : goal.returns
returns c = λ T state state' volume volume' d name attributes target n is_open fit wide target_wide short does.
    symlinked_so T state state' volume d name is_open wide attributes fit target target_wide short volume' n does
