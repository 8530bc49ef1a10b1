use Rattle.treefs_laws.proofs.Made.{created_so}
use Rattle.treefs_laws.proofs.law.create_makes_a_file.Goals as goal

pub returns : goal.returns
returns c = λ T state state' volume volume' d name attributes n is_open fit wide does.
    created_so T state state' volume d name is_open wide attributes fit volume' n does
