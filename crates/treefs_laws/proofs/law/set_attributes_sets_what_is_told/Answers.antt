use Rattle.treefs_laws.proofs.Attributed.{attributed_so}
use Rattle.treefs_laws.proofs.law.set_attributes_sets_what_is_told.Goals as goal

pub returns : goal.returns
returns c = λ T state state' volume volume' n a wide kept does.
    attributed_so T state state' volume volume' n a wide kept does
