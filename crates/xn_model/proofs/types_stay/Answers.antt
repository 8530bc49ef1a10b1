use Rattle.xn_model.proofs.Growth.{types_kept, types_stay}
use Rattle.xn_model.proofs.types_stay.Goals as goal

pub returns-clause-stay : goal.returns-clause-stay
returns-clause-stay c = types_stay

pub returns-clause-same : goal.returns-clause-same
returns-clause-same c = types_kept
