use Rattle.xn_model.proofs.Growth.{types_grow, types_mounted}
use Rattle.xn_model.proofs.types_grow.Goals as goal

pub returns-clause-step : goal.returns-clause-step
returns-clause-step c = λ w e r after. types_grow w e r after

pub returns-clause-mount : goal.returns-clause-mount
returns-clause-mount c = types_mounted
