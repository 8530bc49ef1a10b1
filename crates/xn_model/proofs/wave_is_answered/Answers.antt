use Rattle.xn_model.proofs.Flush.{calm_does, calm_runs}
use Rattle.xn_model.proofs.wave_is_answered.Goals as goal

pub returns-clause-replies : goal.returns-clause-replies
returns-clause-replies c = λ w blocks h up can. (calm_does w h up blocks can).0

pub returns-clause-leaves : goal.returns-clause-leaves
returns-clause-leaves c = λ w blocks h up can. (calm_does w h up blocks can).1

pub returns-clause-runs : goal.returns-clause-runs
returns-clause-runs c = λ w blocks h up can. calm_runs w h up blocks can
