use Rattle.xn_model.proofs.WaveCalls.{begun_settles, settled_life_apart, settled_pending}
use Rattle.xn_model.proofs.wave_settles.Goals as goal

pub returns-clause-settles : goal.returns-clause-settles
returns-clause-settles c = begun_settles

pub returns-clause-others : goal.returns-clause-others
returns-clause-others x = λ T state new b bytes done c l k h e other alive begun. settled_life_apart T state new b bytes done h e c l k other alive begun

pub returns-clause-pending : goal.returns-clause-pending
returns-clause-pending c = λ T state new b bytes done h e. settled_pending T state new b bytes done h e
