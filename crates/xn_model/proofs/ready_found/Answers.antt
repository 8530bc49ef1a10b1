use Rattle.xn_model.proofs.Flush.{ready_found, ready_wave}
use Rattle.xn_model.proofs.ready_found.Goals as goal

pub returns-clause-found : goal.returns-clause-found
returns-clause-found c = ready_found

pub returns-clause-wave : goal.returns-clause-wave
returns-clause-wave c = ready_wave
