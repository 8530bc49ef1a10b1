use Rattle.xn_model.proofs.Reached.{reached_now, now_reached}
use Rattle.xn_model.proofs.same_reach.Goals as goal

pub returns-clause-now : goal.returns-clause-now
returns-clause-now c = λ L state content b u h placed. reached_now L state h content placed b u

pub returns-clause-there : goal.returns-clause-there
returns-clause-there c = λ L state content b u h placed. now_reached L state h content placed b u
