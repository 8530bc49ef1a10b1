use Rattle.xn_model.proofs.LaneCalls.{lanes_mounted}
use Rattle.xn_model.proofs.lanes_mounted.Goals as goal

pub returns : goal.returns
returns bounds c = λ read. lanes_mounted read
