use Rattle.xn_model.proofs.WaveCalls.{ready_begins, begun_not_ready, begun_life_apart, begun_prefix_apart, begun_ready_apart, begun_pending}
use Rattle.xn_model.proofs.wave_begins.Goals as goal

pub returns-clause-begins : goal.returns-clause-begins
returns-clause-begins c = ready_begins

pub returns-clause-here : goal.returns-clause-here
returns-clause-here c = λ state new b begun e. begun_not_ready state new b begun e

pub returns-clause-others : goal.returns-clause-others
returns-clause-others x = λ state new b c begun e other. (begun_life_apart state new b begun e c other, begun_prefix_apart state new b begun e c other, begun_ready_apart state new b begun e c other)

pub returns-clause-pending : goal.returns-clause-pending
returns-clause-pending c = λ state new b begun e. begun_pending state new b begun e
