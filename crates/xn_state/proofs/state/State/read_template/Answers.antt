use Rattle.xn_state.proofs.Planning.{fault_refused}
use Rattle.xn_state.proofs.state.State.read_template.Goals as goal

pub returns-in-Err : goal.returns-in-Err
returns-in-Err c = rw c.template_refusal.ensures (fault_refused c.args.template.now c.in-Err.fault c.in-Err.ensures.exact c.in-Err.ensures.memory_last)
