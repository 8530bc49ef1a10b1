use Rattle.xn_state.proofs.Answering.{answers_step}
use Rattle.xn_state.proofs.law.answers_are_steps.Goals as goal

pub returns : goal.returns
returns c = answers_step
