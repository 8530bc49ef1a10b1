use Rattle.xn_kernel.proofs.Newest.{refused_goes, waves_go}
use Rattle.xn_kernel.proofs.laws.flush_keeps_newest.Goals as goal

pub returns-clause-ends : goal.returns-clause-ends
returns-clause-ends c = λ T old new waves rules w. (waves_go T waves old new rules w).newest

pub returns-clause-stops : goal.returns-clause-stops
returns-clause-stops c = λ T old new refusal rules r. (refused_goes T old new refusal rules r).newest
