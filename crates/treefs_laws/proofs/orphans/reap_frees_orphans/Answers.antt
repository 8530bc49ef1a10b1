use Rattle.std.proofs.Common.{Ok, refl}
use Rattle.treefs_laws.proofs.ReapedCall.{reap_done, reap_said, reap_waits}
use Rattle.treefs_laws.proofs.orphans.reap_frees_orphans.Goals as goal

pub returns-clause-ever : goal.returns-clause-ever
returns-clause-ever c = λ T old new volume volume' numbers result is_open does.
    reap_said T numbers old new volume volume' is_open result does

pub returns-clause-done : goal.returns-clause-done
returns-clause-done c = λ T old new volume volume' numbers is_open does.
    reap_done T numbers old new volume volume' is_open (Ok tt) does refl

pub returns-clause-waiting : goal.returns-clause-waiting
returns-clause-waiting c = λ T old new volume volume' numbers result is_open does.
    reap_waits T numbers old new volume volume' is_open result does
