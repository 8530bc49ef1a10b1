use Rattle.treefs_laws.proofs.ForCallers.{given_said}
use Rattle.treefs_session_laws.proofs.GivenUp.{given_up}
use Rattle.treefs_session_laws.proofs.puts.sessions_give_up_an_inode.Goals as goal

pub returns : goal.returns
returns c = λ T old new volume volume' block result is_open unnamed gives_up.
    let is = given_up T block
    (λ s s' v result is_open unnamed does. given_said T s v is_open block unnamed s' result does)
    old new volume volume' result (is_open, unnamed) gives_up in
    (is.is_open, is.files, is.clock)
