use Rattle.treefs_laws.proofs.ForCallers.{truncate_done, truncate_refused}
use Rattle.treefs_session_laws.proofs.Altered.{truncated_again}
use Rattle.treefs_session_laws.proofs.Sized.{session_sizes}
use Rattle.treefs_session_laws.proofs.bytes.sessions_set_a_size.Goals as goal

pub returns-clause-made : goal.returns-clause-made
returns-clause-made c = λ T held old new volume volume' number size is_open makes.
    let said = session_sizes T held number size
    (λ old new v v' is_open does. truncate_done T old v is_open number size new v' does)
    (λ old new v v' fault is_open does. truncate_refused T old v is_open number size new v' fault does)
    old new volume volume' is_open makes in
    (said.0, said.1.0, said.1.1, said.1.2)

pub returns-clause-again : goal.returns-clause-again
returns-clause-again c = λ files files' time number size is. truncated_again files files' time number size is
