use Rattle.treefs_session_laws.proofs.Space.{made_once}
use Rattle.treefs_session_laws.proofs.law.calls_that_need_no_space_are_done_once.Goals as goal

pub returns : goal.returns
returns g c = λ T call held old new volume volume' answer full space is_open makes.
    made_once T (g.C.Call.does call T) full space held old new volume volume' answer is_open makes
