use Rattle.treefs_session_laws.proofs.Done.{done_once}
use Rattle.treefs_session_laws.proofs.law.calls_are_done_once.Goals as goal

pub returns : goal.returns
returns g c = λ T call left old new volume volume' answer full is_open tries.
    done_once T (g.C.Call.does call T) full left old new volume volume' answer is_open tries
