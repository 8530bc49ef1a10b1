use Rattle.treefs_laws.proofs.WriteRefused.{write_refused}
use Rattle.treefs_laws.proofs.law.refused_write_keeps_the_session.Goals as goal

pub returns : goal.returns
returns c = λ T old new volume volume' number at bytes fault is_open few wide does.
    write_refused T old volume is_open number at bytes few wide
    fault new volume' does
