use Rattle.treefs_laws.proofs.WriteDone.{write_done}
use Rattle.treefs_laws.proofs.law.write_changes_bytes.Goals as goal

pub returns : goal.returns
returns c = λ T old new volume volume' number at bytes taken is_open few wide does.
    write_done T old volume is_open number at bytes few wide
    new volume' taken does
