use Rattle.treefs_laws.proofs.BegunWritten.{begun_written}
use Rattle.treefs_laws.proofs.orphans.begun_writes_change_no_file.Goals as goal

pub returns : goal.returns
returns c = λ T old new volume block at bytes result is_open unnamed wide does.
    begun_written T old volume is_open block unnamed at bytes wide
    new result does
