use Rattle.std.proofs.Common.{◌≢◌, ap, arith, length, sym, ◌∙◌}
use Rattle.treefs_laws.proofs.BegunGrown.{begun_grown, begun_not_grown}
use Rattle.treefs_laws.proofs.Planned.{same_done}
use Rattle.treefs_laws.proofs.orphans.begun_writes_append_bytes.Goals as goal

pub returns-clause-done : goal.returns-clause-done
returns-clause-done c = λ T old new volume block inode was bytes taken is_open begun is wide some does.
    let full : length bytes ≢ 0 = λ z. absurd (omega (arith, z)) in
    begun_grown T old volume is_open block inode begun bytes wide full new taken (length was)
    (ap length (same_done was begun.bytes (sym is ∙ begun.bytes_are))) does

pub returns-clause-refused : goal.returns-clause-refused
returns-clause-refused c = λ T old new volume block at inode bytes fault is_open begun wide other does.
    begun_not_grown T old volume is_open block inode begun bytes wide at new fault other does
