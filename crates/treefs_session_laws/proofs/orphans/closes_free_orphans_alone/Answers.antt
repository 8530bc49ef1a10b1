use Rattle.std.proofs.Common.{Err, Ok}
use Rattle.treefs_session_laws.proofs.Closed.{closes_all, closes_unheld}
use Rattle.treefs_session_laws.proofs.orphans.closes_free_orphans_alone.Goals as goal

pub returns-clause-ever : goal.returns-clause-ever
returns-clause-ever c = λ T old new volume volume' fault is_open closes.
    closes_unheld T old new volume volume' (Err fault) is_open closes

pub returns-clause-done : goal.returns-clause-done
returns-clause-done c = λ T old new volume is_open closes. (
  closes.0,
  closes_unheld T old new volume closes.0 (Ok tt) is_open closes.1,
  closes_all T old new volume closes.0 is_open closes.1,
)
