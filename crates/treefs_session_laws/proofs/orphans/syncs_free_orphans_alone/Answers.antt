use Rattle.treefs_session_laws.proofs.Freed.{syncs_all, syncs_unheld}
use Rattle.treefs_session_laws.proofs.orphans.syncs_free_orphans_alone.Goals as goal

pub returns-clause-ever : goal.returns-clause-ever
returns-clause-ever c = λ T held old new volume volume' result is_open syncs.
    syncs_unheld T held old new volume volume' result is_open syncs

pub returns-clause-done : goal.returns-clause-done
returns-clause-done c = λ T held old new volume volume' is_open syncs.
    syncs_all T held old new volume volume' is_open syncs
