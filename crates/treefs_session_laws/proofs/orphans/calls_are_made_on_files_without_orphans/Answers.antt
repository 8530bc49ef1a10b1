use Rattle.treefs_session_laws.proofs.Freed.{made_freely}
use Rattle.treefs_session_laws.proofs.orphans.calls_are_made_on_files_without_orphans.Goals as goal

pub returns : goal.returns
returns g c = λ T call held old new volume volume' answer refused is_open makes.
    made_freely T held (g.C.Call.does call T) refused old new volume volume' answer is_open makes
