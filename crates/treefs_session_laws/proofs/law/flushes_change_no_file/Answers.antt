use Rattle.treefs_session_laws.proofs.Flushed.{stopped_before, waves_before}
use Rattle.treefs_session_laws.proofs.law.flushes_change_no_file.Goals as goal

pub returns-clause-waves : goal.returns-clause-waves
returns-clause-waves c = waves_before

pub returns-clause-refused : goal.returns-clause-refused
returns-clause-refused c = stopped_before
