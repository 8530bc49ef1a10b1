use Rattle.treefs_laws.proofs.Timed.{timed_so}
use Rattle.treefs_laws.proofs.law.set_mtime_sets_a_time.Goals as goal

pub returns : goal.returns
returns c = timed_so
