use Rattle.udf_run.proofs.Sound.{checked_runs_within}
use Rattle.udf_run.proofs.law.checked_runs_within.Goals as goal

pub returns : goal.returns
returns c = checked_runs_within
