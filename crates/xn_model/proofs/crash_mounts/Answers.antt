use Rattle.xn_model.proofs.Runs.{crash_mounts}
use Rattle.xn_model.proofs.crash_mounts.Goals as goal

pub returns : goal.returns
returns c = crash_mounts
