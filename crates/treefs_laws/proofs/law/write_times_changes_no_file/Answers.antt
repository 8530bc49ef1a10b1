use Rattle.treefs_laws.proofs.AsideTimes.{times_keep}
use Rattle.treefs_laws.proofs.law.write_times_changes_no_file.Goals as goal

pub returns : goal.returns
returns c = λ T state state' volume volume' result is_open does. times_keep T state state' volume volume' result is_open does
