use Rattle.std.proofs.Common.{vec_len}
use Rattle.fault_runs.proofs.failing.alone.settle.Given as goal

abbrev pub decreases-loop-ticket : goal.decreases-loop-ticket
decreases-loop-ticket g l = vec_len l.others
