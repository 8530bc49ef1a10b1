use Rattle.std.proofs.Common.{vec_len}
use Rattle.flush_store.proofs.flushing.waves_of.Given as goal

abbrev pub decreases-loop-ticket : goal.decreases-loop-ticket
decreases-loop-ticket g l = vec_len l.tickets
