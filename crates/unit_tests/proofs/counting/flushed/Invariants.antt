use Rattle.std.proofs.Common.{vec_len}
use Rattle.unit_tests.proofs.counting.flushed.Given as goal

abbrev pub decreases-loop-ticket : goal.decreases-loop-ticket
decreases-loop-ticket l = vec_len l.tickets
