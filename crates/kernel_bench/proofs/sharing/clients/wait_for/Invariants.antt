use Rattle.std.proofs.Common.{◌≡◌}
use Rattle.kernel_bench.proofs.sharing.clients.wait_for.Given as goal

abbrev pub invariant-loop-look : goal.invariant-loop-look
invariant-loop-look l = l.reader.floor ≡ l.floor
