use Rattle.std.proofs.Common.{◌≡◌}
use Rattle.kernel_bench.proofs.sharing.clients.Client.work.Given as goal

abbrev pub invariant-loop-count : goal.invariant-loop-count
invariant-loop-count g l = l.reader.floor ≡ g.K.Naming.floor
