use Rattle.std.proofs.Common.{◌≡◌}
use Rattle.std.specs.Prelude.{All}
use Rattle.kernel_bench.proofs.sharing.scene.clients_of.Given as goal

abbrev pub invariant-loop-number : goal.invariant-loop-number
invariant-loop-number g l = All (λ reader. reader.floor ≡ g.K.Naming.floor) l.readers.items
