use Rattle.std.proofs.Common.{take}
use Rattle.std.specs.Prelude.{All}
use Rattle.claims.specs.Decided.{WritesApart}
use Rattle.claims.proofs.read_sets.are_apart.Given as goal

abbrev pub invariant-loop-patch : goal.invariant-loop-patch
invariant-loop-patch l = All (WritesApart l.reads.chunks) (take l.patch-index l.patches)
