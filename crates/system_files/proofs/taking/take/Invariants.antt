use Rattle.system_files.specs.Calls.{Looked}
use Rattle.system_files.proofs.taking.take.Given as goal

abbrev pub invariant-loop : goal.invariant-loop
invariant-loop g l = Looked (g.Y.System.calls l.fn.system) (g.Y.System.calls l.system)
