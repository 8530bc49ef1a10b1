use Rattle.system_files.specs.Calls.{MakesNone}
use Rattle.system_files.proofs.replacing.make_beside.Given as goal

abbrev pub invariant-loop-number : goal.invariant-loop-number
invariant-loop-number g l = MakesNone (g.Y.System.calls l.fn.system) (g.Y.System.calls l.system)
