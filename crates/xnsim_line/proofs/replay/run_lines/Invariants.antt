use Rattle.world.specs.Worlds.{world_with}
use Rattle.xnsim_line.proofs.ScriptRuns.{IsLinesRun}
use Rattle.xnsim_line.proofs.replay.run_lines.Given as goal

abbrev pub invariant-loop-line : goal.invariant-loop-line
invariant-loop-line g l = IsLinesRun (world_with l.fn.world) l.yielded (g.W.Write.contents l.fn.out) (g.W.Write.contents l.out) (world_with l.world)
