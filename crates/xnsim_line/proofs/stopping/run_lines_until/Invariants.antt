use Rattle.world.specs.Worlds.{world_with}
use Rattle.xnsim_line.proofs.StoppedRuns.{AreLinesWithin}
use Rattle.xnsim_line.proofs.stopping.run_lines_until.Given as goal

abbrev pub invariant-loop-line : goal.invariant-loop-line
invariant-loop-line g l = AreLinesWithin (world_with l.fn.world) l.yielded l.fn.stop.writes (g.W.Write.contents l.fn.out) (g.W.Write.contents l.out) (world_with l.world) l.left
