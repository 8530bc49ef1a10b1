use Rattle.std.proofs.Common.{◌+◌, ◌≤◌}
use Rattle.xn_model.specs.Rules.{IsIdle}
use Rattle.xn_model.specs.Worlds.{all_pending}
use Rattle.xn_kernel.specs.Drains.{Rounds}
use Rattle.xn_kernel.proofs.kernel.Kernel.drain.Given as goal

abbrev pub invariant-loop-writes : goal.invariant-loop-writes
invariant-loop-writes g l = Rounds g.L.Lane.bytes_of g.L.Lane.faults_of g.L.Lane.write_gives g.L.Lane.sync_gives g.L.Lane.read_gives l.writes l.fn.self l.self
    × IsIdle l.fn.self.state.lives × IsIdle l.self.state.lives × (all_pending l.self.state.lives + l.writes ≤ all_pending l.fn.self.state.lives)
