use Rattle.std.proofs.Common.{◌≡◌, ◌+◌, ◌≤◌, vec_len, vec_capacity}
use Rattle.xn_model.specs.Rules.{IsIdle}
use Rattle.xn_model.specs.Worlds.{all_pending}
use Rattle.xn_kernel.specs.Flushes.{Waves}
use Rattle.xn_kernel.proofs.kernel.Kernel.flush_waves.Given as goal

abbrev pub invariant-loop-waves : goal.invariant-loop-waves
invariant-loop-waves g l = record {
  done : Waves g.L.Lane.bytes_of g.L.Lane.faults_of g.L.Lane.write_gives g.L.Lane.sync_gives g.L.Lane.read_gives l.waves l.fn.self l.self;
  was_idle : IsIdle l.fn.self.state.lives;
  idle : IsIdle l.self.state.lives;
  few : all_pending l.self.state.lives + l.waves ≤ all_pending l.fn.self.state.lives;
  empty : vec_len l.tickets ≡ 0;
  room : l.room ≤ vec_capacity l.tickets;
}
