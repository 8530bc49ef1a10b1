use Rattle.std.proofs.Common.{ℕ}
use Rattle.shared.specs.Flushers.{GoodTurns}
use Rattle.shared.proofs.flusher.Flusher+Hub+L+K+G.run.Given as goal

abbrev pub invariant-loop : goal.invariant-loop
invariant-loop g l = (turns : ℕ) × GoodTurns g.L.Lane.bytes_of g.L.Lane.crash_leaves g.L.Lane.faults_of g.L.Lane.write_gives g.L.Lane.sync_gives g.L.Lane.read_gives turns l.writes
