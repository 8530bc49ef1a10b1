use Rattle.std.proofs.Common.{◌≡◌, vec_len, vec_capacity}
use Rattle.xn_kernel.specs.Flushes.{WroteAll}
use Rattle.xn_kernel.proofs.kernel.Kernel.begin_wave.Given as goal

abbrev pub invariant-loop-blocks : goal.invariant-loop-blocks
invariant-loop-blocks g l = record {
  written : WroteAll g.L.Lane.bytes_of g.L.Lane.crash_leaves g.L.Lane.faults_of g.L.Lane.write_gives l.blocks l.fn.self l.tickets.items l.self;
  count : vec_len l.tickets ≡ l.blocks;
  capacity : vec_capacity l.tickets ≡ vec_capacity l.fn.tickets;
}
