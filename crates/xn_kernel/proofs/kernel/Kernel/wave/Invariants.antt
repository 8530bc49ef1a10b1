use Rattle.std.proofs.Common.{◌≡◌, ◌+◌, ◌≤◌, vec_len, vec_capacity}
use Rattle.xn_kernel.proofs.WaveWrites.{Ending}
use Rattle.xn_kernel.proofs.kernel.Kernel.wave.Given as goal

abbrev pub invariant-loop-ended : goal.invariant-loop-ended
invariant-loop-ended g l = record {
  ending : Ending g.L.Lane.bytes_of g.L.Lane.crash_leaves g.L.Lane.faults_of g.L.Lane.write_gives g.L.Lane.sync_gives g.L.Lane.read_gives l.blocks l.fn.self l.ended l.durable l.self l.tickets.items;
  within : l.durable ≤ l.ended;
  most : vec_len l.tickets + l.durable ≤ l.blocks;
  least : l.blocks ≤ vec_len l.tickets + l.ended;
  capacity : vec_capacity l.tickets ≡ vec_capacity l.fn.tickets;
}
