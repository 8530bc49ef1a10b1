use Rattle.std.proofs.Common.{◌≡◌, length}
use Rattle.xnfs_session.proofs.stopping.Stop.lanes.Given as goal

abbrev pub invariant-loop-block : goal.invariant-loop-block
invariant-loop-block g l = length l.lanes ≡ l.blocks
