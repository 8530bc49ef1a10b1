use Rattle.std.proofs.Common.{◌≡◌, ℕ, ◌<◌, None, length}
use Rattle.world.specs.Disks.{ticket_at}
use Rattle.world.proofs.Returns.{IsBack}
use Rattle.world.proofs.unmounted.take_lanes_back.Given as goal

abbrev pub invariant-loop-block : goal.invariant-loop-block
invariant-loop-block g l = IsBack l.initial.lanes l.initial.tickets l.lanes l.tickets × ((c : ℕ) → c < l.block → ticket_at l.tickets c ≡ None) × (length l.tickets ≡ l.block-end)
