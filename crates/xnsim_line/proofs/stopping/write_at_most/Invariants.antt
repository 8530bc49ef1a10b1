use Rattle.std.proofs.Common.{◌≡◌, ◌-◌, false}
use Rattle.xn_model.specs.Worlds.{drain_for}
use Rattle.world.specs.Worlds.{world_with}
use Rattle.xnsim_line.proofs.stopping.write_at_most.Given as goal

-- the rounds that are left, of the world that is reached
abbrev pub invariant-loop-writes : goal.invariant-loop-writes
invariant-loop-writes g l =
    (drain_for l.fn.limit 0 (world_with l.fn.world) ≡ drain_for (l.fn.limit - l.writes) l.writes (world_with l.world)) × (l.world.down ≡ false)
