use Rattle.std.proofs.Common.{◌≡◌, ◌≤◌, map, take, vec_len}
use Rattle.std.specs.Vec.{vec_capacity}
use Rattle.xn_model.specs.Worlds.{Run}
use Rattle.xn_model.specs.Rules.{Holds}
use Rattle.xn_state.specs.Events.{event_of, reply_of}
use Rattle.world.specs.Worlds.{world_with}
use Rattle.world.proofs.world.World.run.Given as goal

abbrev pub invariant-loop-at : goal.invariant-loop-at
invariant-loop-at g l = Run (world_with l.fn.self) (map event_of (take l.at l.events)) (map reply_of l.replies.items) (world_with l.self)
    × Holds (world_with l.self) × (vec_len l.replies ≡ l.at) × (l.at-end ≤ vec_capacity l.replies)
