use Rattle.std.proofs.Common.{take}
use Rattle.std.specs.Prelude.{All}
use Rattle.xn_model.specs.Worlds as model
use Rattle.xn_state.specs.Events.{event_of}
use Rattle.world.proofs.world.are_events.Given as goal

abbrev pub invariant-loop-at : goal.invariant-loop-at
invariant-loop-at l = All (λ e. model.IsEvent (event_of e)) (take l.at l.events)
