use Rattle.std.proofs.Common.{sym, subst}
use Rattle.xn_model.specs.Worlds as model
use Rattle.xn_state.specs.Events.{event_of}
use Rattle.world.proofs.world.is_event.Goals as goal

pub returns-in-Install : goal.returns-in-Install
returns-in-Install c = subst (λ e. model.IsEvent (event_of e)) (sym c.in-Install.is) c.is_whole.ensures
