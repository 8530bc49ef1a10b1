use Rattle.std.proofs.Common.{inr, subst}
use Rattle.xn_model.specs.Types.{Types}
use Rattle.treefs_session.specs.Freeing.{GivesUpOnce}
use Rattle.treefs_session.proofs.session.Session.write_and_give_up.Goals as goal

pub returns-in-Ok-clause-does : goal.returns-in-Ok-clause-does
returns-in-Ok-clause-does g c =
    let middle = g.S.Store.state_of c.repeat.new.store in
    let new = g.S.Store.state_of c.repeat-in-Ok.new.store in
    let between = c.repeat.new.volume in
    let gives = subst (λ (t : Types). GivesUpOnce t c.args.block middle new between c.repeat-in-Ok.new.volume c.repeat-in-Ok.result) c.repeat.ensures.types c.repeat-in-Ok.ensures.does in
    inr (middle, between, c.in-Ok.ensures.does, gives)
