use Rattle.std.proofs.Common.{inr, subst}
use Rattle.xn_model.specs.Types.{Types}
use Rattle.treefs_session.specs.Freeing.{Writes}
use Rattle.treefs_session.proofs.session.Session.reap_and_write.Goals as goal

pub returns-clause-does : goal.returns-clause-does
returns-clause-does g c =
    let middle = g.S.Store.state_of c.repeat.new.store in
    let new = g.S.Store.state_of c.repeat-2.new.store in
    let between = c.repeat.new.volume in
    let writes = subst (λ (t : Types). Writes t middle new between c.repeat-2.new.volume c.repeat-2.result) c.repeat.ensures.types c.repeat-2.ensures.does in
    inr (middle, between, c.in_default.ensures.does, writes)
