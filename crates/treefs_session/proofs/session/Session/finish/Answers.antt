use Rattle.std.proofs.Common.{subst}
use Rattle.xn_model.specs.Types.{Types}
use Rattle.treefs_session.specs.Freeing.{GivesUp}
use Rattle.treefs_session.proofs.session.Session.finish.Goals as goal

pub returns-in-Err-clause-does : goal.returns-in-Err-clause-does
returns-in-Err-clause-does g c =
    let middle = g.S.Store.state_of c.write_and_name.new.self.store in
    let new = g.S.Store.state_of c.give_up-given_up.new.self.store in
    let between = c.write_and_name.new.self.volume in
    let given = c.give_up-given_up.result in
    let gives = subst (λ (t : Types). GivesUp t c.args.block middle new between c.give_up-given_up.new.self.volume given) c.write_and_name.ensures.types c.give_up-given_up.ensures.does in
    (middle, between, given, c.in-Err.ensures.does, gives)
