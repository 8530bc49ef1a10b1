use Rattle.std.proofs.Common.{inr, subst}
use Rattle.xn_model.specs.Types.{Types}
use Rattle.treefs_session.specs.Tries.{Tries, most_tries}
use Rattle.treefs_session.proofs.session.Session.free_and_make.Goals as goal

pub returns-in-Ok-clause-does : goal.returns-in-Ok-clause-does
returns-in-Ok-clause-does g c =
    let Does = λ (t : Types). g.C.Call.does c.args.call.now t in
    let middle = g.S.Store.state_of c.sync.new.self.store in
    let new = g.S.Store.state_of c.repeat.new.store in
    let between = c.sync.new.self.volume in
    let tries = subst (λ (t : Types). Tries (Does t) t most_tries middle new between c.repeat.new.volume c.repeat.result) c.sync.ensures.types c.repeat.ensures.does in
    inr (middle, between, c.in-Ok.ensures.does, tries)
