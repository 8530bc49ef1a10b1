use Rattle.std.proofs.Common.{◌∙◌, inr, subst, sym}
use Rattle.xn_model.specs.Types.{Types}
use Rattle.treefs_session.specs.Freeing.{FreesAndTries}
use Rattle.treefs_session.proofs.session.Session.make.Goals as goal

pub returns-then-lacks_space-clause-does : goal.returns-then-lacks_space-clause-does
returns-then-lacks_space-clause-does g c =
    let Does = λ (t : Types). g.C.Call.does c.args.call.now t in
    let middle = g.S.Store.state_of c.repeat.new.store in
    let new = g.S.Store.state_of c.free_and_make.new.self.store in
    let between = c.repeat.new.volume in
    let frees = subst (λ (t : Types). FreesAndTries (Does t) t c.args.held.now middle new between c.free_and_make.new.self.volume c.free_and_make.result) c.repeat.ensures.types c.free_and_make.ensures.does in
    inr (c.in-Err.fault, middle, between, c.in-Err.ensures.does, sym c.lacks_space.ensures ∙ c.if-lacks_space.true, frees)
