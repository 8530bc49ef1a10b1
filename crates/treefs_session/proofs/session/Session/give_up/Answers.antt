use Rattle.std.proofs.Common.{Bool, Ok, inl, inr, refl, subst}
use Rattle.xn_model.specs.Types.{Types}
use Rattle.treefs_session.specs.Freeing.{GivesUpAgain, GivesUpOnce}
use Rattle.treefs_session.proofs.session.Session.give_up.Goals as goal

pub returns-in-Ok-true-clause-does : goal.returns-in-Ok-true-clause-does
returns-in-Ok-true-clause-does g c =
    let T = g.S.Store.types_of c.args.self.now.store in
    let old = g.S.Store.state_of c.args.self.now.store in
    let new = g.S.Store.state_of c.repeat.new.store in
    inl (refl, subst (λ (b : Bool). GivesUpOnce T c.args.block old new c.args.self.now.volume c.repeat.new.volume (Ok b)) c.in-Ok-true.field-0-test c.in-Ok-true.ensures.does)

pub returns-in-Ok-false-clause-does : goal.returns-in-Ok-false-clause-does
returns-in-Ok-false-clause-does g c =
    let T = g.S.Store.types_of c.args.self.now.store in
    let old = g.S.Store.state_of c.args.self.now.store in
    let middle = g.S.Store.state_of c.repeat.new.store in
    let new = g.S.Store.state_of c.write_and_give_up.new.self.store in
    let between = c.repeat.new.volume in
    let first = subst (λ (b : Bool). GivesUpOnce T c.args.block old middle c.args.self.now.volume between (Ok b)) c.in-Ok-false.field-0-test c.in-Ok-false.ensures.does in
    let again = subst (λ (t : Types). GivesUpAgain t c.args.block middle new between c.write_and_give_up.new.self.volume c.write_and_give_up.result) c.repeat.ensures.types c.write_and_give_up.ensures.does in
    inr (middle, between, first, again)
