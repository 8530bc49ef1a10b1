use Rattle.std.proofs.Common.{◌∙◌, ℕ, List, inr, subst}
use Rattle.treefs_session.specs.Freeing.{ReapsAndWrites}
use Rattle.treefs_session.proofs.session.Session.sync.Goals as goal

pub returns-in-Ok-clause-does : goal.returns-in-Ok-clause-does
returns-in-Ok-clause-does g c =
    let T = g.S.Store.types_of c.args.self.now.store in
    let old = g.S.Store.state_of c.args.self.now.store in
    let new = g.S.Store.state_of c.reap_and_write.new.self.store in
    let volume = c.args.self.now.volume in
    let numbers = c.deref.ensures.value ∙ c.in-Ok.ensures in
    inr (subst (λ (n : List ℕ). ReapsAndWrites T n old new volume c.reap_and_write.new.self.volume c.reap_and_write.result) numbers c.reap_and_write.ensures.does)
