use Rattle.std.proofs.Common.{◌≡◌, [], ◌∷◌}
use Rattle.xn_model.specs.Lives.{StoreState}
use Rattle.treefs_session.specs.Values.{Volume}
use Rattle.treefs_session.specs.Freeing.{MakesFreely}
use Rattle.tree_lines.proofs.Answered.{answers_at}
use Rattle.tree_lines.proofs.opened.Opened.make_name.Goals as goal

pub returns-clause-does : goal.returns-clause-does
returns-clause-does g c =
    let self = c.args.self.now in
    let T = g.S.Store.types_of self.session.store in
    let old = g.S.Store.state_of self.session.store in
    let after = c.make-answer.new.self in
    let told = c.answered.new.self.session in
    let state_is : g.S.Store.state_of told.store ≡ g.S.Store.state_of after.store = rw c.answered.ensures.session in
    let volume_is : told.volume ≡ after.volume = rw c.answered.ensures.session in
    answers_at (λ (new : StoreState) (volume : Volume).
    MakesFreely (g.C.Call.does c.args.call.now T) T (self.folder ∷ []) old new self.session.volume volume) (g.S.Store.state_of after.store)
    (g.S.Store.state_of told.store) after.volume told.volume c.make-answer.result c.answered.result state_is volume_is c.make-answer.ensures.does
    c.answered.ensures.answer
