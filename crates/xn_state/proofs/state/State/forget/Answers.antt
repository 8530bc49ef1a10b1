use Rattle.std.proofs.Common.{◌∙◌, Err, None, ap, sym, slice_set, subst, refl}
use Rattle.std.proofs.lemmas.Result.{err_from_is_err_and}
use Rattle.xn_model.specs.Lives.{Lives, StoreState}
use Rattle.xn_model.specs.Results.{GivesExactly}
use Rattle.xn_state.specs.States.{IsStateOf, own_types}
use Rattle.xn_state.specs.Forgets.{forget_plan}
use Rattle.claims.proofs.ForCallers.{ended_decided}
use Rattle.xn_state.proofs.Keeping.{continues, goes_on, state_of}
use Rattle.xn_state.proofs.Forgetting.{forget_refused, forgotten_keeps}
use Rattle.xn_state.proofs.state.State.forget.Goals as goal

pub returns-in_err-forgettable : goal.returns-in_err-forgettable
returns-in_err-forgettable c =
    let store = c.args.self.now in
    let refused = forget_refused (own_types store) store c.args.fs.number c.args.block c.in_err-forgettable.field-0.0 (sym c.in_err-forgettable.ensures) in
    let p = err_from_is_err_and c.from_residual.result c.from_residual.ensures.1 in
    record { state = rw (p.1, p.2) (subst (λ r. GivesExactly r store store (Err c.in_err-forgettable.field-0.0)) (sym refused) (refl, refl)) }

pub invariant_of-self : goal.invariant_of-self
invariant_of-self c =
    let lives = c.self.inside.lives in
    let old = state_of lives c.self.inside.next in
    let new = state_of (slice_set lives c.args.block None) c.self.inside.next in
    let plan = ap (λ (s : StoreState). forget_plan (own_types s) s c.args.fs.number c.args.block) c.self.view_is ∙ sym c.in_ok-forgettable.ensures in
    let kept = forgotten_keeps (own_types old) lives c.self.inside.next c.args.fs.number c.args.block c.in_ok-forgettable.field-0 c.self.invariant.rules plan in
    let decided = ended_decided (own_types old) c.self.inside.reads lives c.args.block c.self.invariant.decided in
    subst (λ (xs : Lives). IsStateOf c.self.inside.table c.self.inside.reads (state_of xs c.self.inside.next)) (sym c.forget.ensures)
    (goes_on c.self.inside.table c.self.inside.reads c.self.inside.reads old new c.self.invariant (continues old new kept) decided)
