use Rattle.std.proofs.Common.{◌∙◌, ℕ, List, Err, refl, sym, ap, subst, inr}
use Rattle.std.proofs.lemmas.Result.{err_from_is_err_and}
use Rattle.store_types.specs.declared.refusal.Refusal.TheVariants.{NoMemory}
use Rattle.xn_model.specs.Results.{Gives}
use Rattle.xn_model.specs.Calls.{patched}
use Rattle.xn_state.specs.States.{own_types}
use Rattle.xn_state.proofs.Keeping.{drop_refused, empty_slot_bytes, root_dropped, dropped_continues}
use Rattle.xn_state.proofs.Claiming.{drop_claims}
use Rattle.xn_state.proofs.state.State.drop_root.Goals as goal

pub returns-in_err-bytes : goal.returns-in_err-bytes
returns-in_err-bytes c =
    let store = c.args.self.now in
    let refused = drop_refused (own_types c.args.self.now) c.args.self.now c.args.fs.number c.in_err-bytes.field-0.0 (sym c.in_err-bytes.ensures.plan) in
    let p = err_from_is_err_and c.from_residual.result c.from_residual.ensures.1 in
    record { state = rw (p.1, p.2) (subst (λ r. Gives r store store (Err c.in_err-bytes.field-0.0)) (sym refused) (refl, refl)) }

pub accept-requires-clause-continues : goal.accept-requires-clause-continues
accept-requires-clause-continues c = dropped_continues c.args.self.now c.args.fs.number (c.in_ok-bytes.bytes, c.in_ok-bytes.block) c.drop_root_plan.ensures.rules c.args.fs.few (sym c.in_ok-bytes.ensures.plan)

pub returns : goal.returns
returns c =
    let store = c.args.self.now in
    let made = root_dropped (own_types c.args.self.now) c.args.self.now c.args.fs.number (c.in_ok-bytes.bytes, c.in_ok-bytes.block) (sym c.in_ok-bytes.ensures.plan) in
    record { state = subst (λ r. Gives r store c.accept.new.self c.accept.result) (sym made) c.accept.ensures.state }

pub returns-in_err-undo : goal.returns-in_err-undo
returns-in_err-undo c =
    let store = c.args.self.now in
    let made = root_dropped (own_types c.args.self.now) store c.args.fs.number (c.in_ok-bytes.bytes, c.in_ok-bytes.block) (sym c.in_ok-bytes.ensures.plan) in
    let p = err_from_is_err_and c.from_residual-in_err-undo.result c.from_residual-in_err-undo.ensures.1 in
    record { state = rw (p.1, p.2, c.in_err-undo.ensures.err) (subst (λ r. Gives r store store (Err NoMemory)) (sym made) (inr (refl, refl))) }

pub accept-requires-clause-undoes : goal.accept-requires-clause-undoes
accept-requires-clause-undoes c =
    let is = empty_slot_bytes (own_types c.args.self.now) c.args.self.now c.args.fs.number (c.in_ok-bytes.bytes, c.in_ok-bytes.block) (sym c.in_ok-bytes.ensures.plan) in
    ap (λ (m : List ℕ). patched m c.in_ok-undo.undo) is ∙ c.in_ok-undo.ensures.ok (0, 0)

pub accept-requires-clause-claims : goal.accept-requires-clause-claims
accept-requires-clause-claims c =
    drop_claims (own_types c.args.self.now) c.args.self.now c.args.fs.number (c.in_ok-bytes.bytes, c.in_ok-bytes.block) c.drop_root_plan.ensures.rules c.args.fs.few (sym c.in_ok-bytes.ensures.plan)
