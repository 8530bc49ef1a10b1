use Rattle.std.proofs.Common.{◌≡◌, ◌∙◌, ℕ, List, Ok, Err, refl, sym, subst, inr}
use Rattle.std.proofs.lemmas.Result.{err_from_is_err_and}
use Rattle.store_types.specs.declared.refusal.Refusal.TheVariants.{NoMemory}
use Rattle.xn_model.specs.Results.{Gives}
use Rattle.xn_model.specs.Lives.{StoreState, life_at}
use Rattle.xn_model.specs.Calls.{Edit, accepts, life_bytes, patched}
use Rattle.xn_state.specs.States.{own_types}
use Rattle.xn_state.specs.Proposals.{accepted_entry}
use Rattle.xn_state.proofs.Proposing.{edit_made, edit_refused, edit_continues}
use Rattle.xn_state.proofs.Claiming.{edit_claims}
use Rattle.xn_state.proofs.state.State.propose.Goals as goal

abbrev left_by : StoreState → ℕ → Edit → List ℕ
left_by state b edit = patched (life_bytes (life_at state.lives b)) edit.patches

pub returns-in_err-reads : goal.returns-in_err-reads
returns-in_err-reads c =
    let store = c.args.self.now in
    let refused = edit_refused (own_types c.args.self.now) store c.args.fs.number c.args.block c.args.edit.now c.in_err-reads.field-0.0 (sym c.in_err-reads.ensures.plan) in
    let p = err_from_is_err_and c.from_residual.result c.from_residual.ensures.1 in
    record { state = rw (p.1, p.2) (subst (λ r. Gives r store store (Err c.in_err-reads.field-0.0)) (sym refused) (refl, refl)) }

pub accept-requires-clause-continues : goal.accept-requires-clause-continues
accept-requires-clause-continues c =
    let state = c.args.self.now in
    let edit = c.args.edit.now in
    rw (c.adds.ensures, c.drops.ensures, c.after.ensures) (edit_continues state c.args.fs.number c.args.block edit (left_by c.args.self.now c.args.block c.args.edit.now) c.proposed.ensures.rules (sym c.in_ok-reads.ensures.plan))

pub returns : goal.returns
returns c =
    let state = c.args.self.now in
    let edit = c.args.edit.now in
    let made = edit_made (own_types state) state c.args.fs.number c.args.block edit (left_by c.args.self.now c.args.block c.args.edit.now) (sym c.in_ok-reads.ensures.plan) in
    let same : Ok (accepts state c.args.block (accepted_entry state c.args.fs.number (left_by c.args.self.now c.args.block c.args.edit.now) c.adds.result.now c.drops.result.now c.after.result))
    ≡ Ok (accepts state c.args.block (accepted_entry state c.args.fs.number (left_by c.args.self.now c.args.block c.args.edit.now) edit.adds edit.drops edit.after)) = λ i. Ok (accepts state c.args.block (accepted_entry state c.args.fs.number (left_by c.args.self.now c.args.block c.args.edit.now) (c.adds.ensures i) (c.drops.ensures i) (c.after.ensures i))) in
    record { state = subst (λ r. Gives r state c.accept.new.self c.accept.result) (same ∙ sym made) c.accept.ensures.state }

pub returns-in_err-undo : goal.returns-in_err-undo
returns-in_err-undo c =
    let state = c.args.self.now in
    let made = edit_made (own_types state) state c.args.fs.number c.args.block c.args.edit.now (left_by c.args.self.now c.args.block c.args.edit.now) (sym c.in_ok-reads.ensures.plan) in
    let p = err_from_is_err_and c.from_residual-in_err-undo.result c.from_residual-in_err-undo.ensures.1 in
    record { state = rw (p.1, p.2, c.in_err-undo.ensures.err) (subst (λ r. Gives r state state (Err NoMemory)) (sym made) (inr (refl, refl))) }

pub accept-requires-clause-claims : goal.accept-requires-clause-claims
accept-requires-clause-claims c =
    let state = c.args.self.now in
    rw (c.adds.ensures, c.drops.ensures) (edit_claims (own_types state) state c.args.fs.number c.args.block c.args.edit.now (left_by c.args.self.now c.args.block c.args.edit.now) (sym c.in_ok-reads.ensures.plan))
