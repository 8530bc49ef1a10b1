use Rattle.std.proofs.Common.{◌≡◌, ◌∙◌, Ok, Some, ap, subst, sym}
use Rattle.std.proofs.lemmas.Result.{err_from_is_err_and}
use Rattle.std.specs.Prelude.{IsTrue, option_map}
use Rattle.xn_model.specs.Lives.{Lives, StoreState, current, life_at}
use Rattle.xn_model.specs.Calls.{patched}
use Rattle.block_cache.specs.declared.life.Facts.{Facts}
use Rattle.xn_state.proofs.Proposing.{newest_bytes}
use Rattle.xn_state.specs.States.{own_types}
use Rattle.xn_state.specs.Proposals.{edited_with, proposed_of}
use Rattle.xn_state.proofs.Keeping.{state_of}
use Rattle.xn_state.proofs.Forgetting.{own_installed}
use Rattle.xn_state.proofs.Claiming.{proposed_is}
use Rattle.xn_state.proofs.state.State.proposed.Goals as goal

pub edited-requires-clause-installed : goal.edited-requires-clause-installed
edited-requires-clause-installed c =
    let state = state_of c.self.inside.lives c.self.inside.next in
    let installed = own_installed (own_types state) state c.args.fs.number c.args.block c.in_ok-life.life c.self.invariant.rules (sym c.in_ok-life.ensures.own) in
    let same = ap (λ (f : Facts). f.ty) c.facts.ensures.facts in
    subst (λ (s : StoreState). IsTrue ((own_types s).installed c.facts.result.ty)) c.self.view_is (subst (λ t. IsTrue ((own_types state).installed t)) (sym same) installed)

pub returns-in_err-reads-clause-plan : goal.returns-in_err-reads-clause-plan
returns-in_err-reads-clause-plan c =
    let fs = c.args.fs.number in
    let block = c.args.block in
    let edit = c.args.edit.now in
    let facts = c.facts.result in
    let old = c.current-old.result.now in
    let state = state_of c.self.inside.lives c.self.inside.next in
    let inside = proposed_is (own_types state) state fs block edit c.in_ok-life.life facts old c.self.invariant.rules (sym c.in_ok-life.ensures.own) c.facts.ensures.facts c.current-old.ensures in
    let p = err_from_is_err_and c.from_residual-in_err-reads.result c.from_residual-in_err-reads.ensures.1 in
    rw (p.1, p.2) (
    c.in_err-reads.ensures.plan
    ∙ subst (λ (s : StoreState). edited_with (own_types s) s fs block edit facts old ≡ proposed_of (own_types s) s fs block edit) c.self.view_is inside)

pub returns-clause-plan : goal.returns-clause-plan
returns-clause-plan c =
    let fs = c.args.fs.number in
    let block = c.args.block in
    let edit = c.args.edit.now in
    let facts = c.facts.result in
    let old = c.current-old.result.now in
    let state = state_of c.self.inside.lives c.self.inside.next in
    let inside = proposed_is (own_types state) state fs block edit c.in_ok-life.life facts old c.self.invariant.rules (sym c.in_ok-life.ensures.own) c.facts.ensures.facts c.current-old.ensures in
    let there = ap (λ m. Some m) c.current-old.ensures ∙ sym (ap (option_map current) c.in_ok-life.ensures.alive) in
    let same = newest_bytes c.args.self.now.lives block old (there ∙ ap (λ (ls : Lives). option_map current (life_at ls block)) (ap (λ (s : StoreState). s.lives) c.self.view_is)) in
    ap (λ m. Ok (patched m edit.patches)) same
    ∙ (c.in_ok-reads.ensures.plan
    ∙ subst (λ (s : StoreState). edited_with (own_types s) s fs block edit facts old ≡ proposed_of (own_types s) s fs block edit) c.self.view_is inside)
