use Rattle.std.proofs.Common.{◌≡◌, ◌∙◌, ◌+◌, ◌-◌, Err, None, Ok, Some, ap, arith, inl, refl, slice_set, subst, sym}
use Rattle.std.specs.Prelude.{is_some}
use Rattle.std.proofs.lemmas.Result.{err_from_is_err_and}
use Rattle.xn_model.specs.Lives.{Lives, StoreState}
use Rattle.store_types.specs.declared.refusal.Refusal.TheVariants.{NoMemory}
use Rattle.xn_model.specs.Results.{Gives}
use Rattle.xn_model.specs.Root.{with_pointer}
use Rattle.xn_model.specs.Calls.{install_of, latest, root_now}
use Rattle.xn_model.proofs.ForCallers as model
use Rattle.templates.specs.Language.{language}
use Rattle.templates.proofs.ForCallers.{language_ok, none_there}
use Rattle.xn_state.specs.Installs.{install_places, installed_lives}
use Rattle.xn_state.specs.States.{IsStateOf, own_types}
use Rattle.xn_state.proofs.Extended.{done, is_state, left}
use Rattle.xn_state.proofs.Keeping.{state_of}
use Rattle.xn_state.proofs.Newest.{none_from}
use Rattle.xn_state.proofs.Planning.{block_is, numbers_are, place_is, places_refused, refuses_template, room_is, wants_memory}
use Rattle.xn_state.proofs.state.State.install.Goals as goal

pub returns-in_err-place-clause-state : goal.returns-in_err-place-clause-state
returns-in_err-place-clause-state c =
    let state = c.args.self.now in
    let refused = places_refused state c.args.template.now c.in_err-place.field-0.0 (sym c.in_err-place.ensures.places) in
    let p = err_from_is_err_and c.from_residual.result c.from_residual.ensures.1 in
    rw (p.1, p.2) (subst (λ r. Gives r state state (Err c.in_err-place.field-0.0)) (sym refused) (refl, refl))

pub returns-in_err-read-clause-state : goal.returns-in_err-read-clause-state
returns-in_err-read-clause-state c =
    let state = c.args.self.now in
    let p = err_from_is_err_and c.from_residual-in_err-read.result c.from_residual-in_err-read.ensures.1 in
    rw (p.1, p.2) (refuses_template state c.args.template.now (c.in_ok-place.place, c.in_ok-place.block) (sym c.in_ok-place.ensures.places) c.in_err-read.field-0.0 c.in_err-read.ensures)

pub returns-in_err-root-clause-state : goal.returns-in_err-root-clause-state
returns-in_err-root-clause-state c =
    let state = c.args.self.now in
    let p = err_from_is_err_and c.from_residual-in_err-root.result c.from_residual-in_err-root.ensures.1 in
    rw (p.1, p.2, c.in_err-root.ensures.err) (wants_memory state c.args.template.now (c.in_ok-place.place, c.in_ok-place.block) (sym c.in_ok-place.ensures.places)
    (ap is_some (language_ok c.args.template.now c.in_ok-read.read c.in_ok-read.ensures)))

pub install-requires-clause-free : goal.install-requires-clause-free
install-requires-clause-free c =
    let old = state_of c.self.inside.lives c.self.inside.next in
    block_is old c.args.template.now (c.in_ok-place.place, c.in_ok-place.block) (ap install_places c.self.view_is ∙ sym c.in_ok-place.ensures.places)

pub install-requires-clause-room : goal.install-requires-clause-room
install-requires-clause-room c =
    let old = state_of c.self.inside.lives c.self.inside.next in
    room_is old c.args.template.now (c.in_ok-place.place, c.in_ok-place.block) (ap install_places c.self.view_is ∙ sym c.in_ok-place.ensures.places)

pub install-requires-clause-numbers : goal.install-requires-clause-numbers
install-requires-clause-numbers c =
    let old = state_of c.self.inside.lives c.self.inside.next in
    let few = numbers_are old c.args.template.now (c.in_ok-place.place, c.in_ok-place.block) (ap install_places c.self.view_is ∙ sym c.in_ok-place.ensures.places) in
    omega (arith, few)

pub install-requires-clause-fresh : goal.install-requires-clause-fresh
install-requires-clause-fresh c =
    let old = state_of c.self.inside.lives c.self.inside.next in
    λ n b above. none_from (own_types old) old c.self.invariant.rules n b above

pub returns-in_default-clause-state : goal.returns-in_default-clause-state
returns-in_default-clause-state c =
    let old = state_of c.self.inside.lives c.self.inside.next in
    let m = c.args.template.now in
    let places = ap install_places c.self.view_is ∙ sym c.in_ok-place.ensures.places in
    let wants = wants_memory old m (c.in_ok-place.place, c.in_ok-place.block) places (ap is_some (language_ok m c.in_ok-read.read c.in_ok-read.ensures)) in
    let stays = subst (λ (xs : Lives). Gives (install_of language old m) old (state_of xs c.self.inside.next) (Err NoMemory)) (sym c.in_default.ensures.err) wants in
    subst (λ (s : StoreState). Gives (install_of language s m) s (state_of c.install.new.self c.self.inside.next) (Err NoMemory)) c.self.view_is stays

pub put-requires-clause-empty : goal.put-requires-clause-empty
put-requires-clause-empty c =
    let old = state_of c.self.inside.lives c.self.inside.next in
    let place = place_is old c.args.template.now (c.in_ok-place.place, c.in_ok-place.block) (ap install_places c.self.view_is ∙ sym c.in_ok-place.ensures.places) in
    let at = model.place_is (root_now old) c.in_ok-place.place place in
    none_there c.self.inside.table (latest old.lives) c.in_ok-place.place at.0 c.self.invariant.own at.1

pub overflow_add-self : goal.overflow_add-self
overflow_add-self c =
    let old = state_of c.self.inside.lives c.self.inside.next in
    let few = numbers_are old c.args.template.now (c.in_ok-place.place, c.in_ok-place.block) (ap install_places c.self.view_is ∙ sym c.in_ok-place.ensures.places) in
    omega (arith, few)

pub overflow_add-result : goal.overflow_add-result
overflow_add-result c =
    let old = state_of c.self.inside.lives c.self.inside.next in
    let few = numbers_are old c.args.template.now (c.in_ok-place.place, c.in_ok-place.block) (ap install_places c.self.view_is ∙ sym c.in_ok-place.ensures.places) in
    omega (arith, few, c.number.view_is)

pub invariant_of-self-2 : goal.invariant_of-self-2
invariant_of-self-2 c =
    let old = state_of c.self.inside.lives c.self.inside.next in
    let m = c.args.template.now in
    let place = c.in_ok-place.place in
    let block = c.in_ok-place.block in
    let read = c.in_ok-read.read in
    let places = ap install_places c.self.view_is ∙ sym c.in_ok-place.ensures.places in
    let root = c.in_ok-root.ensures.bytes ∙ ap (λ (s : StoreState). with_pointer (root_now s) place block) (sym c.self.view_is) in
    let table = c.put.ensures ∙ ap (λ k. slice_set c.self.inside.table k (Some read)) (let back : 3 + place - 3 ≡ place = omega arith in back) in
    let sets = c.set-2.ensures ∙ ap (λ xs. slice_set xs 0 None) c.set.ensures in
    let lives = c.in-Ok.ensures.ok ∙ ap (installed_lives c.self.inside.lives block c.self.inside.next m) root in
    let new = ap (λ (xs : Lives). state_of xs (c.self.inside.next + 2)) lives ∙ left old c.self.invariant.rules m c.told-template (place, block) places read c.in_ok-read.ensures in
    let is = is_state old c.self.invariant.rules m c.told-template (place, block) places read c.in_ok-read.ensures c.self.inside.table c.self.inside.reads c.rules.ensures.places c.self.invariant in
    rw (table, sets) (subst (IsStateOf (slice_set c.self.inside.table place (Some read)) (slice_set (slice_set c.self.inside.reads block None) 0 None)) (sym new) is)

pub returns-clause-state : goal.returns-clause-state
returns-clause-state c =
    let old = state_of c.self.inside.lives c.self.inside.next in
    let m = c.args.template.now in
    let place = c.in_ok-place.place in
    let block = c.in_ok-place.block in
    let read = c.in_ok-read.read in
    let places = ap install_places c.self.view_is ∙ sym c.in_ok-place.ensures.places in
    let root = c.in_ok-root.ensures.bytes ∙ ap (λ (s : StoreState). with_pointer (root_now s) place block) (sym c.self.view_is) in
    let lives = c.in-Ok.ensures.ok ∙ ap (installed_lives c.self.inside.lives block c.self.inside.next m) root in
    let new = ap (λ (xs : Lives). state_of xs (c.self.inside.next + 2)) lives ∙ left old c.self.invariant.rules m c.told-template (place, block) places read c.in_ok-read.ensures in
    let call = done old c.self.invariant.rules m c.told-template (place, block) places read c.in_ok-read.ensures in
    let gives = subst (λ r. Gives r old (state_of c.install.new.self (c.self.inside.next + 2)) (Ok (3 + place, block, c.self.inside.next))) (sym call) (inl (refl, new)) in
    subst (λ (s : StoreState). Gives (install_of language s m) s (state_of c.install.new.self (c.self.inside.next + 2)) (Ok (3 + place, block, c.self.inside.next))) c.self.view_is gives
