use Rattle.std.proofs.Common.{◌∙◌, ◌+◌, None, Some, ap, slice_set, sym}
use Rattle.xn_model.specs.Lives.{StoreState, lowest_free}
use Rattle.xn_model.specs.Calls.{init_refusal, new_life}
use Rattle.xn_state.specs.States.{own_types}
use Rattle.claims.proofs.ForCallers.{started_decided}
use Rattle.xn_state.proofs.Keeping.{continues, goes_on, started_keeps, state_of}
use Rattle.xn_state.proofs.Newest.{none_next}
use Rattle.xn_state.proofs.state.State.init.Goals as goal

pub invariant_of-self-2 : goal.invariant_of-self-2
invariant_of-self-2 c =
    let lives = c.self.inside.lives in
    let next = c.self.inside.next in
    let old = state_of lives next in
    let T = own_types old in
    let block = c.in-Some-lowest_free.block in
    let fs = c.args.fs.number in
    let allowed = ap (λ (s : StoreState). init_refusal (own_types s) s fs c.args.ty c.args.bytes.now) c.self.view_is ∙ sym c.in_default.ensures in
    let least = c.in-Some-lowest_free.ensures c.lives.inside.cache c.lives.invariant.1 ∙ ap lowest_free c.lives.view_is in
    let kept = started_keeps T lives next fs c.args.ty c.args.bytes.now block c.self.invariant.rules allowed (sym least) in
    let decided = started_decided T c.self.inside.reads lives block next (Some fs) c.args.ty c.args.bytes.now c.self.invariant.decided in
    let new = state_of (slice_set lives block (Some (new_life next (Some fs) c.args.ty c.args.bytes.now))) (next + 1) in
    rw (c.set.ensures, c.in-Ok.ensures.ok) (goes_on c.self.inside.table c.self.inside.reads (slice_set c.self.inside.reads block None) old new c.self.invariant (continues old new kept) decided)

pub start-requires-clause-fresh : goal.start-requires-clause-fresh
start-requires-clause-fresh c = none_next (own_types (state_of c.self.inside.lives c.self.inside.next)) (state_of c.self.inside.lives c.self.inside.next) c.self.invariant.rules
