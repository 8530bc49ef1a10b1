use Rattle.std.proofs.Common.{subst, sym}
use Rattle.xn_model.specs.Lives.{Lives}
use Rattle.dependencies.specs.Typed.{FindsTypes}
use Rattle.xn_state.specs.States.{own_types}
use Rattle.xn_state.proofs.Keeping.{state_of}
use Rattle.xn_state.proofs.Typing.{finds_types}
use Rattle.xn_state.proofs.state.State.begun_count.Goals as goal

pub safe_prefix-count-requires-clause-typed : goal.safe_prefix-count-requires-clause-typed
safe_prefix-count-requires-clause-typed c =
    let state = state_of c.self.inside.lives c.self.inside.next in
    subst (λ (lives : Lives). FindsTypes lives) (sym c.lives.view_is) (finds_types (own_types state) state c.self.invariant.rules)
