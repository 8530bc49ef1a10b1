use Rattle.std.proofs.Common.{subst, sym}
use Rattle.dependencies.specs.Typed.{FindsTypes}
use Rattle.xn_state.specs.States.{own_types}
use Rattle.xn_state.specs.declared.state.State.TheInside.{Inside}
use Rattle.xn_state.proofs.Keeping.{state_of}
use Rattle.xn_state.proofs.Typing.{finds_types}
use Rattle.xn_state.proofs.state.State.pick.Goals as goal

pub pick-requires-clause-typed : goal.pick-requires-clause-typed
pick-requires-clause-typed c =
    let state = state_of c.self.inside.lives c.self.inside.next in
    subst (λ (at : Inside). FindsTypes at.lives) (sym c.self-inside.view_is) (finds_types (own_types state) state c.self.invariant.rules)
