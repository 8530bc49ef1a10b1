use Rattle.std.proofs.Common.{◌≡◌, ◌∙◌, List, ℕ, ap, nat_eq, subst, sym, true}
use Rattle.std.specs.Prelude.{is_some}
use Rattle.xn_model.specs.Calls.{is_empty}
use Rattle.xn_model.specs.Lives.{Life, Lives, StoreState, life_at}
use Rattle.claims.specs.Owned.{AreOwnedCounts}
use Rattle.xn_state.specs.States.{own_types}
use Rattle.xn_state.proofs.Claiming.{counted_empty}
use Rattle.xn_state.proofs.Keeping.{state_of}
use Rattle.xn_state.proofs.state.State.is_empty.Goals as goal

pub returns-then-is_some : goal.returns-then-is_some
returns-then-is_some c =
    let state = state_of c.self.inside.lives c.self.inside.next in
    let counted = subst (λ (lives : Lives). AreOwnedCounts c.lives.inside.owned lives) c.lives.view_is c.lives.invariant.0 in
    let some = ap (λ (lives : Lives). is_some (life_at lives c.args.block)) (sym c.lives.view_is) ∙ (ap (λ o. is_some o) (sym c.live.ensures) ∙ (sym c.is_some.ensures ∙ c.if-is_some.true)) in
    ap (λ n. nat_eq n 0) c.count.ensures
    ∙ (counted_empty (own_types state) state c.lives.inside.owned c.args.block c.self.invariant.rules counted some
    ∙ ap (λ (s : StoreState). is_empty (own_types s) s c.args.block) c.self.view_is)
