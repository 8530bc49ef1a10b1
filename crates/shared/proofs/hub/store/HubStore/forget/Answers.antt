use Rattle.xn_state.specs.States.{own_types}
use Rattle.shared.proofs.Keeping.{forget_below}
use Rattle.shared.proofs.hub.store.HubStore.forget.Goals as goal

pub invariant_of-self : goal.invariant_of-self
invariant_of-self g c =
    let old = c.self.inside.kernel.state in
    let new = c.forget.new.self.state in
    (c.self.invariant.0, c.self.invariant.1, forget_below c.self.inside.publisher.seen (own_types old) old new c.args.fs.number c.args.block c.forget.result c.self.invariant.2 c.forget.ensures.state)
