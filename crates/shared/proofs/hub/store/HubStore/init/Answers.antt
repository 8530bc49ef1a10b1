use Rattle.xn_state.specs.States.{own_types}
use Rattle.shared.proofs.Keeping.{init_below}
use Rattle.shared.proofs.hub.store.HubStore.init.Goals as goal

pub invariant_of-self : goal.invariant_of-self
invariant_of-self g c =
    let old = c.self.inside.kernel.state in
    let new = c.init.new.self.state in
    (c.self.invariant.0, c.self.invariant.1, init_below c.self.inside.publisher.seen (own_types old) old new c.args.fs.number c.args.ty c.args.bytes.now c.init.result c.self.invariant.2 c.init.ensures.state)
