use Rattle.shared.proofs.Keeping.{make_root_below}
use Rattle.shared.proofs.hub.store.HubStore.make_root.Goals as goal

pub invariant_of-self : goal.invariant_of-self
invariant_of-self g c =
    let old = c.self.inside.kernel.state in
    let new = c.make_root.new.self.state in
    (c.self.invariant.0, c.self.invariant.1, make_root_below c.self.inside.publisher.seen old new c.args.fs.number c.args.block c.make_root.result c.self.invariant.2 c.make_root.ensures.state)
