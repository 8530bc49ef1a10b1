use Rattle.xn_state.specs.States.{own_types}
use Rattle.shared.proofs.Keeping.{drop_root_below}
use Rattle.shared.proofs.hub.Hub.drop_root.Goals as goal

pub invariant_of-self : goal.invariant_of-self
invariant_of-self g c =
    let old = c.self.inside.kernel.state in
    let new = c.drop_root.new.self.state in
    (c.self.invariant.0, c.self.invariant.1, drop_root_below c.self.inside.publisher.seen (own_types old) old new c.args.fs.number c.drop_root.result c.self.invariant.2 c.drop_root.ensures.state)
