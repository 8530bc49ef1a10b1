use Rattle.xn_model.specs.Results.{result_map}
use Rattle.shared.proofs.Keeping.{begun_below}
use Rattle.shared.proofs.hub.Hub.begin.Goals as goal

pub invariant_of-self : goal.invariant_of-self
invariant_of-self g c =
    let old = c.self.inside.kernel.state in
    let new = c.begin.new.self.state in
    (c.self.invariant.0, c.self.invariant.1, begun_below c.self.inside.publisher.seen old new c.args.block (result_map (λ ticket. (ticket.bytes, ticket.count)) c.begin.result) c.self.invariant.2 c.begin.ensures.state)
