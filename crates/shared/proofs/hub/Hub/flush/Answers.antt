use Rattle.shared.proofs.Keeping.{below, flush_rises}
use Rattle.shared.proofs.hub.Hub.flush.Goals as goal

pub raise_all-requires-clause-below : goal.raise_all-requires-clause-below
raise_all-requires-clause-below g c =
    below c.self.inside.publisher.seen c.self.inside.kernel.state c.flush-ended.new.self.state c.self.invariant.2
    (flush_rises g.L.Lane.bytes_of g.L.Lane.faults_of g.L.Lane.write_gives g.L.Lane.sync_gives g.L.Lane.read_gives c.self.inside.kernel c.flush-ended.new.self c.flush-ended.result
    (λ stop. stop.waves) (λ stop. stop.tickets.items) (λ stop. stop.refusal) c.flush-ended.ensures.waves c.flush-ended.ensures.err)
