use Rattle.shared.proofs.Keeping.{below, drain_rises}
use Rattle.shared.proofs.hub.Hub.drain.Goals as goal

pub raise_all-requires-clause-below : goal.raise_all-requires-clause-below
raise_all-requires-clause-below g c =
    below c.self.inside.publisher.seen c.self.inside.kernel.state c.drain-ended.new.self.state c.self.invariant.2
    (drain_rises g.L.Lane.bytes_of g.L.Lane.faults_of g.L.Lane.write_gives g.L.Lane.sync_gives g.L.Lane.read_gives c.self.inside.kernel c.drain-ended.new.self c.drain-ended.result
    (λ stop. stop.writes) (λ stop. stop.ticket) (λ stop. stop.refusal) c.drain-ended.ensures.rounds c.drain-ended.ensures.err)
