use Rattle.xn_kernel.specs.Kernels.{is_mine}
use Rattle.shared.proofs.Keeping.{below, finish_rises}
use Rattle.shared.proofs.hub.Hub.finish.Goals as goal

pub raise_all-requires-clause-below : goal.raise_all-requires-clause-below
raise_all-requires-clause-below g c =
    below c.self.inside.publisher.seen c.self.inside.kernel.state c.finish-ended.new.self.state c.self.invariant.2
    (finish_rises c.self.inside.kernel c.finish-ended.new.self (is_mine c.self.inside.kernel c.args.ticket) c.args.ticket.unsynced c.args.ticket.block (g.L.Lane.bytes_of c.args.ticket.lane) c.finish-ended.result
    (λ landed. (landed.durable, landed.freed)) (λ back. back.1) _ _ _ c.finish-ended.ensures.foreign c.finish-ended.ensures.unsynced c.finish-ended.ensures.mine c.finish-ended.ensures.err)
