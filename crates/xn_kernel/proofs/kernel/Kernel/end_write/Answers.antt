use Rattle.std.proofs.Common.{refl, inl, inr}
use Rattle.xn_kernel.proofs.Flushing.{stays_unread, ends_finished, ends_with}
use Rattle.xn_kernel.proofs.kernel.Kernel.end_write.Goals as goal

pub returns-in_default-clause-ends : goal.returns-in_default-clause-ends
returns-in_default-clause-ends g c = λ answer home holds.
    let failed = c.in_default.ensures in
    inr (
      c.sync.new.self,
      inl (record { fault = c.in_default.field-0; gives = failed.gives; counts = failed.faults_err; kept = failed.bytes; rest = failed.err }),
      refl,
      c.push_reserved.ensures.items,
    )

pub returns-in-Err-clause-ends : goal.returns-in-Err-clause-ends
returns-in-Err-clause-ends g c = λ answer home holds.
    let refused = c.in-Err.ensures in
    let unread = stays_unread g.L.Lane.bytes_of g.L.Lane.faults_of g.L.Lane.sync_gives g.L.Lane.read_gives c.args.self.now c.args.ticket c.requires.under_way c.sync.new.self.lane c.in-Ok.ensures.gives c.in-Ok.ensures.bytes
    c.sync.new.self c.in-Ok.ensures.ok c.finish.new.self c.in-Err.ticket c.in-Err.field-0-1 refused.mine refused.unread refused.back.0 refused.back.1 in
    inr (c.in-Err.ticket, inr unread, refused.err, c.push_reserved-in-Err.ensures.items)

pub returns-in-Ok-finish-clause-ends : goal.returns-in-Ok-finish-clause-ends
returns-in-Ok-finish-clause-ends g c = λ answer home holds.
    let landed = c.in-Ok-finish.landed in
    let given = c.in-Ok-finish.ensures.given in
    let done = ends_finished g.L.Lane.bytes_of g.L.Lane.faults_of g.L.Lane.sync_gives g.L.Lane.read_gives c.args.self.now c.args.ticket c.requires.under_way c.sync.new.self.lane c.in-Ok.ensures.gives c.in-Ok.ensures.bytes
    c.sync.new.self c.in-Ok.ensures.ok c.finish.new.self landed.durable landed.freed c.in-Ok-finish.ensures.mine given.0 given.1 given.3 given.4 in
    ends_with g.L.Lane.bytes_of g.L.Lane.faults_of g.L.Lane.sync_gives g.L.Lane.read_gives c.args.self.now c.args.ticket landed.durable c.finish.new.self c.args.failed.now.items done answer home holds
