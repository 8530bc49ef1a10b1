use Rattle.std.proofs.Common.{◌≡◌, ◌∙◌, ap, sym, subst, slice_get}
use Rattle.disk.specs.Lanes.{LeavesOnly}
use Rattle.std.specs.Prelude.{option_copied, unwrap_or}
use Rattle.xn_model.specs.Lives.{life_at}
use Rattle.xn_model.specs.Calls.{life_bytes}
use Rattle.xn_kernel.proofs.Homes.{away_in_flight, compared_bytes, newest_is}
use Rattle.xn_kernel.proofs.Keeping.{settled_leaves}
use Rattle.xn_kernel.proofs.kernel.Kernel.finish.Goals as goal

pub unreachable-requires-in-Err-give : goal.unreachable-requires-in-Err-give
unreachable-requires-in-Err-give g c =
    let away = away_in_flight g.L.Lane.bytes_of c.self.inside.lanes c.self.inside.state c.ticket.inside.block c.self.invariant.fit (sym c.is_in_flight.ensures ∙ c.if-not-is_in_flight.false) in
    let number : g.L.Lane.number_of c.into_lane.result ≡ c.ticket.inside.block = c.into_lane.ensures.number in
    let given = c.in-Err-give.ensures.given.1 (ap (slice_get c.self.inside.lanes) number ∙ away) in
    cc

pub invariant_of-self-in-Ok-settled_unless : goal.invariant_of-self-in-Ok-settled_unless
invariant_of-self-in-Ok-settled_unless g c =
    let number : g.L.Lane.number_of c.into_lane.result ≡ c.ticket.inside.block = c.into_lane.ensures.number in
    let given = unwrap_or (option_copied c.other_unless.result) (life_bytes (life_at c.self.inside.state.lives c.ticket.inside.block)) in
    let newest = newest_is (life_at c.self.inside.state.lives c.ticket.inside.block) c.in-Some.newest.now c.in-Some.ensures in
    let read : given ≡ g.L.Lane.bytes_of c.ticket.inside.lane =
    (λ i. unwrap_or (c.other_unless.ensures i) (sym newest i))
    ∙ compared_bytes c.in-Some.newest.now (g.L.Lane.bytes_of c.ticket.inside.lane) c.compare.new.other c.in-Ok.same c.in-Ok.ensures.same c.in-Ok.ensures.other in
    let same : g.L.Lane.bytes_of c.into_lane.result ≡ g.L.Lane.bytes_of c.ticket.inside.lane = ap g.L.Lane.bytes_of c.into_lane.ensures.lane ∙ c.compare.ensures.bytes in
    let rests : LeavesOnly (g.L.Lane.bytes_of c.into_lane.result) (g.L.Lane.crash_leaves c.into_lane.result) =
    λ left leaves. c.ticket.invariant.1 c.if-ticket.false left (c.compare.ensures.crash left (subst (λ l. g.L.Lane.crash_leaves l left) c.into_lane.ensures.lane leaves)) ∙ sym same in
    let leaves = settled_leaves g.L.Lane.bytes_of g.L.Lane.crash_leaves c.self.inside.lanes c.self.inside.state c.settled_unless.new.self c.self.invariant c.ticket.inside.block c.into_lane.result given (c.in-Ok-settled_unless.durable, c.in-Ok-settled_unless.freed) (read ∙ sym same) rests c.in-Ok-settled_unless.ensures.state in
    rw (c.in-Ok-give.ensures.ok, number) leaves
