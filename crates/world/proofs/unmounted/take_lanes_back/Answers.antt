use Rattle.std.proofs.Common.{◌≡◌, ◌∙◌, ◌<◌, None, length, sym, arith}
use Rattle.std.proofs.lemmas.List.{length-set}
use Rattle.world.specs.Disks.{ticket_at}
use Rattle.world.proofs.Returns.{one_back, more_empty, more_back, all_home, all_empty}
use Rattle.world.proofs.unmounted.take_lanes_back.Goals as goal

pub loop-block-preserved : goal.loop-block-preserved
loop-block-preserved g c =
    let lanes = c.loop-block.lanes in
    let tickets = c.loop-block.tickets in
    let b = c.loop-block.block in
    let before = c.loop-block.invariant.0 in
    let count = before.whole.count in
    let long = c.loop-block.invariant.2 in
    let more = c.loop-block-test.true in
    let within : b < length tickets = omega arith in
    let here : ticket_at tickets b ≡ c.take-ticket.result = sym c.take-ticket.ensures.ticket in
    let back = one_back lanes tickets before.whole b (omega arith) c.take-ticket.result here in
    rw (c.give_back.ensures, c.take-ticket.ensures.rest) (more_back c.args.lanes.now c.args.tickets.now lanes tickets _ _ before back, more_empty tickets b within c.loop-block.invariant.1, length-set tickets b None ∙ long)

pub returns-clause-home : goal.returns-clause-home
returns-clause-home g c =
    let done = c.loop-block-test.false in
    let long = c.loop-block.invariant.2 in
    all_home c.loop-block.lanes c.loop-block.tickets c.loop-block.invariant.0.whole (λ b lt. c.loop-block.invariant.1 b (omega arith))

pub returns-clause-empty : goal.returns-clause-empty
returns-clause-empty g c =
    let done = c.loop-block-test.false in
    let long = c.loop-block.invariant.2 in
    let count = c.loop-block.invariant.0.whole.count in
    all_empty c.loop-block.tickets (length c.loop-block.lanes) count (λ b lt. c.loop-block.invariant.1 b (omega arith))
