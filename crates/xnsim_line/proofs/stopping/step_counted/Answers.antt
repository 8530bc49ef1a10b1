use Rattle.std.proofs.Common.{arith}
use Rattle.xn_state.specs.Events.{reply_of}
use Rattle.world.specs.Worlds.{world_with}
use Rattle.xnsim_line.proofs.stopping.step_counted.Goals as goal

pub overflow_sub-left : goal.overflow_sub-left
overflow_sub-left g c =
    let told = c.from.ensures in
    let written = c.writes_by.ensures in
    let small = c.writes_by.type_inv in
    let few = c.requires (reply_of c.step-reply.result) (world_with c.step-reply.new.self) c.step-reply.ensures.step (omega (arith, written, small)) in
    omega (arith, told, written, few)

pub returns-clause-counted : goal.returns-clause-counted
returns-clause-counted g c =
    let told = c.from.ensures in
    let written = c.writes_by.ensures in
    let small = c.writes_by.type_inv in
    let few = c.requires (reply_of c.step-reply.result) (world_with c.step-reply.new.self) c.step-reply.ensures.step (omega (arith, written, small)) in
    omega (arith, told, written, few)
