use Rattle.std.proofs.Common.{refl}
use Rattle.xn_model.specs.Calls.{begun_of}
use Rattle.xn_model.proofs.ForCallers.{gives_exactly-ok}
use Rattle.xn_model.specs.Worlds as model
use Rattle.world.specs.Worlds.{value_of}
use Rattle.world.proofs.Views.{seen}
use Rattle.world.proofs.Stepping.{begin_step, begin_world}
use Rattle.world.proofs.running.Running.begin.Goals as goal

pub returns-in-Ok : goal.returns-in-Ok
returns-in-Ok g c =
    let begun = gives_exactly-ok (begun_of c.self.inside.kernel.state c.args.block) c.self.inside.kernel.state c.begin.new.self.state (c.in-Ok.ticket.bytes, c.in-Ok.ticket.count) c.in-Ok.ensures.state in
    let step = begin_step c.self.inside.kernel c.self.inside.tickets c.self.invariant c.args.block (c.in-Ok.ticket.bytes, c.in-Ok.ticket.count) c.begin.new.self.state begun c.in-Ok.ticket (refl, refl)
    (c.in-Ok.ensures.ticket.0, c.in-Ok.ensures.ticket.1) c.in-Ok.ensures.ticket.2 c.in-Ok.ensures.ticket.3 in
    seen (value_of c.self.inside.kernel c.self.inside.tickets) c.args.self.now c.self.view_is (model.Begin c.args.block) (model.Begun c.count-entries.result) _
    (rw (c.count-entries.ensures, c.put.ensures, c.new.ensures, c.in-Ok.ensures.lanes) step)

pub invariant_of-self-in-Ok : goal.invariant_of-self-in-Ok
invariant_of-self-in-Ok g c =
    let begun = gives_exactly-ok (begun_of c.self.inside.kernel.state c.args.block) c.self.inside.kernel.state c.begin.new.self.state (c.in-Ok.ticket.bytes, c.in-Ok.ticket.count) c.in-Ok.ensures.state in
    let leaves = begin_world c.self.inside.kernel c.self.inside.tickets c.self.invariant c.args.block (c.in-Ok.ticket.bytes, c.in-Ok.ticket.count) c.begin.new.self.state begun c.in-Ok.ticket (refl, refl)
    (c.in-Ok.ensures.ticket.0, c.in-Ok.ensures.ticket.1) c.in-Ok.ensures.ticket.2 c.in-Ok.ensures.ticket.3 in
    rw (c.put.ensures, c.new.ensures, c.in-Ok.ensures.lanes) leaves
