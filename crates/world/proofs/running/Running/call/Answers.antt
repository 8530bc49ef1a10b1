use Rattle.std.proofs.Common.{sym, subst}
use Rattle.disk.specs.Mem.{MemoryLane}
use Rattle.xn_model.specs.Worlds as model
use Rattle.xn_kernel.specs.Kernels.{KernelValue}
use Rattle.xn_state.specs.Answers.{call_of, reply_of_answer}
use Rattle.world.specs.Worlds.{IsWorld, value_of, world_of}
use Rattle.world.proofs.Stepping.{call_step, call_world}
use Rattle.world.proofs.Views.{seen}
use Rattle.world.proofs.running.Running.call.Goals as goal

pub invariant_of-self : goal.invariant_of-self
invariant_of-self g c =
    subst (λ (k : KernelValue MemoryLane). IsWorld k c.self.inside.tickets) (sym c.call_into.ensures.rest)
    (call_world c.self.inside.kernel c.self.inside.tickets c.self.invariant c.args.fs.number c.args.call.now c.call_into.new.answer c.call_into.new.self.state c.call_into.ensures.answer c.args.fs.few)

pub returns-in-Answered : goal.returns-in-Answered
returns-in-Answered g c =
    seen (value_of c.self.inside.kernel c.self.inside.tickets) c.args.self.now c.self.view_is (model.Client c.args.fs.number (call_of c.args.call.now)) (reply_of_answer c.call_into.new.answer) _
    (subst (λ (k : KernelValue MemoryLane). model.AfterCall (world_of c.self.inside.kernel c.self.inside.tickets) (model.Client c.args.fs.number (call_of c.args.call.now)) (reply_of_answer c.call_into.new.answer) (world_of k c.self.inside.tickets)) (sym c.call_into.ensures.rest)
    (call_step c.self.inside.kernel c.self.inside.tickets c.self.invariant c.args.fs.number c.args.call.now c.call_into.new.answer c.call_into.new.self.state c.call_into.ensures.answer))
