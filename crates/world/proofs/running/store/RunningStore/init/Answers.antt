use Rattle.std.proofs.Common.{refl, sym, subst}
use Rattle.disk.specs.Mem.{MemoryLane}
use Rattle.xn_kernel.specs.Kernels.{KernelValue}
use Rattle.xn_state.specs.declared.call.Call.TheVariants.{Init}
use Rattle.xn_state.specs.declared.answer.Answer.TheVariants as answer
use Rattle.world.specs.Worlds.{IsWorld}
use Rattle.world.proofs.Stepping.{call_world}
use Rattle.world.proofs.running.store.RunningStore.init.Goals as goal

pub invariant_of-self : goal.invariant_of-self
invariant_of-self g c =
    subst (λ (k : KernelValue MemoryLane). IsWorld k c.self.inside.tickets) (sym c.init.ensures.rest)
    (call_world c.self.inside.kernel c.self.inside.tickets c.self.invariant c.args.fs.number (Init c.args.ty c.args.bytes.now) (answer.Init c.init.result) c.init.new.self.state (c.init.result, refl, c.init.ensures.state) c.args.fs.few)
