use Rattle.std.proofs.Common.{refl, sym, subst}
use Rattle.disk.specs.Mem.{MemoryLane}
use Rattle.xn_kernel.specs.Kernels.{KernelValue}
use Rattle.xn_state.specs.declared.call.Call.TheVariants.{Forget}
use Rattle.xn_state.specs.declared.answer.Answer.TheVariants as answer
use Rattle.world.specs.Worlds.{IsWorld}
use Rattle.world.proofs.Stepping.{call_world}
use Rattle.world.proofs.running.store.RunningStore.forget.Goals as goal

pub invariant_of-self : goal.invariant_of-self
invariant_of-self g c =
    subst (λ (k : KernelValue MemoryLane). IsWorld k c.self.inside.tickets) (sym c.forget.ensures.rest)
    (call_world c.self.inside.kernel c.self.inside.tickets c.self.invariant c.args.fs.number (Forget c.args.block) (answer.Forget c.forget.result) c.forget.new.self.state (c.forget.result, refl, c.forget.ensures.state) c.args.fs.few)
