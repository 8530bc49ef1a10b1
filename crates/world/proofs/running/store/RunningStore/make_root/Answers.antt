use Rattle.std.proofs.Common.{refl, sym, subst}
use Rattle.disk.specs.Mem.{MemoryLane}
use Rattle.xn_kernel.specs.Kernels.{KernelValue}
use Rattle.xn_state.specs.declared.call.Call.TheVariants.{MakeRoot}
use Rattle.xn_state.specs.declared.answer.Answer.TheVariants as answer
use Rattle.world.specs.Worlds.{IsWorld}
use Rattle.world.proofs.Stepping.{call_world}
use Rattle.world.proofs.running.store.RunningStore.make_root.Goals as goal

pub invariant_of-self : goal.invariant_of-self
invariant_of-self g c =
    subst (λ (k : KernelValue MemoryLane). IsWorld k c.self.inside.tickets) (sym c.make_root.ensures.rest)
    (call_world c.self.inside.kernel c.self.inside.tickets c.self.invariant c.args.fs.number (MakeRoot c.args.block) (answer.MakeRoot c.make_root.result) c.make_root.new.self.state (c.make_root.result, refl, c.make_root.ensures.state) c.args.fs.few)
