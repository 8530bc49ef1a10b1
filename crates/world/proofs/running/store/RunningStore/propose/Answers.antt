use Rattle.std.proofs.Common.{refl, sym, subst}
use Rattle.disk.specs.Mem.{MemoryLane}
use Rattle.xn_kernel.specs.Kernels.{KernelValue}
use Rattle.xn_state.specs.declared.call.Call.TheVariants.{Propose}
use Rattle.xn_state.specs.declared.answer.Answer.TheVariants as answer
use Rattle.world.specs.Worlds.{IsWorld}
use Rattle.world.proofs.Stepping.{call_world}
use Rattle.world.proofs.running.store.RunningStore.propose.Goals as goal

pub invariant_of-self : goal.invariant_of-self
invariant_of-self g c =
    subst (λ (k : KernelValue MemoryLane). IsWorld k c.self.inside.tickets) (sym c.propose.ensures.rest)
    (call_world c.self.inside.kernel c.self.inside.tickets c.self.invariant c.args.fs.number (Propose c.args.block c.args.edit.now) (answer.Propose c.propose.result) c.propose.new.self.state (c.propose.result, refl, c.propose.ensures.state) c.args.fs.few)
