use Rattle.std.proofs.Common.{◌∙◌, ap}
use Rattle.xn_state.specs.States.{own_types}
use Rattle.xn_state.proofs.ForCallers.{forget_types}
use Rattle.xn_kernel.specs.Kernels.{KernelValue}
use Rattle.xn_kernel.proofs.Keeping.{forget_leaves}
use Rattle.xn_kernel.proofs.kernel.store.KernelStore.forget.Goals as goal

pub invariant_of-self : goal.invariant_of-self
invariant_of-self g c =
    forget_leaves g.L.Lane.bytes_of g.L.Lane.crash_leaves c.self.inside.lanes c.self.inside.state c.forget-done.new.self c.self.invariant c.args.fs.number c.args.block c.forget-done.result c.forget-done.ensures.state

pub returns-clause-types : goal.returns-clause-types
returns-clause-types g c =
    forget_types c.self.inside.state c.forget-done.new.self c.self.invariant.rules c.args.fs.number c.args.block c.forget-done.result c.forget-done.ensures.state
    ∙ ap (λ (kernel : KernelValue g.row.L.Denot). own_types kernel.state) c.self.view_is
