use Rattle.std.proofs.Common.{◌∙◌, ap}
use Rattle.xn_state.specs.States.{own_types}
use Rattle.xn_state.proofs.ForCallers.{propose_types}
use Rattle.xn_kernel.specs.Kernels.{KernelValue}
use Rattle.xn_kernel.proofs.Keeping.{propose_leaves}
use Rattle.xn_kernel.proofs.kernel.store.KernelStore.propose.Goals as goal

pub invariant_of-self : goal.invariant_of-self
invariant_of-self g c =
    propose_leaves g.L.Lane.bytes_of g.L.Lane.crash_leaves c.self.inside.lanes c.self.inside.state c.propose-made.new.self c.self.invariant c.args.fs.number c.args.block c.args.edit.now c.propose-made.result c.propose-made.ensures.state

pub returns-clause-types : goal.returns-clause-types
returns-clause-types g c =
    propose_types c.self.inside.state c.propose-made.new.self c.self.invariant.rules c.args.fs.number c.args.block c.args.edit.now c.propose-made.result c.propose-made.ensures.state
    ∙ ap (λ (kernel : KernelValue g.row.L.Denot). own_types kernel.state) c.self.view_is
