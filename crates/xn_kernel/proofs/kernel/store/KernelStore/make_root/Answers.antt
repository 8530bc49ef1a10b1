use Rattle.std.proofs.Common.{◌∙◌, ap}
use Rattle.xn_state.specs.States.{own_types}
use Rattle.xn_state.proofs.ForCallers.{make_root_types}
use Rattle.xn_kernel.specs.Kernels.{KernelValue}
use Rattle.xn_kernel.proofs.Keeping.{make_root_leaves}
use Rattle.xn_kernel.proofs.kernel.store.KernelStore.make_root.Goals as goal

pub invariant_of-self : goal.invariant_of-self
invariant_of-self g c =
    make_root_leaves g.L.Lane.bytes_of g.L.Lane.crash_leaves c.self.inside.lanes c.self.inside.state c.make_root-made.new.self c.self.invariant c.args.fs.number c.args.block c.make_root-made.result c.args.fs.few c.make_root-made.ensures.state

pub returns-clause-types : goal.returns-clause-types
returns-clause-types g c =
    make_root_types c.self.inside.state c.make_root-made.new.self c.self.invariant.rules c.args.fs.number c.args.block c.make_root-made.result c.args.fs.few c.make_root-made.ensures.state
    ∙ ap (λ (kernel : KernelValue g.row.L.Denot). own_types kernel.state) c.self.view_is
