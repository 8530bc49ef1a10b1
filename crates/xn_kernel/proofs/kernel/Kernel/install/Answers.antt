use Rattle.xn_model.specs.Results.{result_map}
use Rattle.xn_state.specs.Installs.{installed_of}
use Rattle.xn_kernel.proofs.Keeping.{install_leaves}
use Rattle.xn_kernel.proofs.kernel.Kernel.install.Goals as goal

pub invariant_of-self : goal.invariant_of-self
invariant_of-self g c =
    install_leaves g.L.Lane.bytes_of g.L.Lane.crash_leaves c.self.inside.lanes c.self.inside.state c.install.new.self c.self.invariant c.args.template.now (result_map installed_of c.install.result) c.told-template c.install.ensures.state
