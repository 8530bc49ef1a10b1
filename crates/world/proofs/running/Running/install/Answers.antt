use Rattle.std.proofs.Common.{◌≡◌, ◌∙◌, sym, ap, subst}
use Rattle.disk.specs.Mem.{MemoryLane}
use Rattle.xn_model.specs.Results.{result_map}
use Rattle.xn_model.specs.Worlds as model
use Rattle.xn_kernel.specs.Kernels.{KernelValue}
use Rattle.xn_state.specs.Answers.{told}
use Rattle.xn_state.specs.Installs.{installed_of}
use Rattle.xn_state.specs.Events.{reply_of}
use Rattle.world.specs.Worlds.{IsWorld, value_of, world_of}
use Rattle.world.proofs.Stepping.{install_step, install_world, installed_reply}
use Rattle.world.proofs.Views.{seen}
use Rattle.world.proofs.running.Running.install.Goals as goal
use Rattle.world.proofs.running.Running.install.Goals.{in-Ok, in-Err}

pub invariant_of-self : goal.invariant_of-self
invariant_of-self g c =
    subst (λ (k : KernelValue MemoryLane). IsWorld k c.self.inside.tickets) (sym c.install.ensures.rest)
    (install_world c.self.inside.kernel c.self.inside.tickets c.self.invariant c.args.template.now c.told-template c.install.new.self.state (result_map installed_of c.install.result) c.install.ensures.state)

pub returns : goal.returns
returns g c =
    let reply : told installed_reply (result_map installed_of c.install.result) ≡ reply_of c.match-install.reply = elim c.match-install.branch [
      | in-Ok w ↦ ap (λ r. told installed_reply (result_map installed_of r)) w.in-Ok.is ∙ ((λ i. model.Installed w.in-Ok.installed.ty w.in-Ok.installed.block w.in-Ok.installed.edits.0 (sym w.in-Ok.ensures.second i)) ∙ ap reply_of (sym w.reply-is))
      | in-Err w ↦ ap (λ r. told installed_reply (result_map installed_of r)) w.in-Err.is ∙ ap reply_of (sym w.reply-is)
    ] in
    seen (value_of c.self.inside.kernel c.self.inside.tickets) c.args.self.now c.self.view_is (model.Install c.args.template.now) (reply_of c.match-install.reply) _
    (subst (λ (k : KernelValue MemoryLane). model.AfterCall (world_of c.self.inside.kernel c.self.inside.tickets) (model.Install c.args.template.now) (reply_of c.match-install.reply) (world_of k c.self.inside.tickets)) (sym c.install.ensures.rest)
    (subst (λ r. model.AfterCall (world_of c.self.inside.kernel c.self.inside.tickets) (model.Install c.args.template.now) r (world_of (record c.self.inside.kernel { state = c.install.new.self.state }) c.self.inside.tickets)) reply
    (install_step c.self.inside.kernel c.self.inside.tickets c.self.invariant c.args.template.now c.told-template c.install.new.self.state (result_map installed_of c.install.result) c.install.ensures.state)))
