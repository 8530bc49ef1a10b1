use Rattle.std.proofs.Common.{◌≡◌, ◌∙◌, Some, ap, subst, sym}
use Rattle.xn_model.specs.Worlds.{Step}
use Rattle.xn_state.specs.Events.{reply_of}
use Rattle.world.specs.Worlds.{world_of, world_with}
use Rattle.world.specs.Works.{work_event, work_reply}
use Rattle.world.proofs.Working.{worked}
use Rattle.world.proofs.running.Running.work.Goals as goal
use Rattle.world.proofs.running.Running.work.Goals.{in-None, in-Some-Ok, in-Some-Err}

pub invariant_of-self : goal.invariant_of-self
invariant_of-self g c = (worked c.self.inside.kernel c.self.inside.tickets c.self.invariant c.args.block c.args.work c.work.result c.work.new.self c.work.ensures).1

pub returns : goal.returns
returns g c =
    let step = (worked c.self.inside.kernel c.self.inside.tickets c.self.invariant c.args.block c.args.work c.work.result c.work.new.self c.work.ensures).0 in
    let told : work_reply c.args.work c.work.result ≡ reply_of c.match-work.reply = elim c.match-work.branch [
      | in-None w ↦ ap (work_reply c.args.work) w.in-None.is ∙ ap reply_of (sym w.reply-is)
      | in-Some-Ok w ↦ ap (work_reply c.args.work) (w.in-Some-Ok.is ∙ ap (λ r. Some r) w.in-Some-Ok.field-0-is) ∙ (sym w.done_reply.ensures ∙ ap reply_of (sym w.reply-is))
      | in-Some-Err w ↦ ap (work_reply c.args.work) (w.in-Some-Err.is ∙ ap (λ r. Some r) w.in-Some-Err.field-0-is) ∙ ap reply_of (sym w.reply-is)
    ] in
    subst (λ v. Step (world_with v) (work_event c.args.work c.args.block) (reply_of c.match-work.reply) (world_of c.self.inside.kernel c.work.new.self)) c.self.view_is
    (subst (λ r. Step (world_of c.self.inside.kernel c.self.inside.tickets) (work_event c.args.work c.args.block) r (world_of c.self.inside.kernel c.work.new.self)) told step)
