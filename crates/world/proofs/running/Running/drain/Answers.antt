use Rattle.std.proofs.Common.{◌∙◌, sym, subst}
use Rattle.std.proofs.lemmas.Option.{none-some}
use Rattle.xn_model.specs.Worlds as model
use Rattle.xn_state.specs.Events.{reply_of}
use Rattle.world.specs.Worlds.{value_of, world_of}
use Rattle.world.proofs.Draining.{rounds_world, drain_step, drain_refused}
use Rattle.world.proofs.Views.{seen}
use Rattle.world.proofs.running.Running.drain.Goals as goal
use Rattle.world.proofs.running.Running.drain.Goals.{in-Ok, in-Err+in-None}

pub unreachable-requires : goal.unreachable-requires
unreachable-requires g c =
    let end = drain_refused c.self.inside.kernel c.self.inside.tickets c.self.invariant c.args.fs.number c.drain.new.self c.in-Err.field-0.writes c.in-Err.field-0.ticket c.in-Err.field-0.refusal c.in-Err.ensures.err in
    none-some c.in-Some._ticket (sym end.0 ∙ c.in-Some.is)

pub invariant_of-self : goal.invariant_of-self
invariant_of-self g c = elim c.match-drain.branch [
  | in-Ok w ↦ rounds_world c.self.inside.tickets c.drain.new.self w.in-Ok.writes c.self.inside.kernel c.self.invariant w.in-Ok.ensures.rounds
  | in-Err+in-None w ↦ (drain_refused c.self.inside.kernel c.self.inside.tickets c.self.invariant c.args.fs.number c.drain.new.self w.in-Err.field-0.writes w.in-Err.field-0.ticket w.in-Err.field-0.refusal w.in-Err.ensures.err).2
]

pub returns : goal.returns
returns g c = elim c.match-drain.branch [
  | in-Ok w ↦
      seen (value_of c.self.inside.kernel c.self.inside.tickets) c.args.self.now c.self.view_is (model.Client c.args.fs.number model.Drain) (reply_of c.match-drain.reply) _
      (subst (λ r. model.AfterCall (world_of c.self.inside.kernel c.self.inside.tickets) (model.Client c.args.fs.number model.Drain) (reply_of r) (world_of c.drain.new.self c.self.inside.tickets)) (sym w.reply-is)
      (drain_step c.self.inside.kernel c.self.inside.tickets c.self.invariant c.args.fs.number c.drain.new.self w.in-Ok.writes w.in-Ok.ensures.rounds w.in-Ok.ensures.idle w.in-Ok.ensures.done w.in-Ok.ensures.few))
  | in-Err+in-None w ↦
      seen (value_of c.self.inside.kernel c.self.inside.tickets) c.args.self.now c.self.view_is (model.Client c.args.fs.number model.Drain) (reply_of c.match-drain.reply) _
      (subst (λ r. model.AfterCall (world_of c.self.inside.kernel c.self.inside.tickets) (model.Client c.args.fs.number model.Drain) (reply_of r) (world_of c.drain.new.self c.self.inside.tickets)) (sym w.reply-is)
      (drain_refused c.self.inside.kernel c.self.inside.tickets c.self.invariant c.args.fs.number c.drain.new.self w.in-Err.field-0.writes w.in-Err.field-0.ticket w.in-Err.field-0.refusal w.in-Err.ensures.err).1)
]
