use Rattle.xn_state.specs.States.{own_types}
use Rattle.xn_state.specs.Events.{event_of, reply_of}
use Rattle.world.specs.Worlds.{world_with}
use Rattle.volume_pair.specs.Kept.{IsKept}
use Rattle.volume_pair.proofs.Kept.{device_event, event_stays, if_some, stays_kept}
use Rattle.volume_pair.proofs.guarded.Guarded+Running.step.Goals as goal

pub invariant_of-self : goal.invariant_of-self
invariant_of-self c =
    let old = c.self.inside.store in
    let new = c.step.new.self in
    let d = device_event c.args.event.now c.requires in
    let x = event_stays (world_with old) (world_with new) (event_of c.args.event.now) (reply_of c.step.result) d.0 c.rules.ensures c.step.ensures.step d.1 c.self.invariant.0 in (
      x.has,
      if_some (λ o. IsKept (own_types old.state) old.state o.fs.number o.volume) (λ o. IsKept (own_types new.state) new.state o.fs.number o.volume) c.self.inside.other
          (λ o is k. stays_kept (own_types old.state) old.state (own_types new.state) new.state o.fs.number o.volume x k) c.self.invariant.1,
    )

pub returns : goal.returns
returns c =
    let d = device_event c.args.event.now c.requires in
    rw (← c.self.view_is) (event_stays (world_with c.self.inside.store) (world_with c.step.new.self) (event_of c.args.event.now) (reply_of c.step.result) d.0 c.rules.ensures c.step.ensures.step d.1 c.self.invariant.0)
