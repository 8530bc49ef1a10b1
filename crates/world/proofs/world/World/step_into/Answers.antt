use Rattle.xn_state.specs.Events.{event_of, reply_of}
use Rattle.world.specs.Worlds.{world_with}
use Rattle.world.proofs.Runs.{rules_agree}
use Rattle.world.proofs.world.World.step_into.Goals as goal

pub returns-clause-agrees : goal.returns-clause-agrees
returns-clause-agrees g c = rules_agree c.take.new.self c.rules-2.ensures

-- the law of all events, for this one
pub returns-clause-cuts : goal.returns-clause-cuts
returns-clause-cuts g c = λ fs few foreign k cut.
    c.events_keep_cuts.ensures (world_with c.args.self.now) (event_of c.args.event.now) (reply_of c.take.new.reply) (world_with c.take.new.self) fs c.is_event.ensures few c.rules.ensures c.take.ensures foreign k cut

pub returns-clause-images : goal.returns-clause-images
returns-clause-images g c = λ image may fs few. c.image_is_cut.ensures.left (world_with c.take.new.self) image fs few c.rules-2.ensures may
