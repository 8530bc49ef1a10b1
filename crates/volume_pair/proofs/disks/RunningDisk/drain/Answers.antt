use Rattle.std.proofs.Common.{inr, refl}
use Rattle.xn_model.specs.Worlds.{Client, Drain}
use Rattle.xn_state.specs.Events.{reply_of}
use Rattle.world.specs.Worlds.{world_with}
use Rattle.volume_pair.proofs.Kept.{event_stays}
use Rattle.volume_pair.proofs.disks.RunningDisk.drain.Goals as goal

pub returns : goal.returns
returns c = (event_stays (world_with c.args.self.now) (world_with c.step.new.self) (Client c.args.fs.number Drain) (reply_of c.step.result) c.args.fs.few c.rules.ensures c.step.ensures.step (λ fs. inr refl))
