use Rattle.xn_state.specs.Events.{reply_of}
use Rattle.world.specs.Worlds.{world_with}
use Rattle.xnsim_line.proofs.BlockWrites.{wrote}
use Rattle.xnsim_line.proofs.stopping.write_out.Goals as goal

pub returns-clause-written : goal.returns-clause-written
returns-clause-written g c =
    (wrote (world_with c.args.world.now) (world_with c.step-begun.new.self) (world_with c.step-landed.new.self) (world_with c.step-synced.new.self) (world_with c.step-finished.new.self) c.args.block
    (reply_of c.step-begun.result) (reply_of c.step-landed.result) (reply_of c.step-synced.result) (reply_of c.step-finished.result) c.requires
    c.step-begun.ensures.step c.step-landed.ensures.step c.step-synced.ensures.step c.step-finished.ensures.step).0

pub returns-clause-up : goal.returns-clause-up
returns-clause-up g c =
    (wrote (world_with c.args.world.now) (world_with c.step-begun.new.self) (world_with c.step-landed.new.self) (world_with c.step-synced.new.self) (world_with c.step-finished.new.self) c.args.block
    (reply_of c.step-begun.result) (reply_of c.step-landed.result) (reply_of c.step-synced.result) (reply_of c.step-finished.result) c.requires
    c.step-begun.ensures.step c.step-landed.ensures.step c.step-synced.ensures.step c.step-finished.ensures.step).1
