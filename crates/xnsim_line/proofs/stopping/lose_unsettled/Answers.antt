use Rattle.std.proofs.Common.{◌≡◌, ◌∙◌, [], ap, rules}
use Rattle.xn_model.specs.Worlds.{left}
use Rattle.xn_model.proofs.ForCallers.{crash_mounts}
use Rattle.xn_state.specs.Events.{reply_of}
use Rattle.world.specs.Worlds.{world_with}
use Rattle.xnsim_line.proofs.stopping.lose_unsettled.Goals as goal

pub returns-then-stop : goal.returns-then-stop
returns-then-stop g c =
    let w = world_with c.args.world.now in
    let none : c.new.result.items ≡ [] = search rules in
    rw c.if-stop.true ((crash_mounts w c.new.result.items (reply_of c.step-mounted.result) (world_with c.step-mounted.new.self) c.step-mounted.ensures.step).0 ∙ ap (left w) none)
