use Rattle.std.proofs.Common.{◌≡◌, ◌∙◌, sym, ap, arith}
use Rattle.xn_state.specs.Events.{event_of}
use Rattle.world.specs.Worlds.{world_with}
use Rattle.xnsim_line.specs.Stops.{is_write}
use Rattle.xnsim_line.proofs.BlockWrites.{one_if, step_counts}
use Rattle.xnsim_line.proofs.stopping.step_within.Goals as goal

pub step_counted-requires-after_bounds : goal.step_counted-requires-after_bounds
step_counted-requires-after_bounds g c κs within = λ reply after step small.
    let w = world_with c.args.world.now in
    let few = step_counts w (event_of c.args.event.now) reply after step c.requires in
    let none : one_if (is_write w (event_of c.args.event.now)) ≡ 0 = ap one_if (sym c.is_write.ensures.write ∙ c.if-not-is_write.true) in
    omega (arith, few, none)
