use Rattle.std.proofs.Common.{◌≡◌, ◌+◌, ◌-◌, ◌∙◌, sym, ap, Some}
use Rattle.xn_model.specs.Calls.{pick_of}
use Rattle.xn_model.specs.Worlds.{drain_for, write_out}
use Rattle.world.specs.Worlds.{world_with}
use Rattle.xnsim_line.proofs.BlockWrites.{one_round}
use Rattle.xnsim_line.proofs.stopping.write_at_most.Goals as goal

pub loop-writes-preserved : goal.loop-writes-preserved
loop-writes-preserved g c =
    let w = world_with c.loop-writes.world in
    let done = c.loop-writes.writes in
    let block = c.in-Some.block in
    let some : pick_of w.state ≡ Some block = sym c.pick.ensures.picked ∙ c.in-Some.is in
    let next : world_with c.write_out.new.world ≡ write_out w block = c.write_out.ensures.written ∙ ap (λ v. write_out v block) c.pick.ensures.same in (
      c.loop-writes.invariant.0 ∙ (one_round c.args.limit done w block c.loop-writes-test.true some ∙ ap (drain_for (c.args.limit - (done + 1)) (done + 1)) (sym next)),
      c.write_out.ensures.up,
    )
