use Rattle.std.proofs.Common.{◌≡◌, ap}
use Rattle.xn_model.specs.Images.{joined}
use Rattle.world.specs.Worlds.{WorldValue, world_with}
use Rattle.xnsim_line.specs.Runs.{fresh_world}
use Rattle.xnsim_line.proofs.StoppedRuns.{ended, printed_run}
use Rattle.xnsim_line.proofs.replay.run_script.Goals as goal

pub returns-clause-run : goal.returns-clause-run
returns-clause-run g c =
    let last = joined c.run_lines-ran.new.world.image in
    ended c.end_run.result c.run_lines-ran.result _ (λ after. after ≡ c.run_lines-ran.new.world) _ c.end_run.ensures.ran c.run_lines-ran.ensures.run c.end_run.ensures.world
    (λ after ran reached. printed_run (world_with c.in_ok-world.world) (fresh_world c.args.blocks c.args.templates.now) c.args.lines.items
    (g.W.Write.contents c.args.out.now) (g.W.Write.contents c.run_lines-ran.new.out) last (joined after.image) c.in_ok-world.ensures
    (ap (λ (w : WorldValue). joined w.image) reached) ran)
