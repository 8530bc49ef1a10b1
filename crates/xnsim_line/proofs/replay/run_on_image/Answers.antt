use Rattle.std.proofs.Common.{◌≡◌, ap}
use Rattle.xn_model.specs.Images.{joined}
use Rattle.world.specs.Worlds.{WorldValue, world_with}
use Rattle.xnsim_line.specs.Done.{IsFaultOnImage, IsRunFault}
use Rattle.xnsim_line.proofs.MountFaults.{run_fault}
use Rattle.xnsim_line.proofs.StoppedRuns.{asked_run, ended, fault_then}
use Rattle.xnsim_line.proofs.replay.run_on_image.Goals as goal

pub returns-in-Ok-clause-run : goal.returns-in-Ok-clause-run
returns-in-Ok-clause-run g c =
    let last = joined c.run_asked-ran.new.world.image in
    ended c.end_run.result c.run_asked-ran.result _ (λ after. after ≡ c.run_asked-ran.new.world) _ c.end_run.ensures.ran c.run_asked-ran.ensures.run c.end_run.ensures.world
    (λ after ran reached. asked_run c.args.stop c.args.image.items (world_with c.in-Ok.world) c.args.lines.items
    (g.W.Write.contents c.args.out.now) (g.W.Write.contents c.run_asked-ran.new.out) last (joined after.image)
    c.in-Ok.ensures.ok.0 c.in-Ok.ensures.ok.1 (ap (λ (w : WorldValue). joined w.image) reached) ran)

pub returns-in-Ok-clause-fault : goal.returns-in-Ok-clause-fault
returns-in-Ok-clause-fault g c = fault_then c.end_run.result IsRunFault (IsFaultOnImage c.args.image.items) c.end_run.ensures.fault (run_fault c.args.image.items)
