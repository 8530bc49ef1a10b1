use Rattle.std.proofs.Common.{rules, ◌≡◌, ◌<◌, ◌≤◌, ◌*◌, length, subst, arith}
use Rattle.std.proofs.lemmas.Result.{err_from_is_err_and}
use Rattle.xn_model.specs.Images.{joined}
use Rattle.image_model.specs.Walk.{count_of}
use Rattle.script.specs.Scripts.{AllSpell}
use Rattle.xnsim_line.specs.Files.{IsStartHeld}
use Rattle.xnsim_line.proofs.MountFaults.{mount_fault}
use Rattle.xnsim_line.proofs.StartsRead.{whole_held}
use Rattle.xnsim_line.proofs.StoppedRuns.{asked_sound}
use Rattle.xnsim_line.proofs.commands.run_files.Goals as goal

pub returns-clause-done : goal.returns-clause-done
returns-clause-done g c =
    let held = g.F.Files.held c.args.files.now in
    let image = c.in_ok-before.before.items in
    let start : IsStartHeld held c.args.image.now 16777217 image = search rules in
    let run = c.in_ok-after.ensures.run in
    let sound = asked_sound c.args.stop image run.0 _ _ (joined c.in_ok-after.after.image) run.2 in
    let few : length image < 16777217 = omega (arith, c.in_ok-after.ensures.held) in
    record {
      image = image;
      text = c.in_ok-text_of.field-0.now;
      events = run.0;
      after = joined c.in_ok-after.after.image;
      image_held = whole_held held c.args.image.now image 16777217 start few;
      held_whole = c.in_ok-after.ensures.held;
      script_held = search rules;
      script_short = search rules;
      script = subst (λ lines. AllSpell lines run.0) c.in_ok-lines.ensures.lines run.1;
      run = run.2;
      written = search rules;
    }

pub returns-in_err-after-clause-fault : goal.returns-in_err-after-clause-fault
returns-in_err-after-clause-fault g c =
    let call = c.from_residual-in_err-after in
    let p = err_from_is_err_and call.result call.ensures.1 in
    rw (p.1, p.2) (mount_fault c.args.image c.args.script c.args.stop _ _ c.in_err-after.ensures.fault)
