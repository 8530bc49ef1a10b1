use Rattle.std.proofs.Common.{rules, ◌≡◌, ◌<◌, ◌≤◌, ◌*◌, length, sym, subst, arith}
use Rattle.std.specs.Io.KnownBytes.{Appends}
use Rattle.xn_model.specs.Images.{blocks_in}
use Rattle.image_model.specs.Walk.{count_of}
use Rattle.image_model.specs.Report.{IsSoundImage}
use Rattle.templates.specs.Language.{types_of_image}
use Rattle.xnsim_line.specs.Checking.{report_line}
use Rattle.xnsim_line.specs.Files.{IsStartHeld}
use Rattle.xnsim_line.proofs.StartsRead.{whole_held}
use Rattle.xnsim_line.proofs.commands.check_file.Goals as goal

pub returns-clause-done : goal.returns-clause-done
returns-clause-done g c =
    let held = g.F.Files.held c.args.files.now in
    let bytes = c.in_ok-bytes.bytes.items in
    let image = c.as_slice.result.now in
    let start : IsStartHeld held c.args.image.now 536870913 bytes = search rules in
    let same : image ≡ bytes = c.as_slice.ensures.value in
    let sound : IsSoundImage (types_of_image (blocks_in image)) image = c.in-Ok.ensures.sound in
    let long : length image ≡ 512 * count_of image = sound.whole in
    let most = sound.blocks.size.1 in
    let few : length image < 536870913 = omega (arith, long, most) in
    let report = c.in-Ok.ensures.report in
    record {
      image = image;
      reached = report.0;
      free = report.1;
      image_held = whole_held held c.args.image.now image 536870913 (subst (IsStartHeld held c.args.image.now 536870913) (sym same) start) few;
      sound = sound;
      report = report.2;
      printed = subst (Appends (g.W.Write.contents c.args.out.now) (g.W.Write.contents c.print_report.new.out))
          (λ i. report_line (report.3 i) (report.4 i)) c.in_ok-print_report.ensures;
      kept = search rules;
    }
