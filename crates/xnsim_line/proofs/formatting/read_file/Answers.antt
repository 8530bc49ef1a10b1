use Rattle.std.proofs.Common.{rules, ◌≡◌, ◌<◌, length}
use Rattle.xnsim_line.specs.Files.{IsStartHeld}
use Rattle.xnsim_line.proofs.StartsRead.{whole_held}
use Rattle.xnsim_line.proofs.formatting.read_file.Goals as goal

pub returns-in-Ok-clause-held : goal.returns-in-Ok-clause-held
returns-in-Ok-clause-held g c =
    let held = g.F.Files.held c.args.files.now in
    let start : IsStartHeld held c.args.name.now 513 c.in_ok-bytes.bytes.items = search rules in
    let same : c.in-Ok.block ≡ c.in_ok-bytes.bytes.items = search rules in
    let few : length c.in-Ok.block < 513 = search rules in
    whole_held held c.args.name.now c.in-Ok.block 513 (rw same start) few
