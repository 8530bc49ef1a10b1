use Rattle.std.proofs.Common.{◌≡◌, ap, is_some, true}
use Rattle.system_files.specs.Calls.{Keep}
use Rattle.system_files.proofs.Made.{goes_once}
use Rattle.system_files.proofs.replacing.keep_old.Goals as goal

pub returns-in-Some : goal.returns-in-Some
returns-in-Some g c =
    let there : is_some c.args.old.now ≡ true = ap is_some c.in-Some.is in
    rw there (goes_once Keep _ _ c.keep.result c.keep.ensures)
