use Rattle.std.proofs.Common.{rules}
use Rattle.std.specs.Option.{option_copied}
use Rattle.tree_changes.specs.DateTexts.{IsClock, IsClockTold}
use Rattle.tree_changes.proofs.Moments.{nothing_told}
use Rattle.tree_changes.proofs.dates.read_time.Goals as goal

-- its clock is none
pub returns-in_err-read_clock : goal.returns-in_err-read_clock
returns-in_err-read_clock c =
    nothing_told (λ told. IsClockTold (option_copied c.args.text) told.0 told.1) (IsClock c.cut.result.0.now) c.from_residual.result c.read_clock.result
    (search rules) (search rules) c.read_clock.ensures (search rules)
