use Rattle.std.proofs.Common.{rules, subst}
use Rattle.tree_changes.specs.Cuts.{IsTold}
use Rattle.tree_changes.specs.DateTexts.{IsCivil, IsClockTold, IsDay, IsMoment, day_and_clock}
use Rattle.tree_changes.proofs.Moments.{civil_read, moment_told, nothing_told}
use Rattle.tree_changes.proofs.dates.read_moment.Goals as goal

-- the text tells no time of a day
pub returns-in_err-clock : goal.returns-in_err-clock
returns-in_err-clock c =
    nothing_told (IsMoment c.args.text.now) (λ told. IsClockTold (day_and_clock c.args.text.now).1 told.0 told.1) c.from_residual.result c.read_time.result
    (search rules) (search rules)
    (subst (λ p. IsTold (λ told. IsClockTold p told.0 told.1) c.read_time.result) c.day_and_clock.ensures.clock c.read_time.ensures)
    (λ time told. ((told.1, told.2), told.4))

-- or no day
pub returns-in_err-read_day : goal.returns-in_err-read_day
returns-in_err-read_day c =
    nothing_told (IsMoment c.args.text.now) (IsDay (day_and_clock c.args.text.now).0) c.from_residual-in_err-read_day.result c.read_day.result
    (search rules) (search rules) (subst (λ p. IsTold (IsDay p) c.read_day.result) c.day_and_clock.ensures.day c.read_day.ensures)
    (λ time told. (told.0, told.3))

-- or there is no such moment
pub returns-in_err-moment_of : goal.returns-in_err-moment_of
returns-in_err-moment_of c =
    let day = c.in_ok-read_day.field-0 in
    let clock = c.in_ok-clock.clock in
    nothing_told (IsMoment c.args.text.now) (IsCivil day clock c.in_ok-clock.nanoseconds) c.from_residual-in_err-moment_of.result c.moment_of.result
    (search rules) (search rules) c.moment_of.ensures
    (civil_read c.args.text.now day clock c.in_ok-clock.nanoseconds (search rules) (search rules))

pub returns : goal.returns
returns c =
    moment_told c.args.text.now c.in_ok-read_day.field-0 c.in_ok-clock.clock c.in_ok-clock.nanoseconds c.in_ok-moment_of.field-0 c.nanoseconds_to.result
    (search rules) (search rules) (search rules) c.nanoseconds_to.ensures
