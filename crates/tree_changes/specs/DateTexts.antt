-- How the text of a time is read.
--     IsDigits           at most so many digits write a number
--     IsDay              a day as `YYYY-MM-DD`
--     IsClock            a time of a day as `HH:MM` or `HH:MM:SS`
--     IsFraction         nanoseconds of at most nine digits behind a point; none without one
--     IsClockTold        a time of a day with its fraction; midnight where none is told
--     IsCivil            the moment of a day and a time of it
--     IsInstant          nanoseconds from 1970 to a moment in UTC
--     day_and_clock      what is told of the day, and of the time, behind a `T` or else a blank
--     IsMoment           nanoseconds from 1970 to a moment that is told as `YYYY-MM-DD`, `YYYY-MM-DDTHH:MM:SS.fffffffff` and the like
--     without_zone       a text without a `Z` at its end
--     IsSeconds          a text is a number of seconds
--     IsTime             nanoseconds since 1970 that a text tells: in seconds, or as a moment
use Rattle.std.specs.Prelude.{◌≡◌, ◌⊎◌, ℕ, ◌-◌, ◌*◌, ◌^◌, ◌≤◌, ℤ, pos, ◌*ℤ◌, if◌then◌else◌, List, [], ◌∷◌, length, Option, None, Some, is_some, FitsSigned}
use mir.Syntax.{w64}
use Rattle.std.specs.Str.Parse.{IsNumeral, digits_value, signed_digits_value, without_leading_sign}
use Rattle.jiff.specs.Types.{DateTime}
use Rattle.jiff_core.specs.Calendar.{IsDate}
use Rattle.jiff_core.specs.Date.{IsYmd}
use Rattle.jiff_core.specs.DateTime.{civil_nanos}
use Rattle.jiff_core.specs.Time.{IsHms, IsTime as IsTimeOfDay}
use Rattle.tree_changes.specs.Cuts.{before_byte, behind_byte}
use Rattle.tree_changes.specs.Numbers.{IsNumber}
use Rattle.tree_changes.specs.declared.dates.Clock.{Clock}
use Rattle.tree_changes.specs.declared.dates.Day.{Day}

abbrev pub IsDigits : ℕ → List ℕ → ℕ → Type 0
IsDigits most text number = IsNumber 10 text × (length text ≤ most) × (number ≡ digits_value 10 text)

abbrev pub IsDay : List ℕ → Day → Type 0
IsDay text day = (rest : List ℕ) × (last : List ℕ) × (behind_byte 45 text ≡ Some rest) × (behind_byte 45 rest ≡ Some last)
    × IsDigits 4 (before_byte 45 text) day.year × IsDigits 2 (before_byte 45 rest) day.month × IsDigits 2 last day.day

abbrev pub IsSecond : Option (List ℕ) → ℕ → Type 0
IsSecond None second = second ≡ 0
IsSecond (Some text) second = IsDigits 2 text second

abbrev pub IsClock : List ℕ → Clock → Type 0
IsClock text clock = (rest : List ℕ) × (behind_byte 58 text ≡ Some rest) × IsDigits 2 (before_byte 58 text) clock.hour
    × IsDigits 2 (before_byte 58 rest) clock.minute × IsSecond (behind_byte 58 rest) clock.second

abbrev pub IsFraction : Option (List ℕ) → ℕ → Type 0
IsFraction None nanoseconds = nanoseconds ≡ 0
IsFraction (Some text) nanoseconds = (digits : ℕ) × IsDigits 9 text digits × (nanoseconds ≡ digits * 10 ^ (9 - length text))

abbrev pub IsClockTold : Option (List ℕ) → Clock → ℕ → Type 0
IsClockTold None clock nanoseconds = (clock.hour ≡ 0) × (clock.minute ≡ 0) × (clock.second ≡ 0) × (nanoseconds ≡ 0)
IsClockTold (Some text) clock nanoseconds = IsClock (before_byte 46 text) clock × IsFraction (behind_byte 46 text) nanoseconds

abbrev pub IsCivil : Day → Clock → ℕ → DateTime → Type 0
IsCivil day clock nanoseconds moment = IsDate (pos day.year) (pos day.month) (pos day.day)
    × IsTimeOfDay (pos clock.hour) (pos clock.minute) (pos clock.second) (pos nanoseconds)
    × IsYmd (pos day.year) (pos day.month) (pos day.day) moment.date
    × IsHms (pos clock.hour) (pos clock.minute) (pos clock.second) (pos nanoseconds) moment.time

abbrev pub IsInstant : DateTime → ℤ → Type 0
IsInstant moment time = (time ≡ civil_nanos moment) × FitsSigned w64 time

abbrev pub day_and_clock : List ℕ → List ℕ × Option (List ℕ)
day_and_clock text = if is_some (behind_byte 84 text) then (before_byte 84 text, behind_byte 84 text) else (before_byte 32 text, behind_byte 32 text)

abbrev pub IsMoment : List ℕ → ℤ → Type 0
IsMoment text time = (day : Day) × (clock : Clock) × (nanoseconds : ℕ) × IsDay (day_and_clock text).0 day
    × IsClockTold (day_and_clock text).1 clock nanoseconds × (moment : DateTime) × IsCivil day clock nanoseconds moment × IsInstant moment time

abbrev pub without_end : List ℕ → List ℕ → Option (List ℕ) → List ℕ
without_end text front (Some []) = front
without_end text front (Some (byte ∷ bytes)) = text
without_end text front None = text

abbrev pub without_zone : List ℕ → List ℕ
without_zone text = without_end text (before_byte 90 text) (behind_byte 90 text)

-- with any sign before the digits
abbrev pub IsSeconds : List ℕ → Type 0
IsSeconds text = IsNumeral 10 (without_leading_sign text) × FitsSigned w64 (signed_digits_value 10 text)

abbrev pub IsTime : List ℕ → ℤ → Type 0
IsTime text time =
    (IsSeconds text × (time ≡ signed_digits_value 10 text *ℤ pos 1000000000) × FitsSigned w64 time) ⊎ ((¬ IsSeconds text) × IsMoment (without_zone text) time)
