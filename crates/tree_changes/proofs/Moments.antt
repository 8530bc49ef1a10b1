-- What the text of a time tells is one day, one time of a day, and one moment.
use Rattle.std.proofs.Common.{rules, ◌≡◌, inl, inr, ◌∙◌, ℕ, ℤ, pos, List, [], Option, None, Some, ap, sym, refl, subst}
use Rattle.std.specs.Option.{unwrap_or}
use Rattle.jiff.specs.Types.{DateTime}
use Rattle.jiff_core.specs.Calendar.{IsDate}
use Rattle.jiff_core.specs.Date.{IsYmd}
use Rattle.jiff_core.specs.DateTime.{civil_nanos}
use Rattle.jiff_core.specs.Time.{IsHms, IsTime as IsTimeOfDay}
use Rattle.tree_changes.specs.Cuts.{IsTold, before_byte, behind_byte}
use Rattle.tree_changes.specs.DateTexts.{IsCivil, IsClock, IsClockTold, IsDay, IsDigits, IsFraction, IsInstant, IsMoment, IsSecond, IsSeconds}
use Rattle.tree_changes.specs.DateTexts.{IsTime, day_and_clock, without_zone}
use Rattle.tree_changes.specs.declared.dates.Clock.{Clock}
use Rattle.tree_changes.specs.declared.dates.Day.{Day}

pub nothing_told : {A B : Type 0} (Whole : A → Type 0) (Part : B → Type 0) (whole : Option A) (part : Option B) → whole ≡ None → part ≡ None →
    IsTold Part part → ((value : A) → Whole value → (other : B) × Part other) → IsTold Whole whole
nothing_told Whole Part whole part is was untold part_of =
    let none = subst (IsTold Part) was untold in
    subst (IsTold Whole) (sym is) (λ value told. let found = part_of value told in none found.0 found.1)

digits_same : (most : ℕ) (text : List ℕ) (a b : ℕ) → IsDigits most text a → IsDigits most text b → a ≡ b
digits_same most text a b x y = x.2 ∙ sym y.2

behind_same : (found : Option (List ℕ)) (a b : List ℕ) → found ≡ Some a → found ≡ Some b → a ≡ b
behind_same found a b x y = ap (λ o. unwrap_or o []) (sym x ∙ y)

day_with : ℕ → ℕ → ℕ → Day
day_with year month day = record { year = year; month = month; day = day }

days_same : (a b : Day) → a.year ≡ b.year → a.month ≡ b.month → a.day ≡ b.day → a ≡ b
unfolding day_with
days_same a b x y z =
    ap (λ n. day_with n a.month a.day) x ∙ (ap (λ n. day_with b.year n a.day) y ∙ ap (λ n. day_with b.year b.month n) z)

pub one_day : (text : List ℕ) (a b : Day) → IsDay text a → IsDay text b → a ≡ b
one_day text a b x y =
    let rest = behind_same (behind_byte 45 text) x.0 y.0 x.2 y.2 in
    let last = behind_same (behind_byte 45 y.0) x.1 y.1 (subst (λ r. behind_byte 45 r ≡ Some x.1) rest x.3) y.3 in
    days_same a b (digits_same _ _ _ _ x.4 y.4) (search rules) (search rules)

clock_with : ℕ → ℕ → ℕ → Clock
clock_with hour minute second = record { hour = hour; minute = minute; second = second }

clocks_same : (a b : Clock) → a.hour ≡ b.hour → a.minute ≡ b.minute → a.second ≡ b.second → a ≡ b
unfolding clock_with
clocks_same a b x y z =
    ap (λ n. clock_with n a.minute a.second) x ∙ (ap (λ n. clock_with b.hour n a.second) y ∙ ap (λ n. clock_with b.hour b.minute n) z)

seconds_same : (found : Option (List ℕ)) (a b : ℕ) → IsSecond found a → IsSecond found b → a ≡ b
seconds_same None a b x y = x ∙ sym y
seconds_same (Some text) a b x y = x.2 ∙ sym y.2

one_clock : (text : List ℕ) (a b : Clock) → IsClock text a → IsClock text b → a ≡ b
one_clock text a b x y =
    let rest = behind_same (behind_byte 58 text) x.0 y.0 x.1 y.1 in
    let second = subst (λ r. IsSecond (behind_byte 58 r) a.second) rest x.4 in
    clocks_same a b (digits_same _ _ _ _ x.2 y.2) (search rules) (seconds_same (behind_byte 58 y.0) a.second b.second second y.4)

one_fraction : (found : Option (List ℕ)) (a b : ℕ) → IsFraction found a → IsFraction found b → a ≡ b
one_fraction None a b x y = x ∙ sym y
one_fraction (Some text) a b x y = search rules

pub one_time : (found : Option (List ℕ)) (a b : Clock) (m n : ℕ) → IsClockTold found a m → IsClockTold found b n → (a ≡ b) × (m ≡ n)
one_time None a b m n x y = (clocks_same a b (x.0 ∙ sym y.0) (x.1 ∙ sym y.1) (x.2 ∙ sym y.2), x.3 ∙ sym y.3)
one_time (Some text) a b m n x y = (one_clock (before_byte 46 text) a b x.0 y.0, one_fraction (behind_byte 46 text) m n x.1 y.1)

-- the numbers with which a moment is made are those of its day and its time

pub civil_told : (day : Day) (clock : Clock) (n : ℕ) (moment : DateTime) (y m d h i s f : ℤ) → y ≡ pos day.year → m ≡ pos day.month → d ≡ pos day.day →
    h ≡ pos clock.hour → i ≡ pos clock.minute → s ≡ pos clock.second → f ≡ pos n → IsDate y m d → IsTimeOfDay h i s f → IsYmd y m d moment.date →
    IsHms h i s f moment.time → IsCivil day clock n moment
civil_told day clock n moment y m d h i s f e1 e2 e3 e4 e5 e6 e7 date time ymd hms = (
  subst (λ v. IsDate v (pos day.month) (pos day.day)) e1 (subst (λ v. IsDate y v (pos day.day)) e2 (subst (λ v. IsDate y m v) e3 date)),
  rw (sym e4, sym e5, sym e6, sym e7) time,
  rw (sym e1, sym e2, sym e3) ymd,
  rw (sym e4, sym e5, sym e6, sym e7) hms,
)

pub no_civil : (day : Day) (clock : Clock) (n : ℕ) (y m d h i s f : ℤ) → y ≡ pos day.year → m ≡ pos day.month → d ≡ pos day.day →
    h ≡ pos clock.hour → i ≡ pos clock.minute → s ≡ pos clock.second → f ≡ pos n → (IsDate y m d → IsTimeOfDay h i s f → ⊥) →
    IsTold (IsCivil day clock n) None
no_civil day clock n y m d h i s f e1 e2 e3 e4 e5 e6 e7 none moment civil =
    none (rw (e1, e2, e3) civil.0) (rw (e4, e5, e6, e7) civil.1)

-- moments of the same day and time are equally far from 1970

pos_same : (a b : ℕ) → pos a ≡ pos b → a ≡ b
pos_same a b e = search rules

same_nanos : (day : Day) (clock : Clock) (n : ℕ) (a b : DateTime) → IsCivil day clock n a → IsCivil day clock n b → civil_nanos a ≡ civil_nanos b
unfolding civil_nanos
same_nanos day clock n a b x y =
    let year : a.date.year ≡ b.date.year = x.2.0 ∙ sym y.2.0 in
    let month : a.date.month ≡ b.date.month = pos_same _ _ (x.2.1 ∙ sym y.2.1) in
    let last : a.date.day ≡ b.date.day = pos_same _ _ (x.2.2 ∙ sym y.2.2) in
    let hour : a.time.hour ≡ b.time.hour = pos_same _ _ (x.3.0 ∙ sym y.3.0) in
    let minute : a.time.minute ≡ b.time.minute = pos_same _ _ (x.3.1 ∙ sym y.3.1) in
    let second : a.time.second ≡ b.time.second = pos_same _ _ (x.3.2 ∙ sym y.3.2) in
    let fraction : a.time.subsec_nanosecond ≡ b.time.subsec_nanosecond = pos_same _ _ (x.3.3 ∙ sym y.3.3) in
    rw (year, month, last, hour, minute, second, fraction) refl

-- the day and the time of a text are those that were read

pub civil_read : (text : List ℕ) (day : Day) (clock : Clock) (n : ℕ) → IsDay (day_and_clock text).0 day → IsClockTold (day_and_clock text).1 clock n →
    (time : ℤ) → IsMoment text time → (moment : DateTime) × IsCivil day clock n moment
civil_read text day clock n is_day is_clock time told =
    let same = one_time (day_and_clock text).1 told.1 clock told.2 n told.4 is_clock in (
      told.5,
      subst (λ m. IsCivil day clock m told.5) same.1
          (subst (λ k. IsCivil day k told.2 told.5) same.0
          (subst (λ d. IsCivil d told.1 told.2 told.5) (one_day (day_and_clock text).0 told.0 day told.3 is_day) told.6)),
    )

pub moment_told : (text : List ℕ) (day : Day) (clock : Clock) (n : ℕ) (moment : DateTime) (result : Option ℤ) → IsDay (day_and_clock text).0 day →
    IsClockTold (day_and_clock text).1 clock n → IsCivil day clock n moment → IsTold (IsInstant moment) result → IsTold (IsMoment text) result
moment_told text day clock n moment (Some time) is_day is_clock civil told = (day, clock, n, is_day, is_clock, moment, civil, told)
moment_told text day clock n moment None is_day is_clock civil untold = λ time told.
    let same = one_time (day_and_clock text).1 told.1 clock told.2 n told.4 is_clock in
    let other = subst (λ m. IsCivil day clock m told.5) same.1
    (subst (λ k. IsCivil day k told.2 told.5) same.0
    (subst (λ d. IsCivil d told.1 told.2 told.5) (one_day (day_and_clock text).0 told.0 day told.3 is_day) told.6)) in
    untold time (told.7.0 ∙ same_nanos day clock n told.5 moment other civil, told.7.1)

-- a text that is no number of seconds tells a moment, or nothing
pub moment_alone : (text plain : List ℕ) (result : Option ℤ) → plain ≡ without_zone text → (IsSeconds text → ⊥) → IsTold (IsMoment plain) result →
    IsTold (IsTime text) result
moment_alone text plain (Some time) is other told = inr (other, subst (λ t. IsMoment t time) is told)
moment_alone text plain None is other untold = λ time told. elim told [
  | inl seconds ↦ other seconds.0
  | inr moment ↦ untold time (subst (λ t. IsMoment t time) (sym is) moment.1)
]
