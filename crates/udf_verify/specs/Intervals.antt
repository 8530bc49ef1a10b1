-- Intervals of numbers, one for each register.
use Rattle.std.specs.Prelude.{ℕ, ◌+◌, ◌-◌, ◌≤◌, min, max, Bool, nat_lt, ◌==◌, if◌then◌else◌, List, [], ◌∷◌, slice_index, slice_index_or, replicate}
use Rattle.udf_code.specs.Tree.{Test, Less, Equal}

-- the numbers from low to high
pub record Interval : Type 0 where
  pub low : ℕ
  pub high : ℕ

abbrev pub between : ℕ → ℕ → Interval
between low high = record { low = low; high = high }

-- the greatest number of a register
abbrev pub largest : ℕ
largest = 4294967295

abbrev pub full : Interval
full = between 0 largest

-- at the start each register is 0
abbrev pub start : List Interval
start = replicate 16 (between 0 0)

abbrev pub interval_of : List Interval → ℕ → Interval
interval_of ivs r = slice_index_or ivs r (between 0 0)

abbrev pub low_of : List Interval → ℕ → ℕ
low_of ivs r = (interval_of ivs r).low

abbrev pub high_of : List Interval → ℕ → ℕ
high_of ivs r = (interval_of ivs r).high

abbrev pub is_empty_interval : Interval → Bool
is_empty_interval i = nat_lt i.high i.low

-- the number is in the interval
pub record IsIn (x : ℕ) (i : Interval) : Type 0 where
  pub above : i.low ≤ x
  pub below : x ≤ i.high

-- each register's number is in its interval
abbrev pub Within : List ℕ → List Interval → Type 0
Within registers ivs = (r : ℕ) → IsIn (slice_index registers r) (interval_of ivs r)

-- both of two intervals
abbrev pub join : Interval → Interval → Interval
join i j = between (min i.low j.low) (max i.high j.high)

abbrev pub merge : List Interval → List Interval → List Interval
merge [] js = []
merge (i ∷ is) [] = []
merge (i ∷ is) (j ∷ js) = join i j ∷ merge is js

-- full where the register is written
abbrev pub widen : (ℕ → Bool) → ℕ → List Interval → List Interval
widen written r [] = []
widen written r (i ∷ is) = (if written r then full else i) ∷ widen written (r + 1) is

-- without the number, where it is an end of the interval
abbrev pub without_end : ℕ → Interval → Interval
without_end v i = if i.low == v then between (v + 1) i.high else (if i.high == v then between i.low (v - 1) else i)

-- without the one number of j, where j has one number
abbrev pub apart : Interval → Interval → Interval
apart i j = if j.low == j.high then without_end j.low i else i

-- the intervals of a and b where the test holds
abbrev pub first_a : Test → Interval → Interval → Interval
first_a Less i j = between i.low (min i.high (j.high - 1))
first_a Equal i j = between (max i.low j.low) (min i.high j.high)

abbrev pub first_b : Test → Interval → Interval → Interval
first_b Less i j = between (max j.low (i.low + 1)) j.high
first_b Equal i j = between (max i.low j.low) (min i.high j.high)

-- the intervals of a and b where it does not hold
abbrev pub other_a : Test → Interval → Interval → Interval
other_a Less i j = between (max i.low j.low) i.high
other_a Equal i j = apart i j

abbrev pub other_b : Test → Interval → Interval → Interval
other_b Less i j = between j.low (min j.high i.high)
other_b Equal i j = apart j i
