-- Numbers that are told on a line.
--     IsNumber       a text is digits in a radix and nothing else, and the number that they write is less than 2^32
--     IsNumberTold   the number that a text tells, if it tells one
use Rattle.std.specs.Prelude.{◌≡◌, ℕ, ◌^◌, ◌<◌, List, Option, None, Some}
use Rattle.std.specs.Str.Parse.{IsNumeral, digits_value}

abbrev pub IsNumber : ℕ → List ℕ → Type 0
IsNumber radix text = IsNumeral radix text × (digits_value radix text < 2 ^ 32)

abbrev pub IsNumberTold : ℕ → List ℕ → Option ℕ → Type 0
IsNumberTold radix text None = ¬ IsNumber radix text
IsNumberTold radix text (Some number) = IsNumber radix text × (number ≡ digits_value radix text)
