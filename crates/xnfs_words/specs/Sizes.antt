-- How a size is written: digits alone, or digits and a letter behind them.
use Rattle.std.specs.Prelude.{◌≡◌, ◌⊎◌, ℕ, ◌-◌, ◌*◌, ◌==◌, ◌||◌, if◌then◌else◌, List, Option, Some, None, length, take, slice_index}
use Rattle.std.specs.Str.Parse.{IsNumeral, digits_value}

-- how many bytes the letter behind a number stands for: K or k, M or m, G or g
abbrev pub unit_of : ℕ → Option ℕ
unit_of letter = if (letter == 75) || (letter == 107) then Some 1024 else if (letter == 77) || (letter == 109) then Some 1048576
    else if (letter == 71) || (letter == 103) then Some 1073741824 else None

-- what stands before the last byte, and that
abbrev pub front : List ℕ → List ℕ
front text = take (length text - 1) text

abbrev pub last : List ℕ → ℕ
last text = slice_index text (length text - 1)

-- the number of a unit behind these digits
pub record IsCounted (text : List ℕ) (n : ℕ) : Type 0 where
  pub unit : ℕ
  pub letter : unit_of (last text) ≡ Some unit
  pub digits : IsNumeral 10 (front text)
  pub value : n ≡ digits_value 10 (front text) * unit

-- a size of so many bytes
abbrev pub IsSize : List ℕ → ℕ → Type 0
IsSize text n = ((unit_of (last text) ≡ None) × IsNumeral 10 text × (n ≡ digits_value 10 text)) ⊎ IsCounted text n

-- so many blocks of 512 bytes: their number, or how many bytes they have with a letter
abbrev pub IsBlocks : List ℕ → ℕ → Type 0
IsBlocks text n = ((unit_of (last text) ≡ None) × IsNumeral 10 text × (n ≡ digits_value 10 text)) ⊎ IsCounted text (n * 512)
