-- In which block each of the newest entries is pending.
use Rattle.std.specs.Prelude.{◌≡◌, ℕ, ◌-◌, true, bit_and, cond, ◌==◌, List, length, Option, Some, None, slice_index_or, slice_set}
use Rattle.xn_model.specs.Lives.{Lives, life_at}
use Rattle.dependencies.specs.Pending.{pends}

-- the slot of a number, of so many: its lowest bits, as there are 2 ^ k slots. No contract needs that, since two numbers may have one slot anyway
abbrev pub slot_of : ℕ → ℕ → ℕ
slot_of slots n = bit_and n (slots - 1)

-- a number stands in its slot until a later one takes that
abbrev pub slot_at : List (ℕ × ℕ) → ℕ → ℕ × ℕ
slot_at homes n = slice_index_or homes (slot_of (length homes) n) (0, 0)

abbrev pub home_of : List (ℕ × ℕ) → ℕ → Option ℕ
home_of homes n = cond ((slot_at homes n).0 == n) (Some (slot_at homes n).1) None

abbrev pub homes_with : List (ℕ × ℕ) → ℕ → ℕ → List (ℕ × ℕ)
homes_with homes n b = slice_set homes (slot_of (length homes) n) (n, b)

-- an entry that has a home is pending there, if it is pending anywhere
abbrev pub AreHomes : Lives → List (ℕ × ℕ) → Type 0
AreHomes lives homes = (n b c : ℕ) → pends n (life_at lives b) ≡ true → home_of homes n ≡ Some c → c ≡ b
