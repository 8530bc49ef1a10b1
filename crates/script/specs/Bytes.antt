-- Bytes as they are printed.
use Rattle.std.specs.Prelude.{ℕ, ◌+◌, ◌/◌, ◌%◌, ◌==◌, nat_lt, if◌then◌else◌, List, [], ◌∷◌, take, codes}
use Rattle.std.specs.List.{flat_map}

-- how many bytes there are up to the last one that is not zero
abbrev pub used_length : List ℕ → ℕ
used_length [] = 0
used_length (byte ∷ bytes) = if used_length bytes == 0 then (if byte == 0 then 0 else 1) else used_length bytes + 1

-- a lower-case digit of base 16, and the two of a byte
abbrev pub hex_digit : ℕ → ℕ
hex_digit n = if nat_lt n 10 then 48 + n else 87 + n

abbrev pub hex_pair : ℕ → List ℕ
hex_pair byte = hex_digit (byte / 16) ∷ hex_digit (byte % 16) ∷ []

-- pairs of digits, or `-` for none
abbrev pub hex_text : List ℕ → List ℕ
hex_text [] = codes "-"
hex_text (byte ∷ bytes) = flat_map hex_pair (byte ∷ bytes)

-- bytes without the zeros at their end
abbrev pub bytes_text : List ℕ → List ℕ
bytes_text bytes = hex_text (take (used_length bytes) bytes)
