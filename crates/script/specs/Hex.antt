use Rattle.std.specs.Prelude.{◌≡◌, ℕ, ◌+◌, ◌-◌, ◌*◌, ◌%◌, ◌<◌, ◌≤◌, ◌⊎◌, Bool, ◌&&◌, ◌||◌, nat_le, List, ◌++◌, length, take, drop, replicate, IsTrue, slice_index, if◌then◌else◌, codes}

-- one of 0 to 9 and a to f
abbrev pub is_hex_digit : ℕ → Bool
is_hex_digit c = (nat_le 48 c && nat_le c 57) || (nat_le 97 c && nat_le c 102)

-- the value of such a digit, and 0 for any other byte
abbrev pub hex_digit_value : ℕ → ℕ
hex_digit_value c = if nat_le 48 c && nat_le c 57 then c - 48 else if nat_le 97 c && nat_le c 102 then c - 87 else 0

-- all of these are digits
abbrev pub AreHexDigits : List ℕ → Type 0
AreHexDigits text = (k : ℕ) → k < length text → IsTrue (is_hex_digit (slice_index text k))

-- one to 512 pairs of digits
pub record IsHex (text : List ℕ) : Type 0 where
  pub pairs : length text % 2 ≡ 0
  pub some : 0 < length text
  pub few : length text ≤ 1024
  pub digits : AreHexDigits text

-- the k-th byte that a text of pairs spells, and 0 past its end
abbrev pub hex_byte : List ℕ → ℕ → ℕ
hex_byte text k = 16 * hex_digit_value (slice_index text (2 * k)) + hex_digit_value (slice_index text (2 * k + 1))

-- pairs of digits, or `-` for none
abbrev pub IsBlockText : List ℕ → Type 0
IsBlockText text = IsHex text ⊎ (text ≡ codes "-")

-- the block that a text spells: its bytes, and zeros behind them
abbrev pub SpellsBlock : List ℕ → List ℕ → Type 0
SpellsBlock text block = (k : ℕ) → k < 512 → slice_index block k ≡ hex_byte text k

-- the bytes that a text of pairs spells, and no others
pub record SpellsBytes (text bytes : List ℕ) : Type 0 where
  pub count : length text ≡ 2 * length bytes
  pub each : (k : ℕ) → k < length bytes → slice_index bytes k ≡ hex_byte text k

-- the block that begins with these bytes, as far as it has room, and has zeros behind them
abbrev pub block_with : List ℕ → List ℕ
block_with bytes = take 512 bytes ++ drop (length (take 512 bytes)) (replicate 512 0)
