use Rattle.std.specs.Prelude.{◌≡◌, ◌≢◌, ◌<◌, ◌^◌, ℕ, List, length, slice_index}
use Rattle.std.specs.Fmt.{decimal}
use Rattle.std.specs.List.{AllZip}

-- a text with no sign and no leading zero
pub record IsPlain (text : List ℕ) : Type 0 where
  pub no_sign : slice_index text 0 ≢ 43
  pub no_zero : slice_index text 0 ≡ 48 → length text ≡ 1

-- a word that spells a number of 32 bits
pub record SpellsNumber (word : List ℕ) (n : ℕ) : Type 0 where
  pub spelled : word ≡ decimal n
  pub small : n < 2 ^ 32

-- words that spell numbers, one a word
abbrev pub SpellNumbers : List (List ℕ) → List ℕ → Type 0
SpellNumbers words numbers = AllZip SpellsNumber words numbers
