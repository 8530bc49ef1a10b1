-- Where the words of an edit are cut.
use Rattle.std.specs.Prelude.{◌≡◌, ⊤, ℕ, ◌^◌, ◌<◌, ◌==◌, Bool, true, false, List, [], ◌∷◌, ◌++◌, Option, Some, None, All, codes}
use Rattle.std.specs.Fmt.{decimal}

-- a word begins with this byte
abbrev pub begins_with : ℕ → List ℕ → Bool
begins_with byte [] = false
begins_with byte (first ∷ rest) = first == byte

-- the first word does
abbrev pub first_begins_with : ℕ → List (List ℕ) → Bool
first_begins_with byte [] = false
first_begins_with byte (word ∷ words) = begins_with byte word

-- the first word is cut off where it begins with `@`, and spells the number of an entry
abbrev pub CutsAfter : List (List ℕ) → Option ℕ → List (List ℕ) → Type 0
CutsAfter words None rest = (words ≡ rest) × (first_begins_with 64 words ≡ false)
CutsAfter words (Some n) rest = (words ≡ (codes "@" ++ decimal n) ∷ rest) × (n < 2 ^ 64)

-- there is no word behind, or the first of them begins with this byte
abbrev pub NoneOrBegins : ℕ → List (List ℕ) → Type 0
NoneOrBegins byte [] = ⊤
NoneOrBegins byte (word ∷ words) = begins_with byte word ≡ true

-- the words are cut before the first that begins with this byte
pub record CutsBefore (byte : ℕ) (words front back : List (List ℕ)) : Type 0 where
  pub whole : words ≡ front ++ back
  pub before : All (λ word. begins_with byte word ≡ false) front
  pub behind : NoneOrBegins byte back
