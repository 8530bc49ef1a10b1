-- How words stand in bytes: four bytes a word.
use Rattle.std.specs.Prelude.{◌≡◌, ℕ, ◌+◌, ◌*◌, ◌/◌, ◌%◌, List, [], ◌∷◌}
use Rattle.std.specs.List.{flat_map}
use Rattle.udf_code.specs.declared.word.Word.{Word}
use Rattle.udf_code.specs.declared.word.Word.TheVariants.{Set, Mov, Add, Sub, Mul, Div, Rem, And, Shr, Load1, Load2, Load4, Emit, IfLess, IfEqual, Else, End}
use Rattle.udf_code.specs.declared.word.Word.TheVariants.{For, Keep}
use Rattle.udf_code.specs.Words.{AllInRange}
use Rattle.udf_code.specs.Tree.{Tree, Spells}
use Rattle.udf_code.specs.Codes.{op_of, code_of}

-- a number in two bytes, the low one first
abbrev pub low_byte : ℕ → ℕ
low_byte n = n % 256

abbrev pub high_byte : ℕ → ℕ
high_byte n = n / 256

abbrev pub number_of_bytes : ℕ → ℕ → ℕ
number_of_bytes low high = low + 256 * high

-- the three bytes after a word's code: its operands, and zeros
abbrev pub operand_bytes : Word → List ℕ
operand_bytes (Set a n) = a ∷ low_byte n ∷ high_byte n ∷ []
operand_bytes (Mov a b) = a ∷ b ∷ 0 ∷ []
operand_bytes (Add a b c) = a ∷ b ∷ c ∷ []
operand_bytes (Sub a b c) = a ∷ b ∷ c ∷ []
operand_bytes (Mul a b c) = a ∷ b ∷ c ∷ []
operand_bytes (Div a b c) = a ∷ b ∷ c ∷ []
operand_bytes (Rem a b c) = a ∷ b ∷ c ∷ []
operand_bytes (And a b c) = a ∷ b ∷ c ∷ []
operand_bytes (Shr a b k) = a ∷ b ∷ k ∷ []
operand_bytes (Load1 a b) = a ∷ b ∷ 0 ∷ []
operand_bytes (Load2 a b) = a ∷ b ∷ 0 ∷ []
operand_bytes (Load4 a b) = a ∷ b ∷ 0 ∷ []
operand_bytes (Emit a b) = a ∷ b ∷ 0 ∷ []
operand_bytes (IfLess a b) = a ∷ b ∷ 0 ∷ []
operand_bytes (IfEqual a b) = a ∷ b ∷ 0 ∷ []
operand_bytes Else = 0 ∷ 0 ∷ 0 ∷ []
operand_bytes End = 0 ∷ 0 ∷ 0 ∷ []
operand_bytes (For a n) = a ∷ low_byte n ∷ high_byte n ∷ []
operand_bytes (Keep a n) = a ∷ low_byte n ∷ high_byte n ∷ []

-- the four bytes of a word
abbrev pub word_bytes : Word → List ℕ
word_bytes word = code_of (op_of word) ∷ operand_bytes word

-- the bytes of words, one after the other
abbrev pub encoded : List Word → List ℕ
encoded words = flat_map word_bytes words

-- the bytes are a program, and these are its words
pub record IsCode (words : List Word) (bytes : List ℕ) : Type 0 where
  pub tree : Tree
  pub spells : Spells tree words
  pub in_range : AllInRange words
  pub written : bytes ≡ encoded words
