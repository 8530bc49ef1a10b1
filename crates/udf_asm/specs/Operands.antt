-- The operands of each operation.
use Rattle.std.specs.Prelude.{ℕ, ◌&&◌, nat_lt, nat_le, List, [], ◌∷◌, Option, Some, None}
use Rattle.udf_code.specs.declared.op.Op.{Op}
use Rattle.udf_code.specs.declared.op.Op.TheVariants as op
use Rattle.udf_code.specs.declared.word.Word.{Word}
use Rattle.udf_code.specs.declared.word.Word.TheVariants.{Set, Mov, Add, Sub, Mul, Div, Rem, And, Shr, Load1, Load2, Load4, Emit, IfLess, IfEqual, Else, End}
use Rattle.udf_code.specs.declared.word.Word.TheVariants.{For, Keep}
use Rattle.udf_code.specs.Decoding.{when, is_register}

-- how many operands
abbrev pub operand_count : Op → ℕ
operand_count op.Set = 2
operand_count op.Mov = 2
operand_count op.Add = 3
operand_count op.Sub = 3
operand_count op.Mul = 3
operand_count op.Div = 3
operand_count op.Rem = 3
operand_count op.And = 3
operand_count op.Shr = 3
operand_count op.Load1 = 2
operand_count op.Load2 = 2
operand_count op.Load4 = 2
operand_count op.Emit = 2
operand_count op.IfLess = 2
operand_count op.IfEqual = 2
operand_count op.Else = 0
operand_count op.End = 0
operand_count op.For = 2
operand_count op.Keep = 2

-- the operands of a word, in the order in which they are written
abbrev pub operands_of : Word → List ℕ
operands_of (Set a n) = a ∷ n ∷ []
operands_of (Mov a b) = a ∷ b ∷ []
operands_of (Add a b c) = a ∷ b ∷ c ∷ []
operands_of (Sub a b c) = a ∷ b ∷ c ∷ []
operands_of (Mul a b c) = a ∷ b ∷ c ∷ []
operands_of (Div a b c) = a ∷ b ∷ c ∷ []
operands_of (Rem a b c) = a ∷ b ∷ c ∷ []
operands_of (And a b c) = a ∷ b ∷ c ∷ []
operands_of (Shr a b k) = a ∷ b ∷ k ∷ []
operands_of (Load1 a b) = a ∷ b ∷ []
operands_of (Load2 a b) = a ∷ b ∷ []
operands_of (Load4 a b) = a ∷ b ∷ []
operands_of (Emit a b) = a ∷ b ∷ []
operands_of (IfLess a b) = a ∷ b ∷ []
operands_of (IfEqual a b) = a ∷ b ∷ []
operands_of Else = []
operands_of End = []
operands_of (For a n) = a ∷ n ∷ []
operands_of (Keep a n) = a ∷ n ∷ []

-- the word of an operation that takes no operand
abbrev pub bare_word : Op → Option Word
bare_word op.Else = Some Else
bare_word op.End = Some End
bare_word operation = None

-- the word of an operation that takes two operands, where they are in range
abbrev pub word_of_two : Op → ℕ → ℕ → Option Word
word_of_two op.Set a n = when (is_register a) (Set a n)
word_of_two op.Mov a b = when (is_register a && is_register b) (Mov a b)
word_of_two op.Load1 a b = when (is_register a && is_register b) (Load1 a b)
word_of_two op.Load2 a b = when (is_register a && is_register b) (Load2 a b)
word_of_two op.Load4 a b = when (is_register a && is_register b) (Load4 a b)
word_of_two op.Emit a b = when (is_register a && is_register b) (Emit a b)
word_of_two op.IfLess a b = when (is_register a && is_register b) (IfLess a b)
word_of_two op.IfEqual a b = when (is_register a && is_register b) (IfEqual a b)
word_of_two op.For a n = when (is_register a && nat_le 1 n && nat_le n 512) (For a n)
word_of_two op.Keep a n = when (is_register a) (Keep a n)
word_of_two operation a b = None

-- the word of an operation that takes three operands, where they are in range
abbrev pub word_of_three : Op → ℕ → ℕ → ℕ → Option Word
word_of_three op.Add a b c = when (is_register a && is_register b && is_register c) (Add a b c)
word_of_three op.Sub a b c = when (is_register a && is_register b && is_register c) (Sub a b c)
word_of_three op.Mul a b c = when (is_register a && is_register b && is_register c) (Mul a b c)
word_of_three op.Div a b c = when (is_register a && is_register b && is_register c) (Div a b c)
word_of_three op.Rem a b c = when (is_register a && is_register b && is_register c) (Rem a b c)
word_of_three op.And a b c = when (is_register a && is_register b && is_register c) (And a b c)
word_of_three op.Shr a b k = when (is_register a && is_register b && nat_lt k 32) (Shr a b k)
word_of_three operation a b c = None

-- the word of an operation with these operands, each below 2 ^ 16
abbrev pub word_with : Op → List ℕ → Option Word
word_with operation [] = bare_word operation
word_with operation (a ∷ b ∷ []) = word_of_two operation a b
word_with operation (a ∷ b ∷ c ∷ []) = word_of_three operation a b c
word_with operation operands = None
