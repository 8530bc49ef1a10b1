-- The text of words.
use Rattle.std.specs.Prelude.{◌≡◌, ℕ, List, [], ◌∷◌, ◌++◌}
use Rattle.std.specs.List.{flat_map}
use Rattle.std.specs.Fmt.{decimal}
use Rattle.udf_code.specs.declared.word.Word.{Word}
use Rattle.udf_code.specs.Words.{AllInRange}
use Rattle.udf_code.specs.Codes.{op_of}
use Rattle.udf_code.specs.Tree.{Tree, Spells}
use Rattle.udf_asm.specs.Names.{name_of}
use Rattle.udf_asm.specs.Operands.{operands_of}

-- an operand, after its space
abbrev pub operand_text : ℕ → List ℕ
operand_text number = 32 ∷ decimal number

-- the line of a word: the name, each operand after a space, and a newline
abbrev pub line_text : Word → List ℕ
line_text word = name_of (op_of word) ++ (flat_map operand_text (operands_of word) ++ (10 ∷ []))

-- the lines of words
abbrev pub text_of : List Word → List ℕ
text_of words = flat_map line_text words

-- the text is a program, and these are its words
pub record IsText (words : List Word) (text : List ℕ) : Type 0 where
  pub tree : Tree
  pub spells : Spells tree words
  pub in_range : AllInRange words
  pub written : text ≡ text_of words
