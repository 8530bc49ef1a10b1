-- The words that a text is, or its first fault.
use Rattle.std.specs.Prelude.{ℕ, ◌+◌, ◌==◌, Bool, if◌then◌else◌, List, [], ◌∷◌, length, Option, Some, None, Result, Ok, Err}
use Rattle.std.specs.List.{slice_split}
use Rattle.std.specs.Option.{ok_or}
use Rattle.std.specs.Result.{result_map_both}
use Rattle.udf_code.specs.declared.op.Op.{Op}
use Rattle.udf_code.specs.declared.word.Word.{Word}
use Rattle.udf_code.specs.declared.fault.CodeFault.{CodeFault}
use Rattle.udf_code.specs.declared.fault.CodeFault.TheVariants as code
use Rattle.udf_code.specs.Structure.{structure_of, ◌>>=◌}
use Rattle.udf_asm.specs.declared.fault.AsmKind.{AsmKind}
use Rattle.udf_asm.specs.declared.fault.AsmKind.TheVariants.{NoMemory, BadLine, BadName, BadCount, BadNumber, Code}
use Rattle.udf_asm.specs.declared.fault.AsmFault.{AsmFault}
use Rattle.udf_asm.specs.Names.{op_named}
use Rattle.udf_asm.specs.Numbers.{numbers_of_all}
use Rattle.udf_asm.specs.Numbers as numbers
use Rattle.udf_asm.specs.Operands.{operand_count, word_with}

abbrev pub is_newline : ℕ → Bool
is_newline byte = byte == 10

abbrev pub is_space : ℕ → Bool
is_space byte = byte == 32

-- the parts of what stands behind the first cut, where there was one
abbrev pub parts_after : (ℕ → Bool) → Option (List ℕ) → List (List ℕ)
parts_after test None = []
parts_after test (Some rest) = slice_split test rest

-- the word of an operation with these operands
abbrev pub operands_read : Op → List (List ℕ) → Result Word AsmKind
operands_read op operands =
    if length operands == operand_count op then ok_or (numbers.◌>>=◌ (numbers_of_all operands) (word_with op)) BadNumber else Err BadCount

-- the word of a name and its operands
abbrev pub parts_read : List (List ℕ) → Result Word AsmKind
parts_read [] = Err BadName
parts_read (name ∷ operands) = ok_or (op_named name) BadName >>= λ op. operands_read op operands

-- the word of a line, which is cut at every space
abbrev pub line_read : List ℕ → Result Word AsmKind
line_read [] = Err BadLine
line_read (byte ∷ line) = parts_read (slice_split is_space (byte ∷ line))

abbrev pub at_line : {T : Type 0} → ℕ → Result T AsmKind → Result T AsmFault
at_line line r = result_map_both (λ x. x) (λ kind. record { line = line; kind = kind }) r

-- what stands behind the last newline of a text is empty, or a line without its newline
abbrev pub last_read : ℕ → List ℕ → Result (List Word) AsmFault
last_read line [] = Ok []
last_read line (byte ∷ bytes) = Err (record { line = line; kind = BadLine })

-- the words of a text that is cut at every newline, from a line on
abbrev pub lines_read : ℕ → List (List ℕ) → Result (List Word) AsmFault
lines_read line [] = Ok []
lines_read line (last ∷ []) = last_read line last
lines_read line (text ∷ next ∷ texts) =
    at_line line (line_read text) >>= λ word. result_map_both (λ words. word ∷ words) (λ fault. fault) (lines_read (line + 1) (next ∷ texts))

-- the line of a fault of the words of this many lines: that of the word, or the line after the last one
abbrev pub line_of : ℕ → CodeFault → ℕ
line_of count (code.Unmatched at) = at + 1
line_of count (code.MisplacedKeep at) = at + 1
line_of count (code.TooDeep at) = at + 1
line_of count fault = count + 1

abbrev pub code_fault : ℕ → CodeFault → AsmFault
code_fault count fault = record { line = line_of count fault; kind = Code fault }

-- the words, where they are a program
abbrev pub checked : List Word → Result (List Word) AsmFault
checked words = result_map_both (λ _. words) (code_fault (length words)) (structure_of words)

-- the words that a text is, or its first fault: of the lines, and then of the words
abbrev pub assembled : List ℕ → Result (List Word) AsmFault
assembled text = lines_read 1 (slice_split is_newline text) >>= checked

-- the fault where there is no memory for the words
abbrev pub no_memory : AsmFault
no_memory = record { line = 1; kind = NoMemory }
