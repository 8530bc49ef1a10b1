-- The words that bytes are, or the first place at which the bytes are no program.
use Rattle.std.specs.Prelude.{ℕ, ◌+◌, ◌-◌, ◌*◌, ◌/◌, ◌%◌, ◌==◌, ◌&&◌, nat_lt, nat_le, Bool, false, if◌then◌else◌, List, [], ◌∷◌, length, Option, Some, None}
use Rattle.std.specs.Prelude.{Result, Err}
use Rattle.std.specs.Option.{ok_or}
use Rattle.std.specs.Result.{result_map_both}
use Rattle.udf_code.specs.declared.op.Op.{Op}
use Rattle.udf_code.specs.declared.op.Op.TheVariants as op
use Rattle.udf_code.specs.declared.word.Word.{Word}
use Rattle.udf_code.specs.declared.word.Word.TheVariants.{Set, Mov, Add, Sub, Mul, Div, Rem, And, Shr, Load1, Load2, Load4, Emit, IfLess, IfEqual, Else, End}
use Rattle.udf_code.specs.declared.word.Word.TheVariants.{For, Keep}
use Rattle.udf_code.specs.declared.fault.CodeFault.{CodeFault}
use Rattle.udf_code.specs.declared.fault.CodeFault.TheVariants.{OddLength, BadOp, BadOperand, TooLong}
use Rattle.udf_code.specs.Codes.{op_of_code}
use Rattle.udf_code.specs.Bytes.{number_of_bytes}
use Rattle.udf_code.specs.Structure.{Place, place, after_word, all_closed, ◌>>=◌}

-- the value, where a test holds
abbrev pub when : {T : Type 0} → Bool → T → Option T
when test value = if test then Some value else None

abbrev pub is_register : ℕ → Bool
is_register n = nat_lt n 16

-- the operands of each kind of word, from the three bytes after its code
abbrev pub no_operand : Word → ℕ → ℕ → ℕ → Option Word
no_operand word x y z = when (x == 0 && y == 0 && z == 0) word

abbrev pub two_registers : (ℕ → ℕ → Word) → ℕ → ℕ → ℕ → Option Word
two_registers word x y z = when (is_register x && is_register y && z == 0) (word x y)

abbrev pub three_registers : (ℕ → ℕ → ℕ → Word) → ℕ → ℕ → ℕ → Option Word
three_registers word x y z = when (is_register x && is_register y && is_register z) (word x y z)

abbrev pub shifted_register : (ℕ → ℕ → ℕ → Word) → ℕ → ℕ → ℕ → Option Word
shifted_register word x y z = when (is_register x && is_register y && nat_lt z 32) (word x y z)

abbrev pub register_and_number : (ℕ → ℕ → Word) → ℕ → ℕ → ℕ → Option Word
register_and_number word x y z = when (is_register x) (word x (number_of_bytes y z))

abbrev pub register_and_turns : (ℕ → ℕ → Word) → ℕ → ℕ → ℕ → Option Word
register_and_turns word x y z = when (is_register x && nat_le 1 (number_of_bytes y z) && nat_le (number_of_bytes y z) 512) (word x (number_of_bytes y z))

-- the word of an operation with these three bytes, where they are in range
abbrev pub word_of : Op → ℕ → ℕ → ℕ → Option Word
word_of op.Set = register_and_number Set
word_of op.Mov = two_registers Mov
word_of op.Add = three_registers Add
word_of op.Sub = three_registers Sub
word_of op.Mul = three_registers Mul
word_of op.Div = three_registers Div
word_of op.Rem = three_registers Rem
word_of op.And = three_registers And
word_of op.Shr = shifted_register Shr
word_of op.Load1 = two_registers Load1
word_of op.Load2 = two_registers Load2
word_of op.Load4 = two_registers Load4
word_of op.Emit = two_registers Emit
word_of op.IfLess = two_registers IfLess
word_of op.IfEqual = two_registers IfEqual
word_of op.Else = no_operand Else
word_of op.End = no_operand End
word_of op.For = register_and_turns For
word_of op.Keep = register_and_number Keep

-- the word in four bytes
abbrev pub decoded_word : ℕ → ℕ → ℕ → ℕ → ℕ → Result Word CodeFault
decoded_word at code x y z = ok_or (op_of_code code) (BadOp at) >>= λ o. ok_or (word_of o x y z) (BadOperand at)

-- the words from this place on: each is read and then put in its place, before the next one is looked at
abbrev pub decoded_from : ℕ → List ℕ → Place → Result (List Word) CodeFault
decoded_from at [] p = result_map_both (λ _. []) (λ fault. fault) (all_closed at p.blocks)
decoded_from at (code ∷ x ∷ y ∷ z ∷ bytes) p =
    decoded_word at code x y z >>= λ word. after_word at word p >>= λ next. result_map_both (λ words. word ∷
    words) (λ fault. fault) (decoded_from (at + 1) bytes next)
decoded_from at bytes p = Err (OddLength (4 * at))

-- the words that bytes are, or the first fault: of the length, then word by word, last of what is still open
abbrev pub decoded : List ℕ → Result (List Word) CodeFault
decoded bytes =
    if length bytes % 4 == 0
    then (if nat_lt 127 (length bytes / 4) then Err TooLong else decoded_from 0 bytes (place [] false))
    else Err (OddLength (length bytes - length bytes % 4))
