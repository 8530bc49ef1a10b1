-- Which operation a word names, and the byte that stands for it.
use Rattle.std.specs.Prelude.{ℕ, ◌==◌, if◌then◌else◌, Option, Some, None}
use Rattle.udf_code.specs.declared.op.Op.{Op}
use Rattle.udf_code.specs.declared.op.Op.TheVariants as op
use Rattle.udf_code.specs.declared.word.Word.{Word}
use Rattle.udf_code.specs.declared.word.Word.TheVariants.{Set, Mov, Add, Sub, Mul, Div, Rem, And, Shr, Load1, Load2, Load4, Emit, IfLess, IfEqual, Else, End}
use Rattle.udf_code.specs.declared.word.Word.TheVariants.{For, Keep}

-- the operation of a word
abbrev pub op_of : Word → Op
op_of (Set a n) = op.Set
op_of (Mov a b) = op.Mov
op_of (Add a b c) = op.Add
op_of (Sub a b c) = op.Sub
op_of (Mul a b c) = op.Mul
op_of (Div a b c) = op.Div
op_of (Rem a b c) = op.Rem
op_of (And a b c) = op.And
op_of (Shr a b k) = op.Shr
op_of (Load1 a b) = op.Load1
op_of (Load2 a b) = op.Load2
op_of (Load4 a b) = op.Load4
op_of (Emit a b) = op.Emit
op_of (IfLess a b) = op.IfLess
op_of (IfEqual a b) = op.IfEqual
op_of Else = op.Else
op_of End = op.End
op_of (For a n) = op.For
op_of (Keep a n) = op.Keep

-- the byte of an operation
abbrev pub code_of : Op → ℕ
code_of op.Set = 0x01
code_of op.Mov = 0x02
code_of op.Add = 0x03
code_of op.Sub = 0x04
code_of op.Mul = 0x05
code_of op.Div = 0x06
code_of op.Rem = 0x07
code_of op.And = 0x08
code_of op.Shr = 0x09
code_of op.Load1 = 0x0a
code_of op.Load2 = 0x0b
code_of op.Load4 = 0x0c
code_of op.Emit = 0x0d
code_of op.IfLess = 0x0e
code_of op.IfEqual = 0x0f
code_of op.Else = 0x10
code_of op.End = 0x11
code_of op.For = 0x12
code_of op.Keep = 0x13

-- the operation of a byte, where it has one
abbrev pub op_of_code : ℕ → Option Op
op_of_code code =
    if code == 0x01 then Some op.Set else
    if code == 0x02 then Some op.Mov else
    if code == 0x03 then Some op.Add else
    if code == 0x04 then Some op.Sub else
    if code == 0x05 then Some op.Mul else
    if code == 0x06 then Some op.Div else
    if code == 0x07 then Some op.Rem else
    if code == 0x08 then Some op.And else
    if code == 0x09 then Some op.Shr else
    if code == 0x0a then Some op.Load1 else
    if code == 0x0b then Some op.Load2 else
    if code == 0x0c then Some op.Load4 else
    if code == 0x0d then Some op.Emit else
    if code == 0x0e then Some op.IfLess else
    if code == 0x0f then Some op.IfEqual else
    if code == 0x10 then Some op.Else else
    if code == 0x11 then Some op.End else
    if code == 0x12 then Some op.For else
    if code == 0x13 then Some op.Keep else None
