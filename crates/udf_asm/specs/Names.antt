-- The names of the operations.
use Rattle.std.specs.Prelude.{ℕ, List, codes, if◌then◌else◌, Option, Some, None}
use Rattle.std.specs.Str.{bytes_eq}
use Rattle.udf_code.specs.declared.op.Op.{Op}
use Rattle.udf_code.specs.declared.op.Op.TheVariants.{Set, Mov, Add, Sub, Mul, Div, Rem, And, Shr, Load1, Load2, Load4, Emit, IfLess, IfEqual, Else, End, For}
use Rattle.udf_code.specs.declared.op.Op.TheVariants.{Keep}

abbrev pub name_of : Op → List ℕ
name_of Set = codes "SET"
name_of Mov = codes "MOV"
name_of Add = codes "ADD"
name_of Sub = codes "SUB"
name_of Mul = codes "MUL"
name_of Div = codes "DIV"
name_of Rem = codes "REM"
name_of And = codes "AND"
name_of Shr = codes "SHR"
name_of Load1 = codes "LD1"
name_of Load2 = codes "LD2"
name_of Load4 = codes "LD4"
name_of Emit = codes "EMIT"
name_of IfLess = codes "IFLT"
name_of IfEqual = codes "IFEQ"
name_of Else = codes "ELSE"
name_of End = codes "END"
name_of For = codes "FOR"
name_of Keep = codes "KEEP"

-- the operation of a name, where it has one
abbrev pub op_named : List ℕ → Option Op
op_named name =
    if bytes_eq name (name_of Set) then Some Set else
    if bytes_eq name (name_of Mov) then Some Mov else
    if bytes_eq name (name_of Add) then Some Add else
    if bytes_eq name (name_of Sub) then Some Sub else
    if bytes_eq name (name_of Mul) then Some Mul else
    if bytes_eq name (name_of Div) then Some Div else
    if bytes_eq name (name_of Rem) then Some Rem else
    if bytes_eq name (name_of And) then Some And else
    if bytes_eq name (name_of Shr) then Some Shr else
    if bytes_eq name (name_of Load1) then Some Load1 else
    if bytes_eq name (name_of Load2) then Some Load2 else
    if bytes_eq name (name_of Load4) then Some Load4 else
    if bytes_eq name (name_of Emit) then Some Emit else
    if bytes_eq name (name_of IfLess) then Some IfLess else
    if bytes_eq name (name_of IfEqual) then Some IfEqual else
    if bytes_eq name (name_of Else) then Some Else else
    if bytes_eq name (name_of End) then Some End else
    if bytes_eq name (name_of For) then Some For else
    if bytes_eq name (name_of Keep) then Some Keep else None
