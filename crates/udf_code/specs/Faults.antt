-- What is printed of a fault.
use Rattle.std.specs.Prelude.{ℕ, List, [], ◌++◌, Option, Some, None, codes}
use Rattle.std.specs.Fmt.{decimal}
use Rattle.udf_code.specs.declared.fault.CodeFault.{CodeFault}
use Rattle.udf_code.specs.declared.fault.CodeFault.TheVariants.{NoMemory, OddLength, BadOp, BadOperand, Unmatched, MisplacedKeep, TooDeep, TooLong}

-- its name, without its place
abbrev pub fault_name : CodeFault → List ℕ
fault_name NoMemory = codes "NoMemory"
fault_name (OddLength at) = codes "OddLength"
fault_name (BadOp at) = codes "BadOp"
fault_name (BadOperand at) = codes "BadOperand"
fault_name (Unmatched at) = codes "Unmatched"
fault_name (MisplacedKeep at) = codes "MisplacedKeep"
fault_name (TooDeep at) = codes "TooDeep"
fault_name TooLong = codes "TooLong"

-- its place, where it has one
abbrev pub fault_place : CodeFault → Option ℕ
fault_place NoMemory = None
fault_place (OddLength at) = Some at
fault_place (BadOp at) = Some at
fault_place (BadOperand at) = Some at
fault_place (Unmatched at) = Some at
fault_place (MisplacedKeep at) = Some at
fault_place (TooDeep at) = Some at
fault_place TooLong = None

-- a place behind a name
abbrev pub place_text : Option ℕ → List ℕ
place_text None = []
place_text (Some at) = codes "(" ++ decimal at ++ codes ")"

-- its name, and its place in brackets where it has one
abbrev pub fault_text : CodeFault → List ℕ
fault_text fault = fault_name fault ++ place_text (fault_place fault)
