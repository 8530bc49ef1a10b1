-- What is printed of a fault.
use Rattle.std.specs.Prelude.{ℕ, List, ◌++◌, codes}
use Rattle.std.specs.Fmt.{decimal}
use Rattle.udf_code.specs.Faults as code
use Rattle.udf_asm.specs.declared.fault.AsmFault.{AsmFault}
use Rattle.udf_asm.specs.declared.fault.AsmKind.{AsmKind}
use Rattle.udf_asm.specs.declared.fault.AsmKind.TheVariants.{NoMemory, BadLine, BadName, BadCount, BadNumber, Code}

-- its name; that of a fault of the words stands without its place
abbrev pub kind_name : AsmKind → List ℕ
kind_name NoMemory = codes "NoMemory"
kind_name BadLine = codes "BadLine"
kind_name BadName = codes "BadName"
kind_name BadCount = codes "BadCount"
kind_name BadNumber = codes "BadNumber"
kind_name (Code fault) = code.fault_name fault

-- the line, and what is wrong with it
abbrev pub asm_fault_text : AsmFault → List ℕ
asm_fault_text fault = codes "line " ++ decimal fault.line ++ codes ": " ++ kind_name fault.kind
