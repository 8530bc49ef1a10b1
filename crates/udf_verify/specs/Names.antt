-- What is printed of a fault: the name of the rule that a program breaks, and the word.
use Rattle.std.specs.Prelude.{ℕ, List, ◌++◌, codes}
use Rattle.std.specs.Fmt.{decimal}
use Rattle.udf_verify.specs.declared.fault.VerifyFault.{VerifyFault}
use Rattle.udf_verify.specs.declared.fault.FaultKind.{FaultKind}
use Rattle.udf_verify.specs.declared.fault.FaultKind.TheVariants.{NoMemory, Load, Sum, Difference, Product, Divisor, Counter, SameRegister, DeadBranch, Keep}
use Rattle.udf_verify.specs.declared.fault.FaultKind.TheVariants.{Emits, Cost, SizeAnswer}

abbrev pub fault_kind_name : FaultKind → List ℕ
fault_kind_name NoMemory = codes "NoMemory"
fault_kind_name Load = codes "Load"
fault_kind_name Sum = codes "Sum"
fault_kind_name Difference = codes "Difference"
fault_kind_name Product = codes "Product"
fault_kind_name Divisor = codes "Divisor"
fault_kind_name Counter = codes "Counter"
fault_kind_name SameRegister = codes "SameRegister"
fault_kind_name DeadBranch = codes "DeadBranch"
fault_kind_name Keep = codes "Keep"
fault_kind_name Emits = codes "Emits"
fault_kind_name Cost = codes "Cost"
fault_kind_name SizeAnswer = codes "SizeAnswer"

-- the rule, and the word that breaks it
abbrev pub verify_fault_text : VerifyFault → List ℕ
verify_fault_text fault = fault_kind_name fault.kind ++ codes " at " ++ decimal fault.at
