-- What is told of faults of programs.
use Rattle.std.specs.Prelude.{ℕ, List, ◌++◌, codes}
use Rattle.udf_asm.specs.Faults as asm
use Rattle.udf_verify.specs.Names as verify
use Rattle.xnsim_line.specs.declared.program_fault.ProgramFault.{ProgramFault}
use Rattle.xnsim_line.specs.declared.program_fault.ProgramFault.TheVariants.{Text, Rule}

-- what is wrong with a program
abbrev pub program_fault_text : ProgramFault → List ℕ
program_fault_text (Text fault) = asm.asm_fault_text fault
program_fault_text (Rule fault) = codes "refused " ++ verify.verify_fault_text fault
