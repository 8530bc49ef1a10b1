-- Faults of the program: their status, and what is printed of them.
use Rattle.std.specs.Prelude.{ℕ, List, [], ◌∷◌, ◌++◌, Option, codes}
use Rattle.std.specs.Fmt.{decimal}
use Rattle.std.specs.Io.KnownBytes.{Appends, Keeps}
use Rattle.xnsim_line.specs.declared.fault.Fault.{Fault}
use Rattle.xnsim_line.specs.declared.fault.Fault.TheVariants.{Usage, Unreadable, Image, NoMemory, Program, Owns, Size, Template, TooManyTemplates}
use Rattle.xnsim_line.specs.declared.fault.Fault.TheVariants.{TooManyWords}
use Rattle.script.specs.declared.fault.ScriptFault.{ScriptFault}
use Rattle.script.specs.declared.fault.ScriptFault.TheVariants as script
use Rattle.xnsim_line.specs.declared.invocation.LineFault.{LineFault}
use Rattle.xnsim_line.specs.declared.invocation.LineFault.TheVariants as line
use Rattle.templates.specs.Faults as template
use Rattle.store_types.specs.ImageFaults as image
use Rattle.xnsim_line.specs.ProgramFaults.{program_fault_text}

-- the status with which the program ends after a fault
abbrev pub status_of : Fault → ℕ
status_of Usage = 2
status_of _ = 1

-- what is printed of a fault: those of programs, templates and images, and no others
abbrev pub IsTold : Fault → Option (List ℕ) → Option (List ℕ) → Type 0
IsTold (Program fault) old new = Appends old new (program_fault_text fault ++ 10 ∷ [])
IsTold (Owns fault) old new = Appends old new (codes "owns " ++ program_fault_text fault ++ 10 ∷ [])
IsTold (Size fault) old new = Appends old new (codes "size " ++ program_fault_text fault ++ 10 ∷ [])
IsTold (Template place fault) old new = Appends old new (codes "template " ++ decimal place ++ codes ": " ++ template.template_fault_name fault ++ 10 ∷ [])
IsTold (Image fault) old new = Appends old new (codes "fault " ++ image.image_fault_text fault ++ 10 ∷ [])
IsTold TooManyTemplates old new = Appends old new (codes "too many templates" ++ 10 ∷ [])
IsTold TooManyWords old new = Appends old new (codes "too many words" ++ 10 ∷ [])
IsTold _ old new = Keeps old new

-- the fault of the program that a fault of its line is
abbrev pub of_line : LineFault → Fault
of_line line.Usage = Usage
of_line line.NoMemory = NoMemory

-- the fault of the program that a fault of its script is
abbrev pub of_script : ScriptFault → Fault
of_script (script.Unreadable number) = Unreadable number
of_script script.NoMemory = NoMemory
