-- The numbers and names of faults.
use Rattle.std.specs.Prelude.{ℕ, List, codes}
use Rattle.templates.specs.declared.fault.FormatFault.{FormatFault}
use Rattle.templates.specs.declared.fault.FormatFault.TheVariants as format
use Rattle.templates.specs.declared.fault.TemplateFault.{TemplateFault}
use Rattle.templates.specs.declared.fault.TemplateFault.TheVariants.{NoMemory, BadMark, BadCode, NotVerified, BytesAfter}

-- the number of what is wrong with a template's block
abbrev pub template_fault_number : TemplateFault → ℕ
template_fault_number NoMemory = 1
template_fault_number BadMark = 2
template_fault_number BadCode = 3
template_fault_number NotVerified = 4
template_fault_number BytesAfter = 5

-- the name of what is wrong with a template's block
abbrev pub template_fault_name : TemplateFault → List ℕ
template_fault_name NoMemory = codes "NoMemory"
template_fault_name BadMark = codes "BadMark"
template_fault_name BadCode = codes "BadCode"
template_fault_name NotVerified = codes "NotVerified"
template_fault_name BytesAfter = codes "BytesAfter"

-- the same of why no image is made
abbrev pub format_number : FormatFault → ℕ
format_number format.NoMemory = 1
format_number format.BadCount = 2
format_number format.TooManyTemplates = 3

abbrev pub format_name : FormatFault → List ℕ
format_name format.NoMemory = codes "NoMemory"
format_name format.BadCount = codes "BadCount"
format_name format.TooManyTemplates = codes "TooManyTemplates"
