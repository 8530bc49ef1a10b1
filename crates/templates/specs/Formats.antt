-- A fresh disk: block 0, the blocks of the templates it is made with, and blocks of zeros.
use Rattle.std.specs.Prelude.{◌≡◌, ◌⊎◌, ℕ, ◌+◌, ◌-◌, ◌*◌, nat_le, ◌&&◌, if◌then◌else◌, List, ◌∷◌, ◌++◌, map, length, replicate, Option, Some, None}
use Rattle.std.specs.Int.{w32, to_le_bytes}
use Rattle.std.specs.List.{flat_map, range_with_len}
use Rattle.xn_model.specs.BareDisks.{zeros}
use Rattle.xn_model.specs.Mounts.{Found}
use Rattle.templates.specs.declared.fault.FormatFault.{FormatFault}
use Rattle.templates.specs.declared.fault.FormatFault.TheVariants.{NoMemory, BadCount, TooManyTemplates}
use Rattle.templates.specs.Templates.{TemplateValue, template_bytes}
use Rattle.templates.specs.Tables.{TableValue}
use Rattle.templates.specs.RootFields.{root_mark}

-- pointers to the n blocks from block 1 on
abbrev pub pointer_bytes : ℕ → List ℕ
pointer_bytes n = flat_map (to_le_bytes w32) (range_with_len 1 n)

-- block 0 of a disk of so many blocks with n templates: the mark, the count, the pointers, then zeros
unfoldable pub formatted_root : ℕ → ℕ → List ℕ
formatted_root count n = root_mark ++ (to_le_bytes w32 count ++ (pointer_bytes n ++ zeros (504 - 4 * n)))

-- its blocks: template i stands in block 1 + i
unfoldable pub formatted : ℕ → List TemplateValue → List (List ℕ)
formatted count templates =
    formatted_root count (length templates)
    ∷ (map template_bytes templates ++ replicate (count - 1 - length templates) (zeros 512))

-- what a mount of it finds: block 0, and template i in block 1 + i, which is nobody's
abbrev pub root_found : Found
root_found = record { block = 0; ty = 0; owner = None; fs = None }

abbrev pub template_found : ℕ → Found
template_found i = record { block = 1 + i; ty = 1; owner = Some 0; fs = None }

abbrev pub fresh_found : ℕ → List Found
fresh_found n = root_found ∷ map template_found (range_with_len 0 n)

-- the most blocks of a disk whose image is made whole in memory, or held there by a world
abbrev pub most_formatted : ℕ
most_formatted = 32768

-- the first fault of such a disk: its count of blocks, then its count of templates
abbrev pub format_fault : ℕ → ℕ → Option FormatFault
format_fault count n =
    if nat_le 32 count && nat_le count most_formatted
    then (if nat_le n 16 then None else Some TooManyTemplates)
    else Some BadCount

-- why there is no such disk: its first fault, and last want of memory
abbrev pub IsFormatFault : ℕ → ℕ → FormatFault → Type 0
IsFormatFault count n fault = (format_fault count n ≡ Some fault) ⊎ ((fault ≡ NoMemory) × (format_fault count n ≡ None))

-- the table of these templates, from place 0 on
abbrev pub table_of : List TemplateValue → TableValue
table_of templates = map Some templates ++ replicate (16 - length templates) None
