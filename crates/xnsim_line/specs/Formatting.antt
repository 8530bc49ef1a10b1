-- Images that are made with the templates of files.
use Rattle.std.specs.Prelude.{◌≡◌, ◌⊎◌, ◌<◌, ◌≤◌, ℕ, ◌+◌, Bool, if◌then◌else◌, List, [], ◌∷◌, ◌++◌, map, length, Option, Err, IsOk, codes, All, Contains}
use Rattle.std.specs.Fmt.{decimal}
use Rattle.std.specs.Io.KnownBytes.{Appends}
use Rattle.templates.specs.declared.fault.TemplateFault.{TemplateFault}
use Rattle.templates.specs.declared.fault.TemplateFault.TheVariants as template
use Rattle.templates.specs.Templates.{template_bytes, IsTemplate, TemplateValue}
use Rattle.templates.specs.Reading.{template_of_bytes}
use Rattle.xn_model.specs.Images.{joined}
use Rattle.templates.specs.Formats.{formatted}
use Rattle.xnsim_line.specs.declared.fault.Fault.{Fault}
use Rattle.xnsim_line.specs.declared.fault.Fault.TheVariants as fault
use Rattle.xnsim_line.specs.Files.{Held, AreHeld, with_file}
use Rattle.ffs_format.specs.Library.{file_system_templates}

-- the line of an image that was made
abbrev pub made_line : ℕ → ℕ → List ℕ
made_line blocks templates = codes "blocks " ++ decimal blocks ++ codes " templates " ++ decimal templates ++ 10 ∷ []

-- blocks that spell these templates, one each
pub record AreTemplates (blocks : List (List ℕ)) (templates : List TemplateValue) : Type 0 where
  pub spelled : blocks ≡ map template_bytes templates
  pub all : All IsTemplate templates

-- the templates of the library's file system, where they are asked for, and these behind them
abbrev pub installed : Bool → List TemplateValue → List TemplateValue
installed file_system own = if file_system then file_system_templates ++ own else own

-- how many these are, where there are so many behind
abbrev pub installed_count : Bool → ℕ → ℕ
installed_count file_system count = if file_system then 3 + count else count

-- an image was made with the templates of these files and written, and its line printed
pub record PrintsMade (held held_after : Held) (image_name : List ℕ) (blocks : ℕ) (file_system : Bool) (names : List (List ℕ))
    (old new : Option (List ℕ)) : Type 0 where
  pub files : List (List ℕ)
  pub own : List TemplateValue
  pub image : List ℕ
  pub files_held : AreHeld held names files
  pub read : AreTemplates files own
  pub few : installed_count file_system (length names) ≤ 16
  pub made : image ≡ joined (formatted blocks (installed file_system own))
  pub written : held_after ≡ with_file held image_name image
  pub printed : Appends old new (made_line blocks (installed_count file_system (length names)))

-- why the files of these names are not read: one of them, or want of memory
abbrev pub IsFileFault : List (List ℕ) → Fault → Type 0
IsFileFault names (fault.CannotRead name) = Contains names name.now
IsFileFault names given = given ≡ fault.NoMemory

-- the blocks before this place are templates, and the one there has this fault, or is a template for which there is no memory
pub record IsFirstFault (blocks : List (List ℕ)) (place : ℕ) (found : TemplateFault) : Type 0 where
  pub before : List TemplateValue
  pub block : List ℕ
  pub after : List (List ℕ)
  pub placed : place ≡ length before
  pub split : blocks ≡ map template_bytes before ++ block ∷ after
  pub good : All IsTemplate before
  pub bad : ((found ≡ template.NoMemory) × IsOk (template_of_bytes block)) ⊎ (template_of_bytes block ≡ Err found)

-- why blocks give no templates
abbrev pub IsBlockFault : List (List ℕ) → Fault → Type 0
IsBlockFault blocks (fault.Template place found) = IsFirstFault blocks place found
IsBlockFault blocks given = given ≡ fault.NoMemory

-- why no image is made with so many templates: they are too many, or else want of memory
abbrev pub IsImageFault : ℕ → Fault → Type 0
IsImageFault count fault.TooManyTemplates = 16 < count
IsImageFault count given = (given ≡ fault.NoMemory) × (count ≤ 16)

-- some files, so many, have this fault
pub record IsSomeFault (count : ℕ) (place : ℕ) (found : TemplateFault) : Type 0 where
  pub files : List (List ℕ)
  pub counted : length files ≡ count
  pub first : IsFirstFault files place found

-- so many files, all of them of templates, are too many
pub record IsTooMany (file_system : Bool) (count : ℕ) : Type 0 where
  pub files : List (List ℕ)
  pub own : List TemplateValue
  pub counted : length files ≡ count
  pub read : AreTemplates files own
  pub many : 16 < installed_count file_system count
