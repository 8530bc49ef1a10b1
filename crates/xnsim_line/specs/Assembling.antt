-- Templates that are made of two texts.
use Rattle.std.specs.Prelude.{◌≡◌, ◌<◌, ℕ, ◌+◌, List, [], ◌∷◌, ◌++◌, length, Option, codes}
use Rattle.std.specs.Fmt.{decimal}
use Rattle.std.specs.Io.KnownBytes.{Appends}
use Rattle.udf_verify.specs.declared.fault.Role.TheVariants as role
use Rattle.udf_verify.specs.Program.{Program}
use Rattle.templates.specs.Templates.{template_bytes, IsTemplate, TemplateValue}
use Rattle.xnsim_line.specs.declared.fault.Fault.{Fault}
use Rattle.xnsim_line.specs.declared.fault.Fault.TheVariants as fault
use Rattle.xnsim_line.specs.Files.{Held, with_file}
use Rattle.xnsim_line.specs.Programs.{IsProgramFault, IsProgramOf}

-- the line of a template that was made, with the counts of its words
abbrev pub template_line : ℕ → ℕ → List ℕ
template_line owns size = codes "template owns " ++ decimal owns ++ codes " size " ++ decimal size ++ 10 ∷ []

-- the two texts are those of the template's programs
pub record IsTemplateOf (owns_text size_text : List ℕ) (template : TemplateValue) : Type 0 where
  pub owns : IsProgramOf owns_text role.Owns template.owns
  pub size : IsProgramOf size_text role.Size template.size
  pub sound : IsTemplate template

-- the block of the template of the two texts was made and written, and its line printed
pub record PrintsTemplate (held held_after : Held) (block_name owns_text size_text : List ℕ) (old new : Option (List ℕ)) : Type 0 where
  pub template : TemplateValue
  pub block : List ℕ
  pub read : IsTemplateOf owns_text size_text template
  pub made : block ≡ template_bytes template
  pub written : held_after ≡ with_file held block_name block
  pub printed : Appends old new (template_line (length template.owns.words) (length template.size.words))

-- the two texts are those of programs that have too many words for one template
pub record IsTooLong (owns_text size_text : List ℕ) : Type 0 where
  pub owns : Program
  pub size : Program
  pub owns_read : IsProgramOf owns_text role.Owns owns
  pub size_read : IsProgramOf size_text role.Size size
  pub long : 127 < length owns.words + length size.words

-- why two texts make no template: first what is wrong with the owns text or its program, then what is wrong with the size
-- text or its program, then their length
abbrev pub IsTemplateFault : List ℕ → List ℕ → Fault → Type 0
IsTemplateFault owns_text size_text (fault.Owns found) = IsProgramFault owns_text role.Owns found
IsTemplateFault owns_text size_text (fault.Size found) = (owns : Program) × IsProgramOf owns_text role.Owns owns × IsProgramFault size_text role.Size found
IsTemplateFault owns_text size_text fault.TooManyWords = IsTooLong owns_text size_text
IsTemplateFault owns_text size_text other = ⊥
