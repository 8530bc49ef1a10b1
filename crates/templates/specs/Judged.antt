-- The words of two programs that make a template.
use Rattle.std.specs.Prelude.{◌+◌, ◌≤◌, List, length, IsOk}
use Rattle.udf_code.specs.declared.word.Word.{Word}
use Rattle.udf_code.specs.Reading.{tree_of}
use Rattle.udf_code.specs.Structure.{structure_of}
use Rattle.udf_verify.specs.declared.fault.Role.TheVariants as role
use Rattle.udf_verify.specs.Verdict.{IsAccepted}
use Rattle.templates.specs.Templates.{TemplateValue}

abbrev pub template_of_words : List Word → List Word → TemplateValue
template_of_words owns size = record { owns = record { words = owns; role = role.Owns }; size = record { words = size; role = role.Size } }

pub record MakeTemplate (owns size : List Word) : Type 0 where
  pub owns_program : IsOk (structure_of owns)
  pub size_program : IsOk (structure_of size)
  pub owns_accepted : IsAccepted role.Owns (tree_of owns)
  pub size_accepted : IsAccepted role.Size (tree_of size)
  pub short : length owns + length size ≤ 127
