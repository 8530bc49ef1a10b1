-- What blocks say as templates, as the model has it.
use Rattle.std.specs.Prelude.{ℕ, List, option_map}
use Rattle.std.specs.Result.{result_ok}
use Rattle.xn_model.specs.Types.{Types}
use Rattle.xn_model.specs.Images.{block_of}
use Rattle.xn_model.specs.Languages.{Language, Template, types_in}
use Rattle.templates.specs.Templates.{TemplateValue}
use Rattle.templates.specs.Reading.{template_of_bytes}
use Rattle.templates.specs.Meaning.{owned_by, answer_of}

abbrev pub meaning_of : TemplateValue → Template
meaning_of t = record { owned = λ m. owned_by t.owns m; size = λ m. answer_of t.size m }

-- the template in a block, if there is one
unfoldable pub language : Language
language m = option_map meaning_of (result_ok (template_of_bytes m))

-- the types of an image's own catalogue
abbrev pub types_of_image : List (List ℕ) → Types
types_of_image blocks = types_in language (block_of blocks)
