-- A table has the templates of all types. Types 0 to 2 are built in, and type 3 + i stands at place i of the catalogue.
use Rattle.std.specs.Prelude.{◌≡◌, ℕ, ◌-◌, ◌==◌, nat_lt, if◌then◌else◌, IsTrue, false, List, [], map, length, slice_index_or, replicate, Option, Some, None}
use Rattle.std.specs.Prelude.{is_some, is_ok}
use Rattle.std.specs.Option.{ForSome}
use Rattle.std.specs.Result.{result_ok}
use Rattle.std.specs.List.{range_with_len}
use Rattle.xn_model.specs.Root.{pointer}
use Rattle.xn_model.specs.Types.{Types}
use Rattle.templates.specs.Templates.{TemplateValue, IsTemplate}
use Rattle.templates.specs.BuiltIns.{built_in}
use Rattle.templates.specs.Reading.{template_of_bytes}
use Rattle.templates.specs.Meaning.{owned_by, answer_of}

-- the 16 places of the catalogue
abbrev pub TableValue : Type 0
TableValue = List (Option TemplateValue)

pub record IsTable (table : TableValue) : Type 0 where
  pub places : length table ≡ 16
  pub templates : (i : ℕ) → ForSome (slice_index_or table i None) IsTemplate

-- no template at any place
abbrev pub no_templates : TableValue
no_templates = replicate 16 None

-- the template of a type
unfoldable pub template_of : TableValue → ℕ → Option TemplateValue
template_of table t = if nat_lt t 3 then Some (built_in t) else slice_index_or table (t - 3) None

-- what a block points to under a template, and from where on it is 0; without one it points to nothing and may use all 512 bytes
abbrev pub owned_under : Option TemplateValue → List ℕ → List (ℕ × ℕ)
owned_under None m = []
owned_under (Some t) m = owned_by t.owns m

abbrev pub size_under : Option TemplateValue → List ℕ → ℕ
size_under None m = 512
size_under (Some t) m = answer_of t.size m

-- the meaning of type numbers that a table gives
unfoldable pub table_types : TableValue → Types
table_types table = record {
  installed = λ t. is_some (template_of table t);
  owned = λ t m. owned_under (template_of table t) m;
  size = λ t m. size_under (template_of table t) m;
  template = λ m. is_ok (template_of_bytes m);
}

-- the template in the block that a pointer of block 0 names; a pointer of 0 names none
abbrev pub template_named : (ℕ → List ℕ) → ℕ → Option TemplateValue
template_named content block = if block == 0 then None else result_ok (template_of_bytes (content block))

-- the table that the catalogue in block 0 names
unfoldable pub table_of_image : (ℕ → List ℕ) → TableValue
table_of_image content = map (λ i. template_named content (pointer (content 0) i)) (range_with_len 0 16)

-- type t is installed, with the meaning of a template
pub record HasTemplate (T : Types) (t : ℕ) (template : TemplateValue) : Type 0 where
  pub installed : IsTrue (T.installed t)
  pub owned : (m : List ℕ) → T.owned t m ≡ owned_by template.owns m
  pub size : (m : List ℕ) → T.size t m ≡ answer_of template.size m

-- what a look-up of a type's template tells: none where the type is not installed
abbrev pub TellsTemplate : Types → ℕ → Option TemplateValue → Type 0
TellsTemplate T t (Some template) = HasTemplate T t template
TellsTemplate T t None = T.installed t ≡ false
