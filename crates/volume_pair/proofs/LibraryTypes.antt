-- The library's types, one by one.
use Rattle.std.proofs.Common.{◌∙◌, ◌≡◌, ℕ, ◌≤◌, ◌<◌, ◌+◌, zero, suc, sym, ap, arith, get_or}
use Rattle.xn_model.specs.Types.{Types}
use Rattle.xn_model.specs.Languages.{Extends}
use Rattle.xn_model.specs.Rules.{IsKeptType}
use Rattle.xn_model.specs.Worlds.{World, types_now}
use Rattle.ffs_model.specs.Library.{IsLibrary}
use Rattle.templates.specs.Tables.{HasTemplate, table_types, template_of}
use Rattle.templates.specs.Meaning.{owned_by, answer_of}
use Rattle.templates.specs.Templates.{TemplateValue}
use Rattle.ffs_format.specs.Library.{file_system_templates}
use Rattle.volume_pair.specs.LibraryTypes.{library_types, IsLibraryType}
use Rattle.volume_pair.proofs.Kept.{library_same}

-- all of them are the library
pub types_make : (T : Types) → IsLibrary library_types → ((t : ℕ) → 3 ≤ t → t ≤ 5 → IsLibraryType T t) → IsLibrary T
types_make T l each = library_same library_types T (λ t low high. let e = each t low high in (e.installed, e.owned, e.size)) l

-- what holds of each
pub three_types : (P : ℕ → Type 0) → P 3 → P 4 → P 5 → (t : ℕ) → 3 ≤ t → t ≤ 5 → P t
three_types P a b c zero low high = absurd (omega arith)
three_types P a b c (suc zero) low high = absurd (omega arith)
three_types P a b c (suc (suc zero)) low high = absurd (omega arith)
three_types P a b c (suc (suc (suc zero))) low high = a
three_types P a b c (suc (suc (suc (suc zero)))) low high = b
three_types P a b c (suc (suc (suc (suc (suc zero))))) low high = c
three_types P a b c (suc (suc (suc (suc (suc (suc t)))))) low high = absurd (omega arith)

pub library_type : (T : Types) → IsLibrary library_types → IsLibrary T → (t : ℕ) → 3 ≤ t → t ≤ 5 → IsLibraryType T t
library_type T l is t low high = record {
  installed = is.installed t low high;
  owned = λ i m. three_types (λ t. T.owned t m ≡ library_types.owned t m) (is.root m ∙ sym (l.root m)) (is.inodes m ∙ sym (l.inodes m)) (is.indirect m ∙ sym (l.indirect m)) t low high i;
  size = λ i m. three_types (λ t. T.size t m ≡ library_types.size t m) (is.root_size m ∙ sym (l.root_size m)) (is.inodes_size m ∙ sym (l.inodes_size m)) (is.indirect_size m ∙ sym (l.indirect_size m)) t low high i;
}

-- one that is kept is one still
pub kept_type : (w w' : World) (t : ℕ) → IsKeptType w w' t → IsLibraryType (types_now w) t → IsLibraryType (types_now w') t
kept_type w w' t k is = record { installed = k.installed; owned = k.owned ∙ is.owned; size = k.size ∙ is.size }

pub more_type : (T more : Types) (t : ℕ) → Extends T more → IsLibraryType T t → IsLibraryType more t
more_type T more t x is = record { installed = x.installed t is.installed; owned = x.owned t is.installed ∙ is.owned; size = x.size t is.installed ∙ is.size }

-- what its template says is one
pub says_library : (T : Types) (i : ℕ) (template : TemplateValue) → i < 3 → get_or file_system_templates i template ≡ template → HasTemplate T (3 + i) template → IsLibraryType T (3 + i)
unfolding table_types template_of
says_library T zero template lt e says = record { installed = says.installed; owned = λ j m. (says.owned m ∙ ap (λ (x : TemplateValue). owned_by x.owns m) (sym e)) j; size = λ j m. (says.size m ∙ ap (λ (x : TemplateValue). answer_of x.size m) (sym e)) j }
says_library T (suc zero) template lt e says = record { installed = says.installed; owned = λ j m. (says.owned m ∙ ap (λ (x : TemplateValue). owned_by x.owns m) (sym e)) j; size = λ j m. (says.size m ∙ ap (λ (x : TemplateValue). answer_of x.size m) (sym e)) j }
says_library T (suc (suc zero)) template lt e says = record { installed = says.installed; owned = λ j m. (says.owned m ∙ ap (λ (x : TemplateValue). owned_by x.owns m) (sym e)) j; size = λ j m. (says.size m ∙ ap (λ (x : TemplateValue). answer_of x.size m) (sym e)) j }
says_library T (suc (suc (suc i))) template lt e says = absurd (omega arith)
