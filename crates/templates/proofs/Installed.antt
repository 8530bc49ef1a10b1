-- What a table means once a template is put into an empty place of it.
use Rattle.std.proofs.Common.{◌≡◌, ◌≢◌, ℕ, ◌+◌, ◌-◌, ◌<◌, List, get_or, length, refl, sym, ◌∙◌, ap, inl, inr, arith}
use Rattle.std.specs.Prelude.{◌==◌, Option, Some, None, Result, Ok, Err, IsOk, false, true, is_some, nat_lt, option_map, slice_set}
use Rattle.std.specs.Result.{result_ok}
use Rattle.std.proofs.lemmas.Bool.{cases_eq, cases_lt, cond-false, cond-true, false≢true, le-ltb, lt-ltb, ne_eqb}
use Rattle.std.proofs.lemmas.List.{get_or-set_same, get_or-set_other}
use Rattle.xn_model.specs.Types.{Types}
use Rattle.xn_model.specs.Languages.{types_in}
use Rattle.xn_model.specs.Languages as model
use Rattle.xn_model.proofs.ForCallers.{same_installed, same_owned, same_size}
use Rattle.xn_model.specs.Root.{pointer}
use Rattle.templates.specs.declared.fault.TemplateFault.{TemplateFault}
use Rattle.templates.specs.Templates.{TemplateValue}
use Rattle.templates.specs.Reading.{template_of_bytes}
use Rattle.templates.specs.Tables.{TableValue, template_of, table_types, owned_under, size_under}
use Rattle.templates.specs.Language.{language, meaning_of}
use Rattle.templates.proofs.TablePlaces.{at_place}

-- what a block says as a template
pub language_ok : (m : List ℕ) (t : TemplateValue) → template_of_bytes m ≡ Ok t → language m ≡ Some (meaning_of t)
unfolding language
language_ok m t e = ap (λ r. option_map meaning_of (result_ok r)) e

pub language_none : (m : List ℕ) (f : TemplateFault) → template_of_bytes m ≡ Err f → language m ≡ None
unfolding language
language_none m f e = ap (λ r. option_map meaning_of (result_ok r)) e

pub language_some : (m : List ℕ) → IsOk (template_of_bytes m) → is_some (language m) ≡ true
unfolding language
language_some m h = go (template_of_bytes m) h
  where
    go : (r : Result TemplateValue TemplateFault) → IsOk r → is_some (option_map meaning_of (result_ok r)) ≡ true
    go (Ok t) h = refl
    go (Err f) h = absurd (false≢true h)

-- a type whose place is empty is not installed
pub none_there : (table : TableValue) (content : ℕ → List ℕ) (i : ℕ) → i < 16 → table_types table ≡ types_in language content → pointer (content 0) i ≡ 0 → template_of table (3 + i) ≡ None
unfolding table_types types_in
none_there table content i few same empty = go (template_of table (3 + i)) (ap (λ (T : Types). T.installed (3 + i)) same ∙ ap is_some none)
  where
    none : model.language_template language content (3 + i) ≡ None
    none =
        cond-false (3 + i == 0) (Some model.root_template) _ (ne_eqb (3 + i) 0 (λ z. absurd (omega (arith, z))))
        ∙ (cond-false (nat_lt (3 + i) 3) (Some model.data_template) _ (le-ltb (3 + i) 3 (omega arith))
        ∙ (cond-true (nat_lt (3 + i) 19) (model.language_template_named language content (pointer (content 0) (3 + i - 3))) None (lt-ltb (3 + i) 19 (omega (arith, few)))
        ∙ (ap (λ j. model.language_template_named language content (pointer (content 0) j)) (let back : 3 + i - 3 ≡ i = omega arith in back)
        ∙ ap (model.language_template_named language content) empty)))

    go : (o : Option TemplateValue) → is_some o ≡ false → o ≡ None
    go None e = refl
    go (Some t) e = absurd (false≢true (sym e))

module _ (table : TableValue) (v w : ℕ → List ℕ) (i : ℕ) (t : TemplateValue) (long : length table ≡ 16) (few : i < 16) (before : table_types table ≡ types_in language v)
    (own : model.language_template language w (3 + i) ≡ Some (meaning_of t)) (others : (u : ℕ) → u ≢ 3 + i → model.language_template language w u ≡ model.language_template language v u) where
  abbrev after : TableValue
  after = slice_set table i (Some t)

  new_place : template_of after (3 + i) ≡ Some t
  new_place =
      sym (at_place after (3 + i) (omega arith))
      ∙ (ap (λ j. get_or after j None) (let same : 3 + i - 3 ≡ i = omega arith in same)
      ∙ get_or-set_same table i (Some t) None (omega (arith, long, few)))

  other_place : (u : ℕ) → u ≢ 3 + i → template_of after u ≡ template_of table u
  unfolding template_of
  other_place u ne = elim (cases_lt u 3) [
    | inl low ↦ rw (lt-ltb u 3 low) refl
    | inr ge ↦
        sym (at_place after u ge)
        ∙ (get_or-set_other table i (u - 3) (Some t) None (λ e. ne (omega (arith, e, ge)))
        ∙ at_place table u ge)
  ]

  installed_is : (u : ℕ) → (table_types after).installed u ≡ (types_in language w).installed u
  unfolding table_types types_in
  installed_is u = elim (cases_eq u (3 + i)) [
    | inl e ↦ ap (λ x. is_some (template_of after x)) e ∙ (ap is_some new_place ∙ sym (ap (λ x. is_some (model.language_template language w x)) e ∙ ap is_some own))
    | inr ne ↦ ap is_some (other_place u ne) ∙ (ap (λ (T : Types). T.installed u) before ∙ sym (same_installed language v w u (others u ne)))
  ]

  owned_is : (u : ℕ) → (table_types after).owned u ≡ (types_in language w).owned u
  unfolding table_types types_in
  owned_is u = elim (cases_eq u (3 + i)) [
    | inl e ↦ (λ j m. owned_under (template_of after (e j)) m) ∙ ((λ j m. owned_under (new_place j) m) ∙ sym ((λ j m. model.owned_by_template (model.language_template language w (e j)) m) ∙ (λ j m. model.owned_by_template (own j) m)))
    | inr ne ↦ (λ j m. owned_under (other_place u ne j) m) ∙ (ap (λ (T : Types). T.owned u) before ∙ sym (same_owned language v w u (others u ne)))
  ]

  size_is : (u : ℕ) → (table_types after).size u ≡ (types_in language w).size u
  unfolding table_types types_in
  size_is u = elim (cases_eq u (3 + i)) [
    | inl e ↦ (λ j m. size_under (template_of after (e j)) m) ∙ ((λ j m. size_under (new_place j) m) ∙ sym ((λ j m. model.size_by_template (model.language_template language w (e j)) m) ∙ (λ j m. model.size_by_template (own j) m)))
    | inr ne ↦ (λ j m. size_under (other_place u ne j) m) ∙ (ap (λ (T : Types). T.size u) before ∙ sym (same_size language v w u (others u ne)))
  ]

  template_is : (table_types after).template ≡ (types_in language w).template
  unfolding table_types types_in
  template_is = ap (λ (T : Types). T.template) before

  pub put_types : table_types after ≡ types_in language w
  put_types = λ j. record {
    installed = λ u. installed_is u j;
    owned = λ u. owned_is u j;
    size = λ u. size_is u j;
    template = template_is j;
  }
