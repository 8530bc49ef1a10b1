-- The table of an image gives the types that the model takes from its catalogue.
use Rattle.std.proofs.Common.{◌≡◌, ℕ, zero, suc, ◌-◌, ◌≤◌, ◌<◌, Bool, true, false, cond, List, map, get_or, refl, sym, ◌∙◌, ap, inl, inr, arith}
use Rattle.std.specs.Prelude.{◌==◌, Option, Some, None, Result, Ok, Err, nat_lt, option_map, is_some, is_ok}
use Rattle.std.specs.List.{range_with_len}
use Rattle.std.specs.Result.{result_ok}
use Rattle.std.proofs.lemmas.Bool.{cases_lt, cond-true, cond-false, le-ltb, lt-ltb, ne_eqb}
use Rattle.std.proofs.lemmas.List.{get_or_past, length-map}
use Rattle.std.proofs.lemmas.List.FromFn.{get_or-map-range_with_len, length-range_with_len}
use Rattle.xn_model.specs.Root.{pointer}
use Rattle.xn_model.specs.Languages.{Template, types_in, root_template, data_template}
use Rattle.xn_model.specs.Languages as model
use Rattle.templates.specs.Templates.{TemplateValue}
use Rattle.templates.specs.Reading.{template_of_bytes}
use Rattle.templates.specs.Tables.{table_types, template_of, template_named, table_of_image, owned_under, size_under}
use Rattle.templates.specs.Language.{language, meaning_of}
use Rattle.templates.proofs.TablePlaces.{at_place}
use Rattle.templates.proofs.BuiltInTypes.{root_size, leaf_size, leaf_owns}
use Rattle.templates.proofs.CataloguePairs.{catalogue_owns}

module _ (content : ℕ → List ℕ) where
  -- the template of a type by the table, and by the model
  abbrev ours : ℕ → Option TemplateValue
  ours t = template_of (table_of_image content) t

  abbrev theirs : ℕ → Option Template
  theirs t = model.language_template language content t

  -- a type of the catalogue
  named_same : (p : ℕ) → model.language_template_named language content p ≡ option_map meaning_of (template_named content p)
  unfolding language
  named_same p = go (p == 0)
    where
      go : (t : Bool) → cond t None (option_map meaning_of (result_ok (template_of_bytes (content p)))) ≡ option_map meaning_of (cond t None (result_ok (template_of_bytes (content p))))
      go true = refl
      go false = refl

  place_is : (i : ℕ) → i < 16 → get_or (table_of_image content) i None ≡ template_named content (pointer (content 0) i)
  unfolding table_of_image
  place_is i lt = get_or-map-range_with_len (λ k. template_named content (pointer (content 0) k)) 0 16 i i None lt (omega arith)

  past_is : (i : ℕ) → 16 ≤ i → get_or (table_of_image content) i None ≡ None
  unfolding table_of_image
  past_is i le = get_or_past (map (λ k. template_named content (pointer (content 0) k)) (range_with_len 0 16)) i None
      (let long = length-map (range_with_len 0 16) (λ k. template_named content (pointer (content 0) k)) in let n = length-range_with_len 0 16 in omega arith)

  later : (t : ℕ) → 3 ≤ t → theirs t ≡ option_map meaning_of (ours t)
  later t le =
      let named = model.language_template_named language content (pointer (content 0) (t - 3)) in
      let rest = cond (nat_lt t 19) named None in
      cond-false (t == 0) (Some root_template) (cond (nat_lt t 3) (Some data_template) rest) (ne_eqb t 0 (λ z. absurd (omega arith)))
      ∙ (cond-false (nat_lt t 3) (Some data_template) rest (le-ltb t 3 le)
      ∙ elim (cases_lt t 19) [
        | inl lt ↦
            cond-true (nat_lt t 19) named None (lt-ltb t 19 lt)
            ∙ (named_same (pointer (content 0) (t - 3)) ∙ ap (option_map meaning_of) (sym (place_is (t - 3) (omega arith)) ∙ at_place (table_of_image content) t le))
        | inr ge ↦
            cond-false (nat_lt t 19) named None (le-ltb t 19 ge)
            ∙ ap (option_map meaning_of) (sym (past_is (t - 3) (omega arith)) ∙ at_place (table_of_image content) t le)
      ])

  under : (o : Option TemplateValue) (m : List ℕ) → model.owned_by_template (option_map meaning_of o) m ≡ owned_under o m
  under None m = refl
  under (Some t) m = refl

  size_of : (o : Option TemplateValue) (m : List ℕ) → model.size_by_template (option_map meaning_of o) m ≡ size_under o m
  size_of None m = refl
  size_of (Some t) m = refl

  some_of : (o : Option TemplateValue) → is_some (option_map meaning_of o) ≡ is_some o
  some_of None = refl
  some_of (Some t) = refl

  installed_same : (t : ℕ) → is_some (ours t) ≡ is_some (theirs t)
  unfolding template_of
  installed_same zero = refl
  installed_same (suc zero) = refl
  installed_same (suc (suc zero)) = refl
  installed_same (suc (suc (suc t))) = sym (some_of (ours (suc (suc (suc t))))) ∙ ap is_some (sym (later (suc (suc (suc t))) (omega arith)))

  owned_same : (t : ℕ) (m : List ℕ) → owned_under (ours t) m ≡ model.owned_by_template (theirs t) m
  unfolding template_of
  owned_same zero m = catalogue_owns m
  owned_same (suc zero) m = leaf_owns m
  owned_same (suc (suc zero)) m = leaf_owns m
  owned_same (suc (suc (suc t))) m = sym (under (ours (suc (suc (suc t)))) m) ∙ ap (λ o. model.owned_by_template o m) (sym (later (suc (suc (suc t))) (omega arith)))

  size_same : (t : ℕ) (m : List ℕ) → size_under (ours t) m ≡ model.size_by_template (theirs t) m
  unfolding template_of
  size_same zero m = root_size m
  size_same (suc zero) m = leaf_size m
  size_same (suc (suc zero)) m = leaf_size m
  size_same (suc (suc (suc t))) m = sym (size_of (ours (suc (suc (suc t)))) m) ∙ ap (λ o. model.size_by_template o m) (sym (later (suc (suc (suc t))) (omega arith)))

  template_same : (m : List ℕ) → is_ok (template_of_bytes m) ≡ is_some (language m)
  unfolding language
  template_same m = go (template_of_bytes m)
    where
      go : {E : Type 0} (r : Result TemplateValue E) → is_ok r ≡ is_some (option_map meaning_of (result_ok r))
      go (Ok t) = refl
      go (Err e) = refl

  pub tables_are_catalogues : table_types (table_of_image content) ≡ types_in language content
  unfolding table_types types_in
  tables_are_catalogues = λ i. record {
    installed = λ t. installed_same t i;
    owned = λ t m. owned_same t m i;
    size = λ t m. size_same t m i;
    template = λ m. template_same m i;
  }
