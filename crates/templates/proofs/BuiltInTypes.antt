-- Each table gives the built-in types their meaning.
use Rattle.std.proofs.Common.{◌≡◌, ℕ, zero, suc, ◌-◌, ◌≤◌, ◌∙◌, ap, sym, refl, false, cond, List, [], inl, inr, arith}
use Rattle.std.specs.Prelude.{None, IsTrue, is_some, nat_lt}
use Rattle.std.proofs.lemmas.Bool.{cases_lt, le-ltb}
use Rattle.std.proofs.lemmas.List.{get_or_past}
use Rattle.xn_model.specs.Root.{owned_by_root, HasBuiltIns}
use Rattle.xn_model.specs.BareDisks.{built_ins}
use Rattle.templates.specs.BuiltIns.{built_in_root, leaf_template}
use Rattle.templates.specs.Meaning.{owned_by, answer_of}
use Rattle.templates.specs.Tables.{TableValue, IsTable, no_templates, template_of, owned_under, size_under, table_types}
use Rattle.templates.proofs.TablePlaces.{get_or-none, at_place, not_absent}
use Rattle.templates.proofs.CataloguePairs.{catalogue_owns}

pub root_size : (m : List ℕ) → answer_of built_in_root.size m ≡ 328
unfolding answer_of built_in_root
root_size m = refl

pub leaf_size : (m : List ℕ) → answer_of leaf_template.size m ≡ 512
unfolding answer_of leaf_template
leaf_size m = refl

pub leaf_owns : (m : List ℕ) → owned_by leaf_template.owns m ≡ []
unfolding owned_by leaf_template
leaf_owns m = refl

few_types : (table : TableValue) → IsTable table → (t : ℕ) → IsTrue ((table_types table).installed t) → t ≤ 18
few_types table is t installed = elim (cases_lt 18 t) [
  | inl past ↦
      let n = is.places in
      absurd (not_absent table t installed (sym (at_place table t (omega arith)) ∙ get_or_past table (t - 3) None (omega arith)))
  | inr low ↦ low
]

pub tables_have_built_ins : (table : TableValue) → IsTable table → HasBuiltIns (table_types table)
unfolding table_types template_of
tables_have_built_ins table is = record {
  root = refl;
  template = refl;
  data_type = refl;
  few = few_types table is;
  root_owns = catalogue_owns;
  root_size = root_size;
  template_owns = leaf_owns;
  template_size = leaf_size;
  data_owns = leaf_owns;
  data_size = leaf_size;
}

-- a template's block may use all its bytes
pub template_size : (table : TableValue) (m : List ℕ) → (table_types table).size 1 m ≡ 512
unfolding table_types template_of answer_of leaf_template
template_size table m = refl

-- A table without templates means the built-in types

none_installed : (t : ℕ) → 3 ≤ t → template_of no_templates t ≡ None
none_installed t le = sym (at_place no_templates t le) ∙ get_or-none 16 (t - 3)

abbrev AreBuiltIns : ℕ → List ℕ → Type 0
AreBuiltIns t m = ((table_types no_templates).installed t ≡ built_ins.installed t) × ((table_types no_templates).owned t m ≡ built_ins.owned t m) × ((table_types no_templates).size t m ≡ built_ins.size t m)

other_types : (t : ℕ) (m : List ℕ) → 3 ≤ t → AreBuiltIns t m
unfolding table_types
other_types t m le =
    let none = none_installed t le in
    let few = le-ltb t 3 le in
    let past : nat_lt t 1 ≡ false = le-ltb t 1 (omega arith) in (
      ap is_some none ∙ sym few,
      ap (λ o. owned_under o m) none ∙ sym (ap (λ b. cond b (owned_by_root m) []) past),
      ap (λ o. size_under o m) none ∙ sym (ap (λ b. cond b 328 512) past),
    )

pub empty_tables_have_built_ins : (t : ℕ) (m : List ℕ) → ((table_types no_templates).installed t ≡ built_ins.installed t) × ((table_types no_templates).owned t m ≡ built_ins.owned t m) × ((table_types no_templates).size t m ≡ built_ins.size t m)
unfolding table_types template_of
empty_tables_have_built_ins zero m = (refl, catalogue_owns m, root_size m)
empty_tables_have_built_ins (suc zero) m = (refl, leaf_owns m, leaf_size m)
empty_tables_have_built_ins (suc (suc zero)) m = (refl, leaf_owns m, leaf_size m)
empty_tables_have_built_ins (suc (suc (suc t))) m = other_types (suc (suc (suc t))) m (omega arith)
