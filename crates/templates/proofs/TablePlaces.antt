-- The places of a table, and what its types mean.
use Rattle.std.proofs.Common.{◌≡◌, ◌⊎◌, [], ℕ, ◌-◌, ◌≤◌, ◌<◌, ◌≢◌, zero, suc, replicate, ◌∙◌, ap, sym, refl, subst, cond, List, length, get_or, set, inl, inr, arith}
use Rattle.std.specs.Prelude.{Option, Some, None, is_some, IsTrue, IsSomeAnd, map, slice_index}
use Rattle.std.proofs.lemmas.Bool.{lt-ltb, le-ltb, ne_eqb, cases_eq, false≢true}
use Rattle.std.proofs.lemmas.Option.{same_Some, none-some}
use Rattle.std.proofs.lemmas.List.{get_or-set_same, get_or-set_other, length-set, length-replicate}
use Rattle.xn_model.specs.Types.{Types}
use Rattle.udf_verify.specs.Program.{Program, tree}
use Rattle.udf_run.specs.declared.pair.Pair.{Pair}
use Rattle.udf_run.specs.Meaning.{Machine, meaning, reset}
use Rattle.udf_run.specs.ReadSets.{DecidesRun}
use Rattle.templates.specs.Decided.{DecidesOwned}
use Rattle.templates.specs.Templates.{TemplateValue, IsTemplate}
use Rattle.templates.specs.BuiltIns.{built_in_root, leaf_template, built_in}
use Rattle.templates.specs.Meaning.{numbers_of_pair, pairs_after, answer_after, owned_by, answer_of}
use Rattle.templates.specs.Tables.{TableValue, IsTable, TellsTemplate, template_of, owned_under, size_under, table_types}

module _ (table : TableValue) (t : ℕ) where
  pub at_root : (root : TemplateValue) → root ≡ built_in_root → t ≡ 0 → Some root ≡ template_of table t
  unfolding template_of
  at_root root is e = ap Some is ∙ sym (ap (template_of table) e)

  pub at_leaf : (leaf : TemplateValue) → leaf ≡ leaf_template → t ≢ 0 → t < 3 → Some leaf ≡ template_of table t
  unfolding template_of
  at_leaf leaf is ne lt =
      ap Some is
      ∙ (sym (ap (λ b. Some (cond b built_in_root leaf_template)) (ne_eqb t 0 ne))
      ∙ sym (ap (λ b. cond b (Some (built_in t)) (get_or table (t - 3) None)) (lt-ltb t 3 lt)))

  pub at_place : 3 ≤ t → get_or table (t - 3) None ≡ template_of table t
  unfolding template_of
  at_place le = sym (ap (λ b. cond b (Some (built_in t)) (get_or table (t - 3) None)) (le-ltb t 3 le))

-- What a look-up in a table tells of its types

under_table : (table : TableValue) (t : ℕ) (found : Option TemplateValue) → template_of table t ≡ found → TellsTemplate (table_types table) t found
unfolding table_types
under_table table t (Some x) e = record { installed = ap is_some e; owned = λ m. ap (λ o. owned_under o m) e; size = λ m. ap (λ o. size_under o m) e }
under_table table t None e = ap is_some e

pub tells : (table : TableValue) (T : Types) (t : ℕ) (found : Option TemplateValue) → found ≡ template_of table t → table_types table ≡ T → TellsTemplate T t found
tells table T t found e same = subst (λ U. TellsTemplate U t found) same (under_table table t found (sym e))

-- A table without templates, and one more template in a table

pub get_or-none : {A : Type 0} (n i : ℕ) → get_or {A = Option A} (replicate n None) i None ≡ None
get_or-none zero i = refl
get_or-none (suc n) zero = refl
get_or-none (suc n) (suc i) = get_or-none n i

pub empty_table : (table : TableValue) (n : ℕ) → table ≡ replicate n None → n ≡ 16 → IsTable table
empty_table table n is e = record {
  places = ap length is ∙ (length-replicate {A = Option TemplateValue} n None ∙ e);
  templates = λ i x at. absurd (none-some x (sym (get_or-none n i) ∙ (ap (λ (ps : TableValue). get_or ps i None) (sym is) ∙ at)));
}

pub table_put : (table : TableValue) (i : ℕ) (t : TemplateValue) → i < 16 → IsTable table → IsTemplate t → IsTable (set table i (Some t))
table_put table i t within is good = record {
  places = length-set table i (Some t) ∙ is.places;
  templates = λ k. elim (cases_eq k i) [
    | inl e ↦ λ x at. let lt : i < length table = (let n = is.places in omega arith) in
        subst IsTemplate (same_Some t x (sym (get_or-set_same table i (Some t) None lt) ∙ (ap (λ j. get_or (set table i (Some t)) j None) (sym e) ∙ at))) good
    | inr ne ↦ λ x at. is.templates k x (sym (get_or-set_other table i k (Some t) None ne) ∙ at)
  ];
}

-- What a type means

module _ (table : TableValue) (t : ℕ) where
  pub not_absent : IsTrue ((table_types table).installed t) → template_of table t ≡ None → ⊥
  unfolding table_types
  not_absent is none = false≢true (sym (ap is_some none) ∙ is)

  module _ (x : TemplateValue) (at : template_of table t ≡ Some x) where
    pub owned_is : (program : Program) (m : List ℕ) (ps : List Pair) → program ≡ x.owns → IsSomeAnd (meaning (tree program) m reset) (λ end. ps ≡ end.emitted) → map numbers_of_pair ps ≡ (table_types table).owned t m
    unfolding table_types owned_by
    owned_is program m ps is run = by (meaning (tree program) m reset) refl run
      where
        by : (o : Option Machine) → meaning (tree program) m reset ≡ o → IsSomeAnd o (λ end. ps ≡ end.emitted) → map numbers_of_pair ps ≡ owned_under (template_of table t) m
        by None e h = absurd h
        by (Some end) e h =
            ap (map numbers_of_pair) h ∙ (sym (ap pairs_after e) ∙ (ap (λ (p : Program). pairs_after (meaning (tree p) m reset)) is ∙ sym (ap (λ o. owned_under o m) at)))

    pub decided_is : (program : Program) (m : List ℕ) (chunks : ℕ) → program ≡ x.owns → DecidesRun program m chunks → DecidesOwned (table_types table) t m chunks
    unfolding table_types owned_by
    decided_is program m chunks is same other bytes agrees =
        let owned : (n : List ℕ) → owned_under (template_of table t) n ≡ pairs_after (meaning (tree program) n reset) = λ n. ap (λ o. owned_under o n) at ∙ ap (λ (p : Program). pairs_after (meaning (tree p) n reset)) (sym is) in
        owned other ∙ (ap pairs_after (same other bytes agrees) ∙ sym (owned m))

    pub size_is : (program : Program) (m : List ℕ) (n : ℕ) → program ≡ x.size → IsSomeAnd (meaning (tree program) m reset) (λ end. n ≡ slice_index end.registers 0) → n ≡ (table_types table).size t m
    unfolding table_types answer_of
    size_is program m n is run = by (meaning (tree program) m reset) refl run
      where
        by : (o : Option Machine) → meaning (tree program) m reset ≡ o → IsSomeAnd o (λ end. n ≡ slice_index end.registers 0) → n ≡ size_under (template_of table t) m
        by None e h = absurd h
        by (Some end) e h =
            h ∙ (sym (ap answer_after e) ∙ (ap (λ (p : Program). answer_after (meaning (tree p) m reset)) is ∙ sym (ap (λ o. size_under o m) at)))

-- A leaf points to nothing, and may use all its bytes

module _ (table : TableValue) (t : ℕ) (leaf : (t ≡ 1) ⊎ (t ≡ 2)) (m : List ℕ) where
  pub leaf_owned : [] ≡ (table_types table).owned t m
  unfolding table_types template_of owned_by leaf_template
  leaf_owned = elim leaf [
    | inl e ↦ sym (ap (λ ty. (table_types table).owned ty m) e)
    | inr e ↦ sym (ap (λ ty. (table_types table).owned ty m) e)
  ]

  pub leaf_size : 512 ≡ (table_types table).size t m
  unfolding table_types template_of answer_of leaf_template
  leaf_size = elim leaf [
    | inl e ↦ sym (ap (λ ty. (table_types table).size ty m) e)
    | inr e ↦ sym (ap (λ ty. (table_types table).size ty m) e)
  ]
