-- What a block points to under a type whose owns program does no more than look at rows of slots.
use Rattle.std.proofs.Common.{◌≡◌, ℕ, List, Some, None, Option, sym, ◌∙◌, ap}
use Rattle.std.specs.Prelude.{IsSomeAnd, map}
use Rattle.udf_verify.specs.Program.{tree}
use Rattle.udf_run.specs.declared.slot_rows.SlotRow.{SlotRow}
use Rattle.udf_run.specs.Meaning.{Machine, meaning, reset}
use Rattle.udf_run.specs.Safe.{IsBlock}
use Rattle.udf_run.specs.SlotRows.{DecidesRows, EmitsRows, IsInsertion, rows_pairs}
use Rattle.templates.specs.Decided.{DecidesOwned}
use Rattle.templates.specs.Filled.{Inserts}
use Rattle.templates.specs.Meaning.{numbers_of_pair, owned_by, pairs_after}
use Rattle.templates.specs.Tables.{TableValue, owned_under, table_types, template_of}
use Rattle.templates.specs.Templates.{TemplateValue}

pairs_of_rows : (o : Option Machine) (ps : List (ℕ × ℕ)) → IsSomeAnd o (λ end. map numbers_of_pair end.emitted ≡ ps) → pairs_after o ≡ ps
pairs_of_rows None ps h = absurd h
pairs_of_rows (Some end) ps h = h

module _ (table : TableValue) (t : ℕ) (x : TemplateValue) (at_type : template_of table t ≡ Some x) (rows : List SlotRow) (emits : EmitsRows x.owns rows) where
  owned_rows : (m : List ℕ) → IsBlock m → (table_types table).owned t m ≡ rows_pairs rows m
  unfolding table_types owned_by
  owned_rows m bytes = ap (λ o. owned_under o m) at_type ∙ pairs_of_rows (meaning (tree x.owns) m reset) (rows_pairs rows m) (emits m bytes)

  pub rows_decide : (m : List ℕ) (chunks : ℕ) → IsBlock m → DecidesRows rows chunks → DecidesOwned (table_types table) t m chunks
  rows_decide m chunks bytes decides other also agrees = owned_rows other also ∙ (decides m other agrees ∙ sym (owned_rows m bytes))

  pub rows_insert : (old new : List ℕ) (adds : List (ℕ × ℕ)) → IsBlock old → IsBlock new → IsInsertion (rows_pairs rows old) adds (rows_pairs rows new) →
      Inserts (table_types table) t old adds new
  rows_insert old new adds was now is = record {
    before = is.before;
    behind = is.behind;
    old_is = owned_rows old was ∙ is.old_is;
    new_is = owned_rows new now ∙ is.new_is;
  }
