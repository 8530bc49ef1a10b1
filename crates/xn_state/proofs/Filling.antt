-- Edits that put the blocks that they add into empty slots.
use Rattle.std.proofs.Common.{◌≡◌, ℕ, true, not, List, [], ◌∷◌, length, drop, take, get_or, ◌-◌, ◌≤◌, Some, None, refl, sym, ◌∙◌, ap, subst, arith}
use Rattle.std.specs.Prelude.{◌&&◌, All}
use Rattle.std.specs.List.{list_all}
use Rattle.std.proofs.lemmas.List.{drop_all, take_all}
use Rattle.std.proofs.lemmas.Option.{same_Some}
use Rattle.edit_list.proofs.ForCallers.{patches_of_edit}
use Rattle.store_types.specs.declared.refusal.Refusal.TheVariants.{ClaimWrong, SizeWrong}
use Rattle.std.proofs.lemmas.Bool.{and_from, and_parts}
use Rattle.xn_model.specs.Lists.{blank, blocks_of, distinct, put}
use Rattle.xn_model.specs.Types.{Types, named_once, within_size}
use Rattle.xn_model.specs.Results.{first_refusal}
use Rattle.xn_model.specs.Lives.{Life, StoreState, current, life_at}
use Rattle.xn_model.specs.Calls.{Edit, Patch, is_patch, may_add, patched, within_limits}
use Rattle.xn_model.specs.Rules.{IsConsistent}
use Rattle.udf_run.specs.SlotRows.{IsInsertion}
use Rattle.claims.specs.Owners.{is_claimed, owned_count}
use Rattle.claims.specs.Decided.{newest_at, newest_of}
use Rattle.claims.proofs.ForCallers.{agree_patched, insertion_claimed}
use Rattle.claims.specs.Decided.{WritesApart}
use Rattle.templates.specs.Decided.{DecidesOwned}
use Rattle.templates.specs.Filled.{Inserts}
use Rattle.udf_run.specs.Safe.{IsBlock}
use Rattle.xn_state.specs.Proposals.{last_tests}
use Rattle.xn_state.proofs.Unclaimed.{length_patched}

module _ (T : Types) (state : StoreState) (b ty : ℕ) (old : List ℕ) (e : Edit) (l : Life) (alive : life_at state.lives b ≡ Some l) (newest : newest_at state.lives b ≡ Some (ty, old))
    (rules : IsConsistent T state) (no_drops : e.drops ≡ []) (inserts : Inserts T ty old e.adds (patched old e.patches)) where
  both : ◌≡◌ {A = ℕ × List ℕ} (ty, old) (l.ty, current l)
  both = sym (same_Some (l.ty, current l) (ty, old) (sym (ap newest_of alive) ∙ newest))

  filled_claim : (fs : ℕ) → (list_all (may_add state fs) e.adds && distinct (blocks_of e.adds)) ≡ true →
      (is_claimed state.lives b (owned_count state.lives b) (T.owned ty (patched old e.patches)) e.adds e.drops && named_once T ty (patched old e.patches)) ≡ true
  filled_claim fs may =
      let new = patched old e.patches in
      let P : ℕ × List ℕ → Type 0 = λ q. IsInsertion (T.owned q.0 q.1) e.adds (T.owned q.0 new) in
      let Q : ℕ × List ℕ → Type 0 = λ q. (is_claimed state.lives b (owned_count state.lives b) (T.owned q.0 new) e.adds e.drops && named_once T q.0 new) ≡ true in
      let claimed = insertion_claimed T state b fs l new e.adds rules alive may (subst P both inserts) in
      subst Q (sym both)
      (ap (λ drops. is_claimed state.lives b (owned_count state.lives b) (T.owned l.ty new) e.adds drops && named_once T l.ty new) no_drops ∙ claimed)

  pub filled_left : (fs : ℕ) → (list_all (may_add state fs) e.adds && distinct (blocks_of e.adds)) ≡ true → length old ≡ 512 → within_limits e ≡ true →
      ((m : List ℕ) → T.size ty m ≡ 512) → first_refusal (last_tests T state b e ty (patched old e.patches)) ≡ None
  filled_left fs may long limits whole =
      let new = patched old e.patches in
      let claim = filled_claim fs may in
      let fits = length_patched old e.patches long (patches_of_edit e limits) in
      let size : within_size T ty new ≡ true = ap (λ n. blank (drop n new)) (whole new) ∙ ap blank (drop_all 512 new (omega (arith, fits))) in
      λ i. first_refusal ((not (claim i), ClaimWrong) ∷ (not (size i), SizeWrong) ∷ [])

-- other patches that write into none of the chunks that decide what the first one leaves
pub filled_beside : (T : Types) (ty chunks : ℕ) (old : List ℕ) (adds : List (ℕ × ℕ)) (first : Patch) (others : List Patch) → length old ≡ 512 → list_all is_patch (first ∷ others) ≡ true →
    Inserts T ty old adds (put old first.offset first.bytes) → DecidesOwned T ty (put old first.offset first.bytes) chunks → All (WritesApart chunks) others →
    IsBlock (patched old (first ∷ others)) → Inserts T ty old adds (patched old (first ∷ others)) × DecidesOwned T ty (patched old (first ∷ others)) chunks
filled_beside T ty chunks old adds first others long are inserts decides apart bytes =
    let parts = and_parts (is_patch first) (list_all is_patch others) are in
    let m = put old first.offset first.bytes in
    let agrees = agree_patched chunks others apart parts.1 m (length_patched old (first ∷ []) long (and_from (is_patch first) true parts.0 refl)) in
    let same : T.owned ty (patched m others) ≡ T.owned ty m = decides (patched m others) bytes agrees in
    (subst (λ pairs. IsInsertion (T.owned ty old) adds pairs) (sym same) inserts, λ other is also. decides other is (λ i noted. also i noted ∙ agrees i noted) ∙ sym same)

first_of_all : (all : List Patch) (first : Patch) → 1 ≤ length all → first ≡ get_or all 0 first → first ∷ take (length all - 1) (drop 1 all) ≡ all
first_of_all [] first some is = absurd (omega (arith, some))
first_of_all (p ∷ ps) first some is = ap (λ q. q ∷ take (length (p ∷ ps) - 1) ps) is ∙ ap (λ l. p ∷ l) (take_all (length (p ∷ ps) - 1) ps (omega arith))

-- the same of all patches of an edit
pub filled_by : (T : Types) (ty chunks : ℕ) (old : List ℕ) (adds : List (ℕ × ℕ)) (all : List Patch) (first : Patch) → 1 ≤ length all → first ≡ get_or all 0 first → length old ≡ 512 →
    list_all is_patch all ≡ true → Inserts T ty old adds (put old first.offset first.bytes) → DecidesOwned T ty (put old first.offset first.bytes) chunks →
    All (WritesApart chunks) (take (length all - 1) (drop 1 all)) → IsBlock (patched old all) → Inserts T ty old adds (patched old all) × DecidesOwned T ty (patched old all) chunks
filled_by T ty chunks old adds all first some is long are inserts decides apart bytes =
    let others = take (length all - 1) (drop 1 all) in
    let parts = first_of_all all first some is in
    subst (λ ps. Inserts T ty old adds (patched old ps) × DecidesOwned T ty (patched old ps) chunks) parts
    (filled_beside T ty chunks old adds first others long (ap (list_all is_patch) parts ∙ are) inserts decides apart (subst (λ ps. IsBlock (patched old ps)) (sym parts) bytes))
