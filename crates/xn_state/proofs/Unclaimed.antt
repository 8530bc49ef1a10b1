-- Edits that claim nothing and leave what decides the owned blocks.
use Rattle.std.proofs.Common.{◌≡◌, ℕ, ◌+◌, true, not, List, [], ◌∷◌, ◌++◌, length, drop, Option, Some, None, refl, sym, ◌∙◌, ap, arith, subst}
use Rattle.std.specs.Prelude.{◌&&◌, is_some, nat_le, nat_lt}
use Rattle.std.specs.List.{list_all}
use Rattle.std.proofs.lemmas.Bool.{and_from, and_parts, false≢true, leb-true}
use Rattle.std.proofs.lemmas.List.{drop_all}
use Rattle.edit_list.proofs.ForCallers.{length-put, patches_of_edit}
use Rattle.store_types.specs.declared.refusal.Refusal.TheVariants.{ClaimWrong, SizeWrong}
use Rattle.xn_model.specs.Lists.{blank, blocks_of, distinct, put}
use Rattle.xn_model.specs.Types.{Types, inside, without, claims, named_once, within_size}
use Rattle.xn_model.specs.Results.{first_refusal}
use Rattle.xn_state.specs.Proposals.{last_tests}
use Rattle.xn_model.specs.Lives.{Life, Lives, StoreState, current, life_at}
use Rattle.xn_model.specs.Calls.{Edit, Patch, is_patch, owns_nothing, patched, within_limits}
use Rattle.xn_model.specs.Rules.{IsConsistent}
use Rattle.claims.specs.Owners.{is_claimed, owned_count}
use Rattle.claims.proofs.ForCallers.{claimed_is, inside_from, newest_once, owned_counted}
use Rattle.udf_run.specs.ReadSets.{AgreeOn}
use Rattle.udf_run.specs.Safe.{IsBlock}
use Rattle.templates.specs.Decided.{DecidesOwned}
use Rattle.claims.specs.Decided.{Leaves, newest_at, newest_of}
use Rattle.std.proofs.lemmas.Option.{same_Some}

pub some_life : (lives : Lives) (b : ℕ) → is_some (life_at lives b) ≡ true → (l : Life) × (life_at lives b ≡ Some l)
some_life lives b alive = by (life_at lives b) refl alive
  where
    by : (o : Option Life) → life_at lives b ≡ o → is_some o ≡ true → (l : Life) × (life_at lives b ≡ Some l)
    by None here e = absurd (false≢true e)
    by (Some l) here e = (l, here)

pub newest_type : (lives : Lives) (b ty : ℕ) (l : Life) (m : List ℕ) → life_at lives b ≡ Some l → newest_at lives b ≡ Some (ty, m) → l.ty ≡ ty
newest_type lives b ty l m here e = ap (λ (p : ℕ × List ℕ). p.0) (same_Some (l.ty, current l) (ty, m) (sym (ap newest_of here) ∙ e))

all_left : (ps : List (ℕ × ℕ)) → without ps [] ++ [] ≡ ps
all_left [] = refl
all_left (p ∷ ps) = ap (λ qs. p ∷ qs) (all_left ps)

-- what a block owns is what it owned, where an edit claims nothing
claims_nothing : (T : Types) (t : ℕ) (m : List ℕ) → claims T t m m [] [] ≡ true
claims_nothing T t m =
    let ps = T.owned t m in
    let left = all_left ps in
    let itself = inside_from ps ps (λ p i. i) in
    and_from (inside ps (without ps [] ++ [])) (inside (without ps [] ++ []) ps)
    (ap (inside ps) left ∙ itself)
    (ap (λ qs. inside qs ps) left ∙ itself)

unchanged_claim : (T : Types) (state : StoreState) (b : ℕ) (l : Life) → IsConsistent T state → life_at state.lives b ≡ Some l →
    (is_claimed state.lives b (owned_count state.lives b) (T.owned l.ty (current l)) [] [] && named_once T l.ty (current l)) ≡ true
unchanged_claim T state b l h alive =
    ap (λ n. is_claimed state.lives b n (T.owned l.ty (current l)) [] [] && named_once T l.ty (current l)) (sym (owned_counted T state b l h alive))
    ∙ (sym (claimed_is T state b 0 l (current l) [] [] h alive refl refl refl refl)
    ∙ and_from (claims T l.ty (current l) (current l) [] []) (named_once T l.ty (current l)) (claims_nothing T l.ty (current l)) (newest_once T state b l h alive))

-- a block of data points to no other

pub data_owns_nothing : (T : Types) (state : StoreState) (ty : ℕ) (m : List ℕ) → IsConsistent T state → ty ≡ 2 → true ≡ owns_nothing T ty m
data_owns_nothing T state ty m h is =
    let none : T.owned ty m ≡ [] = ap (λ t. T.owned t m) is ∙ h.built_ins.data_owns m in
    rw (none, owns_nothing)

-- an edit of a block of data that claims nothing

pub length_patched : (m : List ℕ) (ps : List Patch) → length m ≡ 512 → list_all is_patch ps ≡ true → length (patched m ps) ≡ 512
length_patched m [] long all = long
length_patched m (p ∷ ps) long all =
    let parts = and_parts (is_patch p) (list_all is_patch ps) all in
    let fits = leb-true (p.offset + length p.bytes) 512 (and_parts (nat_lt 0 (length p.bytes)) (nat_le (p.offset + length p.bytes) 512) parts.0).1 in
    length_patched (put m p.offset p.bytes) ps (length-put m p.offset p.bytes (omega (arith, fits, long)) ∙ long) parts.1

pub data_left : (T : Types) (state : StoreState) (b ty : ℕ) (l : Life) (old : List ℕ) (e : Edit) → IsConsistent T state → life_at state.lives b ≡ Some l → l.ty ≡ ty → ty ≡ 2 → length old ≡ 512 →
    within_limits e ≡ true → e.adds ≡ [] → e.drops ≡ [] → first_refusal (last_tests T state b e ty (patched old e.patches)) ≡ None
data_left T state b ty l old e h alive same is long limits adds drops =
    let new = patched old e.patches in
    let owned : T.owned ty new ≡ T.owned l.ty (current l) =
    ap (λ t. T.owned t new) is ∙ (h.built_ins.data_owns new ∙ (sym (h.built_ins.data_owns (current l)) ∙ ap (λ t. T.owned t (current l)) (sym (same ∙ is)))) in
    let claim : (is_claimed state.lives b (owned_count state.lives b) (T.owned ty new) e.adds e.drops && named_once T ty new) ≡ true =
    (λ i. is_claimed state.lives b (owned_count state.lives b) (owned i) (adds i) (drops i) && distinct (blocks_of (owned i))) ∙ unchanged_claim T state b l h alive in
    let whole = length_patched old e.patches long (patches_of_edit e limits) in
    let size : within_size T ty new ≡ true =
    ap (λ n. blank (drop n new)) (ap (λ t. T.size t new) is ∙ h.built_ins.data_size new) ∙ ap blank (drop_all 512 new (omega (arith, whole))) in
    λ i. first_refusal ((not (claim i), ClaimWrong) ∷ (not (size i), SizeWrong) ∷ [])

module _ (T : Types) (state : StoreState) (b ty chunks : ℕ) (l : Life) (new : List ℕ) (e : Edit) (alive : life_at state.lives b ≡ Some l) (same_type : l.ty ≡ ty) (edited : patched (current l) e.patches ≡ new)
    (long : length (current l) ≡ 512) (decides : DecidesOwned T l.ty (current l) chunks) (leaves : Leaves chunks e) where
  agrees : AgreeOn chunks (current l) new
  agrees = subst (AgreeOn chunks (current l)) edited (leaves.apart (current l) long)

  still_owned : IsBlock new → T.owned ty new ≡ T.owned l.ty (current l)
  still_owned bytes = ap (λ t. T.owned t new) (sym same_type) ∙ decides new bytes agrees

  pub kept_claim : IsConsistent T state → IsBlock new → (is_claimed state.lives b (owned_count state.lives b) (T.owned ty new) e.adds e.drops && named_once T ty new) ≡ true
  kept_claim h bytes =
      let owned = still_owned bytes in
      (λ i. is_claimed state.lives b (owned_count state.lives b) (owned i) (leaves.no_adds i) (leaves.no_drops i) && distinct (blocks_of (owned i))) ∙ unchanged_claim T state b l h alive

  pub kept_decides : IsBlock new → DecidesOwned T ty new chunks
  kept_decides bytes other is also =
      ap (λ t. T.owned t other) (sym same_type)
      ∙ (decides other is (λ i noted. also i noted ∙ agrees i noted)
      ∙ sym (still_owned bytes))

-- an edit that leaves what decides the owned blocks, of a type whose blocks may use all bytes
pub kept_left : (T : Types) (state : StoreState) (b ty chunks : ℕ) (l : Life) (old : List ℕ) (e : Edit) → life_at state.lives b ≡ Some l → newest_at state.lives b ≡ Some (ty, old) → length old ≡ 512 →
    DecidesOwned T l.ty (current l) chunks → Leaves chunks e → IsConsistent T state → IsBlock (patched old e.patches) → within_limits e ≡ true → ((m : List ℕ) → T.size ty m ≡ 512) →
    (first_refusal (last_tests T state b e ty (patched old e.patches)) ≡ None) × DecidesOwned T ty (patched old e.patches) chunks
kept_left T state b ty chunks l old e alive newest long decides leaves h bytes limits whole =
    let new = patched old e.patches in
    let both : (l.ty, current l) ≡ (ty, old) = same_Some (l.ty, current l) (ty, old) (sym (ap newest_of alive) ∙ newest) in
    let same : l.ty ≡ ty = ap (λ (p : ℕ × List ℕ). p.0) both in
    let now : current l ≡ old = ap (λ (p : ℕ × List ℕ). p.1) both in
    let edited : patched (current l) e.patches ≡ new = ap (λ m. patched m e.patches) now in
    let size_now : length (current l) ≡ 512 = ap length now ∙ long in
    let claim = kept_claim T state b ty chunks l new e alive same edited size_now decides leaves h bytes in
    let fits = length_patched old e.patches long (patches_of_edit e limits) in
    let size : within_size T ty new ≡ true = ap (λ n. blank (drop n new)) (whole new) ∙ ap blank (drop_all 512 new (omega (arith, fits))) in
    ((λ i. first_refusal ((not (claim i), ClaimWrong) ∷ (not (size i), SizeWrong) ∷ [])), kept_decides T state b ty chunks l new e alive same edited size_now decides leaves bytes)
