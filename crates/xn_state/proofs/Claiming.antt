-- What edits may claim, by the tests that they passed, and the claims of an edit, read off the statuses.
use Rattle.std.proofs.Common.{◌≡◌, ℕ, ◌<◌, Bool, true, false, not, ◌&&◌, List, [], ◌∷◌, length, Option, Some, None, Ok, refl, sym, ◌∙◌, ap, arith, inl, inr, subst}
use Rattle.std.specs.Prelude.{Contains, is_some, slice_index, ◌==◌}
use Rattle.std.specs.List.{list_all}
use Rattle.std.proofs.lemmas.Bool.{and_parts, eqb-false, ne_eqb, not-false}
use Rattle.std.proofs.lemmas.List.Elements.{Contains-append_right}
use Rattle.store_types.specs.declared.refusal.Refusal.{Refusal}
use Rattle.store_types.specs.declared.refusal.Refusal.TheVariants.{BadPatch, BadAfter, NotFresh, NotOwned, NotEmpty, ClaimWrong, SizeWrong, TooManyPending, Exhausted, Cycle}
use Rattle.xn_model.specs.Lists.{blocks_of, distinct, has_number}
use Rattle.xn_model.specs.Types.{Types, claims, named_once, within_size}
use Rattle.xn_model.specs.Root.{owned_by_root, templates_of, roots_of, with_slot}
use Rattle.xn_model.specs.Lives.{Life, StoreState, life_at, alive_and, chain_end, current, is_for, is_fresh, is_owned_by}
use Rattle.xn_model.specs.Results.{first_refusal, unless, result_and_then}
use Rattle.xn_model.specs.Calls.{Edit, own_life, too_many, exhausted, within_limits, was_given, may_add, may_drop, is_empty, owns_nothing, patched, life_bytes, life_pending, root_now, slot_now, edit_tests}
use Rattle.xn_model.specs.Rules.{IsConsistent}
use Rattle.xn_model.proofs.ForCallers.{Contains-cons, Contains-none, all_at, blocks_of_at, own_then, roots_from, same_ok, unless_ok}
use Rattle.claims.specs.Owners.{is_claimed, owned_count}
use Rattle.claims.proofs.ForCallers.{alive_place, claimed_is, owned_counted, pair_owned}
use Rattle.block_cache.specs.declared.life.Facts.{Facts}
use Rattle.block_cache.specs.Views.{facts_of}
use Rattle.claims.specs.Owned.{AreOwnedCounts, MayClaim}
use Rattle.xn_state.specs.Proposals.{drop_root_plan, edited_with, proposed_at, proposed_of}
use Rattle.xn_state.proofs.Forgetting.{own_is}

-- Edits

fresh_of : (state : StoreState) (fs : ℕ) (p : ℕ × ℕ) (o : Option Life) → alive_and (λ l. is_fresh l.status && ((l.ty == p.1) && is_for fs l.fs)) o ≡ true → alive_and (λ l. is_fresh l.status) o ≡ true
fresh_of state fs p None e = e
fresh_of state fs p (Some l) e = (and_parts (is_fresh l.status) ((l.ty == p.1) && is_for fs l.fs) e).0

may_claim : (state : StoreState) (fs b : ℕ) (adds : List (ℕ × ℕ)) (drops : List ℕ) → (list_all (may_add state fs) adds && distinct (blocks_of adds)) ≡ true →
    (list_all (may_drop state b) drops && distinct drops) ≡ true → MayClaim state.lives b adds drops
may_claim state fs b adds drops added dropped =
    let first = and_parts (list_all (may_add state fs) adds) (distinct (blocks_of adds)) added in
    let second = and_parts (list_all (may_drop state b) drops) (distinct drops) dropped in
    record {
      fresh = λ c i. let r = blocks_of_at adds c i in fresh_of state fs (c, r.0) (life_at state.lives c) (all_at (may_add state fs) adds (c, r.0) first.0 r.1);
      added_once = first.1;
      owned = λ c i. all_at (may_drop state b) drops c second.0 i;
      dropped_once = second.1;
    }

pub edit_claims : (T : Types) (state : StoreState) (fs b : ℕ) (e : Edit) (bytes : List ℕ) → proposed_of T state fs b e ≡ Ok bytes → MayClaim state.lives b e.adds e.drops
edit_claims T state fs b e bytes made =
    let own = own_then state fs b (proposed_at T state fs b e) bytes made in
    let l : Life = own.0 in
    let m = patched (current l) e.patches in
    let tests = unless_ok (edit_tests T state fs b e l) (Ok m) bytes own.2 in
    let t = tests.0 in
    may_claim state fs b e.adds e.drops
    (not-false (list_all (may_add state fs) e.adds && distinct (blocks_of e.adds)) t.1.1.1.1.0)
    (not-false (list_all (may_drop state b) e.drops && distinct e.drops) t.1.1.1.1.1.1.0)

-- Roots

-- what a root slot names, block 0 owns
slot_owned : (T : Types) (state : StoreState) (fs : ℕ) → IsConsistent T state → fs < 32 → ((slot_now state fs).0 ≡ 0 → ⊥) →
    alive_and (λ l. is_owned_by 0 l.status) (life_at state.lives (slot_now state fs).0) ≡ true
unfolding owned_by_root
slot_owned T state fs h few some =
    let root = h.lives_sound.root in
    let p : ℕ × ℕ = slot_now state fs in
    let there : Contains (owned_by_root (root_now state)) p = Contains-append_right (templates_of (root_now state)) (roots_of (root_now state)) p (roots_from (root_now state) fs p.0 p.1 few refl some) in
    let one : Contains (T.owned 0 (root_now state)) p = subst (λ ps. Contains ps p) (sym (h.built_ins.root_owns (root_now state))) there in
    let two : Contains (T.owned root.life.ty (root_now state)) p = subst (λ t. Contains (T.owned t (root_now state)) p) (sym root.ty) one in
    let three : Contains (T.owned root.life.ty (current root.life)) p = subst (λ m. Contains (T.owned root.life.ty m) p) (ap life_bytes root.alive) two in
    let owned = pair_owned T state 0 root.life h root.alive p.0 p.1 three in
    ap (alive_and (λ l. is_owned_by 0 l.status)) owned.alive ∙ ap (is_owned_by 0) owned.holds.1

pub drop_claims : (T : Types) (state : StoreState) (fs : ℕ) (plan : List ℕ × ℕ) → IsConsistent T state → fs < 32 → drop_root_plan T state fs ≡ Ok plan → MayClaim state.lives 0 [] (plan.1 ∷ [])
drop_claims T state fs plan h few made =
    let tests = unless_ok (
    ((slot_now state fs).0 == 0, NotOwned)
    ∷ (not (is_empty T state (slot_now state fs).0), NotEmpty)
    ∷ (too_many state fs (life_pending (life_at state.lives 0)), TooManyPending)
    ∷ (exhausted state, Exhausted)
    ∷ []) (Ok (with_slot (root_now state) fs (0, 0), (slot_now state fs).0)) plan made in
    let some : (slot_now state fs).0 ≡ 0 → ⊥ = eqb-false (slot_now state fs).0 0 tests.0.0 in
    let block : (slot_now state fs).0 ≡ plan.1 = ap (λ (x : List ℕ × ℕ). x.1) (same_ok (with_slot (root_now state) fs (0, 0), (slot_now state fs).0) plan tests.1) in
    record {
      fresh = λ c i. absurd (Contains-none c i);
      added_once = refl;
      owned = λ c i. elim (Contains-cons plan.1 [] c i) [
        | inl e ↦ ap (λ x. alive_and (λ l. is_owned_by 0 l.status) (life_at state.lives x)) (sym (block ∙ e)) ∙ slot_owned T state fs h few some
        | inr none ↦ absurd (Contains-none c none)
      ];
      dropped_once = refl;
    }

-- A block that is forgotten

-- Blocks that own nothing

nothing_is : (ps : List (ℕ × ℕ)) → elim ps [ [] ↦ true | p ∷ qs ↦ false ] ≡ (length ps == 0)
nothing_is [] = refl
nothing_is (p ∷ ps) = sym (ne_eqb (length (p ∷ ps)) 0 (λ e. absurd (omega arith)))

pub empty_is : (T : Types) (state : StoreState) (c : ℕ) → IsConsistent T state → is_empty T state c ≡ (is_some (life_at state.lives c) && (owned_count state.lives c == 0))
empty_is T state c h = by (life_at state.lives c) refl
  where
    by : (o : Option Life) → life_at state.lives c ≡ o → alive_and (λ l. owns_nothing T l.ty (current l)) o ≡ (is_some o && (owned_count state.lives c == 0))
    by None here = refl
    by (Some l) here = nothing_is (T.owned l.ty (current l)) ∙ ap (λ n. n == 0) (owned_counted T state c l h here)

-- the same by how many blocks each block owns
pub counted_empty : (T : Types) (state : StoreState) (counts : List ℕ) (c : ℕ) → IsConsistent T state → AreOwnedCounts counts state.lives → is_some (life_at state.lives c) ≡ true →
    (slice_index counts c == 0) ≡ is_empty T state c
counted_empty T state counts c h counted some =
    ap (λ n. n == 0) (counted.each c (alive_place state.lives c some))
    ∙ ((λ i. sym some i && (owned_count state.lives c == 0)) ∙ sym (empty_is T state c h))

-- The claim of an edit

-- the rows of an edit's tests, of which the one of the claim may be told in two ways where those of adds and drops passed
abbrev rows : Bool → Bool → Bool → Bool → Bool → Bool → Bool → Bool → Bool → Bool → List (Bool × Refusal)
rows a b c d e f g h claim size =
    (a, TooManyPending)
    ∷ (b, Exhausted)
    ∷ (c, BadPatch)
    ∷ (d, BadAfter)
    ∷ (e, NotFresh)
    ∷ (f, Cycle)
    ∷ (g, NotOwned)
    ∷ (h, NotEmpty)
    ∷ (claim, ClaimWrong)
    ∷ (size, SizeWrong)
    ∷ []

same_rows : (a b c d e f g h x y size : Bool) → (e ≡ false → g ≡ false → x ≡ y) → first_refusal (rows a b c d e f g h x size) ≡ first_refusal (rows a b c d e f g h y size)
same_rows true b c d e f g h x y size same = refl
same_rows false true c d e f g h x y size same = refl
same_rows false false true d e f g h x y size same = refl
same_rows false false false true e f g h x y size same = refl
same_rows false false false false true f g h x y size same = refl
same_rows false false false false false true g h x y size same = refl
same_rows false false false false false false true h x y size same = refl
same_rows false false false false false false false true x y size same = refl
same_rows false false false false false false false false x y size same = ap (λ t. first_refusal ((t, ClaimWrong) ∷ (size, SizeWrong) ∷ [])) (same refl refl)

claim_is : (T : Types) (state : StoreState) (fs b : ℕ) (e : Edit) (l : Life) → IsConsistent T state → life_at state.lives b ≡ Some l →
    not (list_all (may_add state fs) e.adds && distinct (blocks_of e.adds)) ≡ false → not (list_all (may_drop state b) e.drops && distinct e.drops) ≡ false →
    (is_claimed state.lives b (owned_count state.lives b) (T.owned l.ty (patched (current l) e.patches)) e.adds e.drops && named_once T l.ty (patched (current l) e.patches))
    ≡ (claims T l.ty (current l) (patched (current l) e.patches) e.adds e.drops && named_once T l.ty (patched (current l) e.patches))
claim_is T state fs b e l h alive added dropped =
    let m = patched (current l) e.patches in
    let adds = and_parts (list_all (may_add state fs) e.adds) (distinct (blocks_of e.adds)) (not-false (list_all (may_add state fs) e.adds && distinct (blocks_of e.adds)) added) in
    let drops = and_parts (list_all (may_drop state b) e.drops) (distinct e.drops) (not-false (list_all (may_drop state b) e.drops && distinct e.drops) dropped) in
    sym (claimed_is T state b fs l m e.adds e.drops h alive adds.0 adds.1 drops.0 drops.1
    ∙ ap (λ n. is_claimed state.lives b n (T.owned l.ty m) e.adds e.drops && named_once T l.ty m) (owned_counted T state b l h alive))

edited_is : (T : Types) (state : StoreState) (fs b : ℕ) (e : Edit) (l : Life) → IsConsistent T state → life_at state.lives b ≡ Some l →
    edited_with T state fs b e (facts_of l) (current l) ≡ proposed_at T state fs b e l
edited_is T state fs b e l h alive =
    let m = patched (current l) e.patches in
    ap (λ r. unless r (Ok m))
    (same_rows (too_many state fs (length l.pending)) (exhausted state) (not (within_limits e)) (not (was_given state e.after)) (not (list_all (may_add state fs) e.adds && distinct (blocks_of e.adds)))
    (has_number (blocks_of e.adds) (chain_end state.lives b)) (not (list_all (may_drop state b) e.drops && distinct e.drops)) (not (list_all (is_empty T state) e.drops))
    (not (is_claimed state.lives b (owned_count state.lives b) (T.owned l.ty m) e.adds e.drops && named_once T l.ty m))
    (not (claims T l.ty (current l) m e.adds e.drops && named_once T l.ty m)) (not (within_size T l.ty m))
    (λ added dropped. ap not (claim_is T state fs b e l h alive added dropped)))

pub proposed_is : (T : Types) (state : StoreState) (fs b : ℕ) (e : Edit) (l : Life) (facts : Facts) (old : List ℕ) → IsConsistent T state → own_life state fs b ≡ Ok l →
    facts ≡ facts_of l → old ≡ current l → edited_with T state fs b e facts old ≡ proposed_of T state fs b e
proposed_is T state fs b e l facts old h own known same =
    let alive = (own_is state fs b l own).alive in
    (λ i. edited_with T state fs b e (known i) (same i)) ∙ (edited_is T state fs b e l h alive ∙ sym (ap (result_and_then (proposed_at T state fs b e)) own))
