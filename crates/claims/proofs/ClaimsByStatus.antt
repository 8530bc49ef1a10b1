-- Claims, read off the statuses.
use Rattle.std.proofs.Common.{◌≡◌, ℕ, ◌+◌, true, List, ◌++◌, length, Option, Some, refl, sym, ◌∙◌, ap, subst, arith, length-append}
use Rattle.std.specs.Prelude.{◌&&◌, ◌==◌, Contains}
use Rattle.std.specs.List.{list_all}
use Rattle.std.proofs.lemmas.Bool.{and_parts, and_from, eq-eqb, eqb-true, false≢true}
use Rattle.std.proofs.lemmas.List.Folds.{list_all-append}
use Rattle.store_types.specs.declared.status.Status.{Status}
use Rattle.store_types.specs.declared.status.Status.TheVariants.{Owned}
use Rattle.xn_model.specs.Types.{Types, inside, without, claims, named_once, within_size}
use Rattle.xn_model.specs.Lists.{has_pair, distinct, blocks_of}
use Rattle.xn_model.specs.Lives.{BlockState, Life, StoreState, life_at, current, bytes_of, is_owned_by, is_fresh, is_for}
use Rattle.xn_model.specs.Calls.{may_add, may_drop}
use Rattle.xn_model.specs.Rules.{IsConsistent}
use Rattle.xn_model.proofs.ForCallers.{alive_from, owned_from, of_life, last_of, all_at, blocks_of_has, blocks_of_at}
use Rattle.claims.specs.Owners.{are_allowed, is_claimed}
use Rattle.claims.proofs.OwnedPairs.{pair_owned, owned_pair, allowed_is, same_tests}
use Rattle.claims.proofs.ListCounts.{distinct-append, distinct-without, is_left, length-without, blocks_of-append, pairs_within, all_inside}

not_fresh : (b : ℕ) (s : Status) → s ≡ Owned b → is_fresh s ≡ true → ⊥
not_fresh b s owned fresh = false≢true (sym (ap is_fresh owned) ∙ fresh)

-- a newest state names no block twice
pub newest_once : (T : Types) (state : StoreState) (b : ℕ) (l : Life) → IsConsistent T state → life_at state.lives b ≡ Some l → distinct (blocks_of (T.owned l.ty (current l))) ≡ true
newest_once T state b l ok alive =
    let link = ok.linked b l alive in
    let among = last_of l.durable l.pending link.last link.is_last in
    let fit = (ok.lives_sound.each b l alive).fit link.last among in
    let once = (and_parts (named_once T l.ty link.last.bytes) (within_size T l.ty link.last.bytes) fit).0 in
    let P : Option BlockState → Type 0 = λ o. distinct (blocks_of (T.owned l.ty (bytes_of o))) ≡ true in
    subst P (sym link.is_last) once

module _ (T : Types) (state : StoreState) (b fs : ℕ) (l : Life) (new : List ℕ) (adds : List (ℕ × ℕ)) (drops : List ℕ) (ok : IsConsistent T state) (alive : life_at state.lives b ≡ Some l)
    (may_adds : list_all (may_add state fs) adds ≡ true) (adds_once : distinct (blocks_of adds) ≡ true)
    (may_drops : list_all (may_drop state b) drops ≡ true) (drops_once : distinct drops ≡ true) where
  abbrev old : List (ℕ × ℕ)
  old = T.owned l.ty (current l)

  abbrev now : List (ℕ × ℕ)
  now = T.owned l.ty new

  abbrev wanted : List (ℕ × ℕ)
  wanted = without (T.owned l.ty (current l)) drops ++ adds

  old_once : distinct (blocks_of old) ≡ true
  old_once = newest_once T state b l ok alive

  drops_there : (n : ℕ) → Contains drops n → Contains (blocks_of old) n
  drops_there n i =
      let m = alive_from (λ x. is_owned_by b x.status) (life_at state.lives n) (all_at (may_drop state b) drops n may_drops i) in
      blocks_of_has old (n, m.0.ty)
      (owned_pair T state b l ok alive n m.0.ty (record { life = m.0; alive = m.1; holds = (refl, owned_from b m.0.status m.2) }))

  pub adds_apart : (n : ℕ) → Contains (blocks_of (without old drops)) n → Contains (blocks_of adds) n → ⊥
  adds_apart n i j =
      let left = is_left old drops n i in
      let owned = pair_owned T state b l ok alive n left.ty left.there in
      let r = blocks_of_at adds n j in
      let m = alive_from (λ x. is_fresh x.status && ((x.ty == r.0) && is_for fs x.fs)) (life_at state.lives n) (all_at (may_add state fs) adds (n, r.0) may_adds r.1) in
      not_fresh b m.0.status (of_life owned m.0 m.1).1 (and_parts (is_fresh m.0.status) ((m.0.ty == r.0) && is_for fs m.0.fs) m.2).0

  wanted_once : distinct (blocks_of wanted) ≡ true
  wanted_once =
      ap distinct (blocks_of-append (without old drops) adds)
      ∙ distinct-append (blocks_of (without old drops)) (blocks_of adds) (distinct-without old drops old_once) adds_once adds_apart

  wanted_count : length wanted + length drops ≡ length old + length adds
  wanted_count = omega (arith, length-append (without old drops) adds, length-without old drops old_once drops_once drops_there)

  pub claimed_is : (claims T l.ty (current l) new adds drops && named_once T l.ty new) ≡ (is_claimed state.lives b (length (T.owned l.ty (current l))) (T.owned l.ty new) adds drops && named_once T l.ty new)
  claimed_is =
      same_tests _ _
      (λ e.
      let both = and_parts (claims T l.ty (current l) new adds drops) (named_once T l.ty new) e in
      let sides = and_parts (inside now wanted) (inside wanted now) both.0 in
      let parts = and_parts (inside (without old drops) now) (inside adds now) (sym (list_all-append (has_pair now) (without old drops) adds) ∙ sides.1) in
      let count : length now + length drops ≡ length old + length adds =
      omega (arith, wanted_count, pairs_within now wanted both.1 sides.0, pairs_within wanted now wanted_once sides.1) in
      and_from _ _
      (and_from _ _ (allowed_is T state b l ok alive now adds drops ∙ sides.0)
      (and_from _ _ parts.1 (eq-eqb (length now + length drops) (length old + length adds) count)))
      both.1)
      (λ e.
      let both = and_parts (is_claimed state.lives b (length old) now adds drops) (named_once T l.ty new) e in
      let first = and_parts (are_allowed state.lives b adds drops now) (inside adds now && (length now + length drops == length old + length adds)) both.0 in
      let second = and_parts (inside adds now) (length now + length drops == length old + length adds) first.1 in
      let count = eqb-true (length now + length drops) (length old + length adds) second.1 in
      let there = sym (allowed_is T state b l ok alive now adds drops) ∙ first.0 in
      and_from _ _
      (and_from _ _ there (all_inside now wanted both.1 wanted_once there (omega (arith, count, wanted_count))))
      both.1)
