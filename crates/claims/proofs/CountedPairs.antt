-- How many blocks a block owns.
use Rattle.std.proofs.Common.{◌≡◌, ℕ, zero, suc, ◌+◌, ◌<◌, Bool, true, false, cond, inl, inr, List, [], ◌∷◌, length, Option, Some, None, refl, sym, ◌∙◌, ap, subst, arith}
use Rattle.std.specs.Prelude.{Contains, count_by}
use Rattle.std.proofs.lemmas.Bool.{eq-eqb, false≢true}
use Rattle.std.proofs.lemmas.List.Sums.{sum_by-cons}
use Rattle.xn_model.specs.Types.{Types}
use Rattle.xn_model.specs.Lists.{distinct, blocks_of}
use Rattle.xn_model.specs.Lives.{Life, Lives, StoreState, life_at, current, alive_and, is_owned_by}
use Rattle.xn_model.specs.Rules.{IsConsistent}
use Rattle.xn_model.proofs.ForCallers.{owned_from, alive_from, Contains-none, Contains-head, Contains-tail, Contains-cons, blocks_of_has, blocks_of_at}
use Rattle.claims.specs.Owners.{owned_count}
use Rattle.claims.proofs.OwnedPairs.{pair_owned, owned_pair}
use Rattle.claims.proofs.ListCounts.{numbers_within, distinct-cons, length-blocks_of}
use Rattle.claims.proofs.ClaimsByStatus.{newest_once}

module _ (test : Option Life → Bool) where
  -- the places that pass, where the first place has this number
  abbrev places_from : ℕ → Lives → List ℕ
  places_from n [] = []
  places_from n (o ∷ os) = cond (test o) (n ∷ places_from (suc n) os) (places_from (suc n) os)

  length-places_from : (n : ℕ) (ls : Lives) → length (places_from n ls) ≡ count_by test ls
  length-places_from n [] = refl
  length-places_from n (o ∷ os) = go (test o) (length-places_from (suc n) os) ∙ sym (sum_by-cons (λ x. cond (test x) 1 0) o os)
    where
      go : (t : Bool) → length (places_from (suc n) os) ≡ count_by test os → length (cond t (n ∷ places_from (suc n) os) (places_from (suc n) os)) ≡ cond t 1 0 + count_by test os
      go true e = omega (arith, e)
      go false e = omega (arith, e)

  record IsPlace (n c : ℕ) (ls : Lives) : Type 0 where
    at : ℕ
    is : c ≡ n + at
    within : at < length ls
    passed : test (life_at ls at) ≡ true

  later : (n c : ℕ) (o : Option Life) (os : Lives) → IsPlace (suc n) c os → IsPlace n c (o ∷ os)
  later n c o os p = record { at = suc p.at; is = omega (arith, p.is); within = omega (arith, p.within); passed = p.passed }

  place_at : (n c : ℕ) (ls : Lives) → Contains (places_from n ls) c → IsPlace n c ls
  place_at n c [] i = absurd (Contains-none c i)
  place_at n c (o ∷ os) i = go (test o) refl i (place_at (suc n) c os)
    where
      go : (t : Bool) → test o ≡ t → Contains (cond t (n ∷ places_from (suc n) os) (places_from (suc n) os)) c → (Contains (places_from (suc n) os) c → IsPlace (suc n) c os) → IsPlace n c (o ∷ os)
      go true e j rec =
          elim (Contains-cons n (places_from (suc n) os) c j) [
            | inl same ↦ record { at = 0; is = omega (arith, same); within = omega arith; passed = e }
            | inr there ↦ later n c o os (rec there)
          ]
      go false e j rec = later n c o os (rec j)

  place_from : (n k : ℕ) (ls : Lives) → test None ≡ false → test (life_at ls k) ≡ true → Contains (places_from n ls) (n + k)
  place_from n k [] none e = absurd (false≢true (sym none ∙ e))
  place_from n zero (o ∷ os) none e =
      let P : ℕ → Type 0 = λ c. Contains (places_from n (o ∷ os)) c in
      let here : n ≡ n + 0 = omega arith in
      subst P here (subst (λ t. Contains (cond t (n ∷ places_from (suc n) os) (places_from (suc n) os)) n) (sym e) (Contains-head n (places_from (suc n) os)))
  place_from n (suc k) (o ∷ os) none e =
      let there = place_from (suc n) k os none e in
      let same : suc n + k ≡ n + suc k = omega arith in
      subst (λ c. Contains (places_from n (o ∷ os)) c) same (go (test o) there)
    where
      go : (t : Bool) → Contains (places_from (suc n) os) (suc n + k) → Contains (cond t (n ∷ places_from (suc n) os) (places_from (suc n) os)) (suc n + k)
      go true i = Contains-tail n (places_from (suc n) os) (suc n + k) i
      go false i = i

  distinct-places_from : (n : ℕ) (ls : Lives) → distinct (places_from n ls) ≡ true
  distinct-places_from n [] = refl
  distinct-places_from n (o ∷ os) = go (test o) (distinct-places_from (suc n) os)
    where
      go : (t : Bool) → distinct (places_from (suc n) os) ≡ true → distinct (cond t (n ∷ places_from (suc n) os) (places_from (suc n) os)) ≡ true
      go true e = distinct-cons n (places_from (suc n) os) (λ i. let p = place_at (suc n) n os i in absurd (omega (arith, p.is))) e
      go false e = e

-- a block owns as many as have the status that it owns them
pub owned_counted : (T : Types) (state : StoreState) (b : ℕ) (l : Life) → IsConsistent T state → life_at state.lives b ≡ Some l →
    length (T.owned l.ty (current l)) ≡ owned_count state.lives b
owned_counted T state b l ok alive =
    let test = alive_and (λ (m : Life). is_owned_by b m.status) in
    let owned = T.owned l.ty (current l) in
    let places = places_from test 0 state.lives in
    let low = numbers_within (blocks_of owned) places (newest_once T state b l ok alive)
    (λ c i.
    let r = blocks_of_at owned c i in
    let pair = pair_owned T state b l ok alive c r.0 r.1 in
    let first : 0 + c ≡ c = omega arith in
    subst (λ n. Contains places n) first
    (place_from test 0 c state.lives refl (ap test pair.alive ∙ (ap (is_owned_by b) pair.holds.1 ∙ eq-eqb b b refl)))) in
    let high = numbers_within places (blocks_of owned) (distinct-places_from test 0 state.lives)
    (λ c i.
    let p = place_at test 0 c state.lives i in
    let same : c ≡ p.at = omega (arith, p.is) in
    let m = alive_from (λ x. is_owned_by b x.status) (life_at state.lives c) (ap (λ k. test (life_at state.lives k)) same ∙ p.passed) in
    blocks_of_has owned (c, m.0.ty)
    (owned_pair T state b l ok alive c m.0.ty (record { life = m.0; alive = m.1; holds = (refl, owned_from b m.0.status m.2) }))) in
    omega (arith, low, high, length-blocks_of owned, length-places_from test 0 state.lives)
