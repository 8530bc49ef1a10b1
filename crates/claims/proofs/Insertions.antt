-- Adds that stand one behind another among the pairs that a block owned.
use Rattle.std.proofs.Common.{◌≡◌, ℕ, ◌+◌, true, List, [], ◌++◌, length, Some, refl, sym, ◌∙◌, ap, subst, arith, inl, inr, length-append}
use Rattle.std.specs.Prelude.{not, ◌&&◌, ◌==◌, Contains}
use Rattle.std.specs.List.{list_all}
use Rattle.std.proofs.lemmas.Bool.{and_parts, and_from, eq-eqb}
use Rattle.std.proofs.lemmas.List.Elements.{Contains-append_left, Contains-append_right, Contains-append_cases}
use Rattle.xn_model.specs.Types.{Types, inside, without, named_once}
use Rattle.xn_model.specs.Lists.{has_number, distinct, blocks_of}
use Rattle.xn_model.specs.Lives.{Life, StoreState, life_at, current}
use Rattle.xn_model.specs.Calls.{may_add}
use Rattle.xn_model.specs.Rules.{IsConsistent}
use Rattle.xn_model.proofs.ForCallers.{Contains-none, filter_from, blocks_of_at}
use Rattle.udf_run.specs.SlotRows.{IsInsertion}
use Rattle.claims.specs.Owners.{are_allowed, is_claimed, owned_count}
use Rattle.claims.proofs.OwnedPairs.{allowed_is}
use Rattle.claims.proofs.ListCounts.{blocks_of-append, distinct-append, distinct_parts, inside_from, left_from}
use Rattle.claims.proofs.ClaimsByStatus.{adds_apart, newest_once}
use Rattle.claims.proofs.CountedPairs.{owned_counted}

module _ (old adds new : List (ℕ × ℕ)) (is : IsInsertion old adds new) where
  -- each new pair is an old one or an add, and the other way round
  new_pair : (p : ℕ × ℕ) → Contains new p → Contains (without old [] ++ adds) p
  new_pair p i =
      let rest = without old [] in
      let kept : Contains (is.before ++ is.behind) p → Contains (rest ++ adds) p =
      λ h. Contains-append_left rest adds p (filter_from (λ q. not (has_number [] q.0)) old p (subst (λ ps. Contains ps p) (sym is.old_is) h) refl) in
      elim (Contains-append_cases is.before (adds ++ is.behind) p (subst (λ ps. Contains ps p) is.new_is i)) [
        | inl h ↦ kept (Contains-append_left is.before is.behind p h)
        | inr h ↦ elim (Contains-append_cases adds is.behind p h) [
          | inl here ↦ Contains-append_right rest adds p here
          | inr there ↦ kept (Contains-append_right is.before is.behind p there)
        ]
      ]

  add_pair : (p : ℕ × ℕ) → Contains adds p → Contains new p
  add_pair p i =
      subst (λ ps. Contains ps p) (sym is.new_is) (Contains-append_right is.before (adds ++ is.behind) p (Contains-append_left adds is.behind p i))

  new_count : length new ≡ length old + length adds
  new_count =
      let all = ap length is.new_is in
      let were = ap length is.old_is in
      omega (arith, all, were, length-append is.before is.behind, length-append is.before (adds ++ is.behind), length-append adds is.behind)

  new_once : distinct (blocks_of old) ≡ true → distinct (blocks_of adds) ≡ true → ((n : ℕ) → Contains (blocks_of old) n → Contains (blocks_of adds) n → ⊥) →
      distinct (blocks_of new) ≡ true
  new_once once adds_once apart =
      let first = blocks_of is.before in
      let last = blocks_of is.behind in
      let more = blocks_of adds in
      let blocks : blocks_of old ≡ first ++ last = ap blocks_of is.old_is ∙ blocks_of-append is.before is.behind in
      let parts = distinct_parts first last (sym (ap distinct blocks) ∙ once) in
      let out : (n : ℕ) → Contains (first ++ last) n → Contains more n → ⊥ = λ n h. apart n (subst (λ ns. Contains ns n) (sym blocks) h) in
      let behind = distinct-append more last adds_once parts.1 (λ n here there. out n (Contains-append_right first last n there) here) in
      ap (λ ps. distinct (blocks_of ps)) is.new_is
      ∙ (ap distinct (blocks_of-append is.before (adds ++ is.behind) ∙ ap (λ ns. first ++ ns) (blocks_of-append adds is.behind))
      ∙ distinct-append first (more ++ last) parts.0 behind
      (λ n here there. elim (Contains-append_cases more last n there) [
        | inl added ↦ out n (Contains-append_left first last n here) added
        | inr kept ↦ parts.2 n here kept
      ]))

pub insertion_claimed : (T : Types) (state : StoreState) (b fs : ℕ) (l : Life) (new : List ℕ) (adds : List (ℕ × ℕ)) → IsConsistent T state → life_at state.lives b ≡ Some l →
    (list_all (may_add state fs) adds && distinct (blocks_of adds)) ≡ true → IsInsertion (T.owned l.ty (current l)) adds (T.owned l.ty new) →
    (is_claimed state.lives b (owned_count state.lives b) (T.owned l.ty new) adds [] && named_once T l.ty new) ≡ true
insertion_claimed T state b fs l new adds ok alive may is =
    let old = T.owned l.ty (current l) in
    let now = T.owned l.ty new in
    let added = and_parts (list_all (may_add state fs) adds) (distinct (blocks_of adds)) may in
    let apart : (n : ℕ) → Contains (blocks_of old) n → Contains (blocks_of adds) n → ⊥ =
    λ n i. let r = blocks_of_at old n i in adds_apart T state b fs l new adds [] ok alive added.0 added.1 refl refl n (left_from old [] n r.0 r.1 (Contains-none n)) in
    let allowed : are_allowed state.lives b adds [] now ≡ true =
    allowed_is T state b l ok alive now adds [] ∙ inside_from now (without old [] ++ adds) (new_pair old adds now is) in
    let count : length now + 0 ≡ owned_count state.lives b + length adds = omega (arith, new_count old adds now is, owned_counted T state b l ok alive) in
    and_from (is_claimed state.lives b (owned_count state.lives b) now adds []) (named_once T l.ty new)
    (and_from (are_allowed state.lives b adds [] now) (inside adds now && (length now + 0 == owned_count state.lives b + length adds)) allowed
    (and_from (inside adds now) (length now + 0 == owned_count state.lives b + length adds) (inside_from adds now (add_pair old adds now is))
    (eq-eqb (length now + 0) (owned_count state.lives b + length adds) count)))
    (new_once old adds now is (newest_once T state b l ok alive) added.1 apart)
