-- The pairs of newest states, against the statuses.
use Rattle.std.proofs.Common.{◌≡◌, ℕ, Bool, true, false, List, [], ◌∷◌, ◌++◌, Option, Some, None, refl, sym, ◌∙◌, ap, subst}
use Rattle.std.specs.Prelude.{not, ◌&&◌, ◌||◌, ◌==◌, ◌↔◌, Contains, IsTrue, filter}
use Rattle.std.specs.List.{list_all}
use Rattle.std.proofs.lemmas.Bool.{and_parts, and_from, eq-eqb, eqb-true, false≢true}
use Rattle.std.proofs.lemmas.List.Folds.{list_any-append}
use Rattle.xn_model.specs.Types.{Types, inside, without}
use Rattle.xn_model.specs.Lists.{has_number, has_pair}
use Rattle.xn_model.specs.Lives.{BlockState, Life, Lives, StoreState, life_at, newest, current, bytes_of, alive_and, is_owned_by}
use Rattle.xn_model.specs.Calls.{is_empty, owns_nothing}
use Rattle.xn_model.specs.Rules.{IsConsistent, NamedIn}
use Rattle.xn_model.proofs.ForCallers.{owned_from, of_life, last_of, Contains-head, Contains-none, has_pair_at, has_pair_from, filter_at, filter_from}
use Rattle.claims.specs.Owners.{IsOwnedPair, OwnsNone, is_owned_pair, are_allowed}

-- a newest state and its bytes
named_newest : (T : Types) (t : ℕ) (o : Option BlockState) (s : BlockState) (p : ℕ × ℕ) → o ≡ Some s → Contains (T.owned t (bytes_of o)) p → NamedIn T t o p
named_newest T t o s p is has =
    let P : Option BlockState → Type 0 = λ x. Contains (T.owned t (bytes_of x)) p → NamedIn T t x p in
    subst P (sym is) (λ h. h) has

newest_named : (T : Types) (t : ℕ) (o : Option BlockState) (p : ℕ × ℕ) → NamedIn T t o p → Contains (T.owned t (bytes_of o)) p
newest_named T t None p named = absurd named
newest_named T t (Some s) p named = named

module _ (T : Types) (state : StoreState) (b : ℕ) (l : Life) (ok : IsConsistent T state) (alive : life_at state.lives b ≡ Some l) where
  pub pair_owned : (c u : ℕ) → Contains (T.owned l.ty (current l)) (c, u) → IsOwnedPair state.lives b c u
  pair_owned c u has =
      let link = ok.linked b l alive in
      let owned = link.owned c u (named_newest T l.ty (newest l) link.last (c, u) link.is_last has) in
      let among = last_of l.durable l.pending link.last link.is_last in
      let here = let P : Option BlockState → Type 0 = λ o. Contains (T.owned l.ty (bytes_of o)) (c, u) in subst P link.is_last has in
      let belongs = (ok.lives_sound.each b l alive).named link.last c u among here in
      record { life = owned.life; alive = owned.alive; holds = ((of_life belongs owned.life owned.alive).0, owned.holds) }

  pub owned_pair : (c u : ℕ) → IsOwnedPair state.lives b c u → Contains (T.owned l.ty (current l)) (c, u)
  owned_pair c u owned =
      let named = newest_named T l.ty (newest l) (c, owned.life.ty) (of_life (ok.statuses.owned c owned.life b owned.alive owned.holds.1) l alive) in
      let Q : ℕ → Type 0 = λ t. Contains (T.owned l.ty (current l)) (c, t) in
      subst Q owned.holds.0 named

  pub newest_pair : (c u : ℕ) → Contains (T.owned l.ty (current l)) (c, u) ↔ IsOwnedPair state.lives b c u
  newest_pair c u = (pair_owned c u, owned_pair c u)

-- Nothing owned

nothing_from : (T : Types) (t : ℕ) (m : List ℕ) → ((p : ℕ × ℕ) → Contains (T.owned t m) p → ⊥) → owns_nothing T t m ≡ true
nothing_from T t m none = go (T.owned t m) none
  where
    go : (ps : List (ℕ × ℕ)) → ((p : ℕ × ℕ) → Contains ps p → ⊥) → elim ps [ [] ↦ true | p ∷ qs ↦ false ] ≡ true
    go [] none' = refl
    go (p ∷ ps) none' = absurd (none' p (Contains-head p ps))

nothing_at : (T : Types) (t : ℕ) (m : List ℕ) (p : ℕ × ℕ) → owns_nothing T t m ≡ true → Contains (T.owned t m) p → ⊥
nothing_at T t m p none has = go (T.owned t m) none has
  where
    go : (ps : List (ℕ × ℕ)) → elim ps [ [] ↦ true | q ∷ qs ↦ false ] ≡ true → Contains ps p → ⊥
    go [] e h = Contains-none p h
    go (q ∷ qs) e h = false≢true e

module _ (T : Types) (state : StoreState) (b : ℕ) (l : Life) (ok : IsConsistent T state) (alive : life_at state.lives b ≡ Some l) where
  empty_is : is_empty T state b ≡ owns_nothing T l.ty (current l)
  empty_is = ap (alive_and (λ m. owns_nothing T m.ty (current m))) alive

  pub empty_block : IsTrue (is_empty T state b) ↔ OwnsNone state.lives b
  empty_block = (
    λ none c m there owned. nothing_at T l.ty (current l) (c, m.ty) (sym empty_is ∙ none) (owned_pair T state b l ok alive c m.ty (record { life = m; alive = there; holds = (refl, owned) })),
    λ none. empty_is ∙ nothing_from T l.ty (current l) (λ p has. let owned = pair_owned T state b l ok alive p.0 p.1 has in none p.0 owned.life owned.alive owned.holds.1),
  )

-- Allowed pairs

tested_pair : (lives : Lives) (b : ℕ) (p : ℕ × ℕ) (o : Option Life) → life_at lives p.0 ≡ o → alive_and (λ l. is_owned_by b l.status && (l.ty == p.1)) o ≡ true → IsOwnedPair lives b p.0 p.1
tested_pair lives b p None there e = absurd (false≢true e)
tested_pair lives b p (Some l) there e =
    let both = and_parts (is_owned_by b l.status) (l.ty == p.1) e in
    record { life = l; alive = there; holds = (eqb-true l.ty p.1 both.1, owned_from b l.status both.0) }

pair_tested : (lives : Lives) (b : ℕ) (p : ℕ × ℕ) → IsOwnedPair lives b p.0 p.1 → is_owned_pair lives b p ≡ true
pair_tested lives b p owned =
    ap (alive_and (λ l. is_owned_by b l.status && (l.ty == p.1))) owned.alive
    ∙ and_from _ _ (ap (is_owned_by b) owned.holds.1 ∙ eq-eqb b b refl) (eq-eqb owned.life.ty p.1 owned.holds.0)

-- two tests that hold of the same
pub same_tests : (x y : Bool) → (x ≡ true → y ≡ true) → (y ≡ true → x ≡ true) → x ≡ y
same_tests true y to back = sym (to refl)
same_tests false true to back = back refl
same_tests false false to back = refl

has_pair-filter : (ps : List (ℕ × ℕ)) (test : ℕ × ℕ → Bool) (p : ℕ × ℕ) → has_pair (filter test ps) p ≡ (has_pair ps p && test p)
has_pair-filter ps test p =
    same_tests _ _
    (λ e. let there = filter_at test ps p (has_pair_at (filter test ps) p e) in and_from _ _ (has_pair_from ps p there.0) there.1)
    (λ e. let both = and_parts (has_pair ps p) (test p) e in has_pair_from (filter test ps) p (filter_from test ps p (has_pair_at ps p both.0) both.1))

list_all-same : {A : Type 0} (f g : A → Bool) (xs : List A) → ((x : A) → f x ≡ g x) → list_all f xs ≡ list_all g xs
list_all-same f g [] same = refl
list_all-same f g (x ∷ xs) same = λ i. same x i && list_all-same f g xs same i

module _ (T : Types) (state : StoreState) (b : ℕ) (l : Life) (ok : IsConsistent T state) (alive : life_at state.lives b ≡ Some l) where
  pair_is : (p : ℕ × ℕ) → is_owned_pair state.lives b p ≡ has_pair (T.owned l.ty (current l)) p
  pair_is p =
      same_tests _ _
      (λ e. has_pair_from (T.owned l.ty (current l)) p (owned_pair T state b l ok alive p.0 p.1 (tested_pair state.lives b p (life_at state.lives p.0) refl e)))
      (λ e. pair_tested state.lives b p (pair_owned T state b l ok alive p.0 p.1 (has_pair_at (T.owned l.ty (current l)) p e)))

  pub allowed_is : (new adds : List (ℕ × ℕ)) (drops : List ℕ) → are_allowed state.lives b adds drops new ≡ inside new (without (T.owned l.ty (current l)) drops ++ adds)
  allowed_is new adds drops =
      let kept = λ (p : ℕ × ℕ). not (has_number drops p.0) in
      list_all-same _ _ new
      (λ p.
      ap (λ t. (t && kept p) || has_pair adds p) (pair_is p)
      ∙ (ap (λ t. t || has_pair adds p) (sym (has_pair-filter (T.owned l.ty (current l)) kept p))
      ∙ sym (list_any-append _ (without (T.owned l.ty (current l)) drops) adds)))
