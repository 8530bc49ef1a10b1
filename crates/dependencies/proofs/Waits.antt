-- Safety, by a count.
use Rattle.std.proofs.Common.{◌≡◌, ◌≢◌, ℕ, zero, suc, ◌+◌, ◌<◌, ◌≤◌, Bool, true, false, cond, List, [], ◌∷◌, ◌++◌, Option, Some, None, refl, sym, ◌∙◌, ap, inl, inr, subst, arith}
use Rattle.std.specs.Prelude.{not, ◌&&◌, ◌||◌, ◌==◌, Contains, count_by, option_to_list, if◌then◌else◌}
use Rattle.std.specs.List.{list_all, list_any}
use Rattle.std.proofs.lemmas.Bool.{ne_eqb, eq-eqb, cases_eq, or_left, or_right, and_from}
use Rattle.std.proofs.lemmas.List.Elements.{Contains-append_right, Contains-append_cases}
use Rattle.std.proofs.lemmas.List.Folds.{list_any-append}
use Rattle.std.proofs.lemmas.List.Sums.{sum_by-cons}
use Rattle.xn_model.specs.Types.{Types}
use Rattle.xn_model.specs.Lists.{blocks_of, types_of_pairs}
use Rattle.xn_model.specs.Root.{has_type}
use Rattle.xn_model.specs.Lives.{BlockState, Life, StoreState, life_at, has_durable, is_all_durable, is_pending, has_entry, is_after_met, is_type_met, root_on_disk, durable_bytes, bytes_of, safe}
use Rattle.xn_model.specs.Rules.{IsConsistent, Rises}
use Rattle.xn_model.proofs.ForCallers.{of_life, of_root, Contains-head, Contains-tail, Contains-cons, Contains-none, any_from}
use Rattle.dependencies.specs.Unmet.{pending_entries_at, waits_after, types_unmet, unmet}

-- a count that is 0
none_missing : (p : ℕ → Bool) (xs : List ℕ) → (count_by (λ c. not (p c)) xs == 0) ≡ list_all p xs
none_missing p [] = refl
none_missing p (x ∷ xs) =
    ap (λ n. n == 0) (sum_by-cons (λ c. cond (not (p c)) 1 0) x xs) ∙ go (p x) (none_missing p xs)
  where
    go : (t : Bool) → (count_by (λ c. not (p c)) xs == 0) ≡ list_all p xs → (cond (not t) 1 0 + count_by (λ c. not (p c)) xs == 0) ≡ (t && list_all p xs)
    go true e = ap (λ n. n == 0) (let same : 0 + count_by (λ c. not (p c)) xs ≡ count_by (λ c. not (p c)) xs = omega arith in same) ∙ e
    go false e = ne_eqb (1 + count_by (λ c. not (p c)) xs) 0 (λ z. absurd (omega (arith, z)))

sum-zero : (x y : ℕ) → (x + y == 0) ≡ ((x == 0) && (y == 0))
sum-zero zero y = ap (λ n. n == 0) (let same : 0 + y ≡ y = omega arith in same)
sum-zero (suc x) y = ne_eqb (suc x + y) 0 (λ z. absurd (omega (arith, z))) ∙ ap (λ t. t && (y == 0)) (sym (ne_eqb (suc x) 0 (λ z. absurd (omega (arith, z)))))

-- numbers rise
rises_tail : (x : BlockState) (xs : List BlockState) → Rises (x ∷ xs) → Rises xs
rises_tail x [] r = tt
rises_tail x (y ∷ xs) r = r.1

rises_behind : (xs ys : List BlockState) → Rises (xs ++ ys) → Rises ys
rises_behind [] ys r = r
rises_behind (x ∷ xs) ys r = rises_behind xs ys (rises_tail x (xs ++ ys) r)

none_later : (s : BlockState) (later : List BlockState) (n : ℕ) → Rises (s ∷ later) → n < s.entry → has_entry later n ≡ false
none_later s [] n r below = refl
none_later s (t ∷ later) n r below =
    let above : n < t.entry = omega (arith, r.0, below) in
    (λ i. ne_eqb t.entry n (λ e. absurd (omega (arith, e, above))) i || none_later t later n r.1 above i)

or-false : (x : Bool) → (x || false) ≡ x
or-false true = refl
or-false false = refl

-- what is met, as a number
met : (p e : Bool) → (cond (p && not e) 1 0 == 0) ≡ (not p || e)
met true true = refl
met true false = refl
met false e = refl

module _ (T : Types) (state : StoreState) (b : ℕ) (l : Life) (earlier later : List BlockState) (s : BlockState) (ok : IsConsistent T state)
    (alive : life_at state.lives b ≡ Some l) (split : l.pending ≡ earlier ++ s ∷ later) where
  here : Contains l.pending s
  here = subst (λ xs. Contains xs s) (sym split) (Contains-append_right earlier (s ∷ later) s (Contains-head s later))

  rest_rises : Rises (s ∷ later)
  rest_rises =
      let all = (ok.lives_sound.each b l alive).rising in
      rises_behind earlier (s ∷ later) (subst Rises split (rises_behind (option_to_list l.durable) l.pending all))

  same_entries : (n : ℕ) → n < s.entry → has_entry l.pending n ≡ has_entry earlier n
  same_entries n below =
      ap (λ xs. has_entry xs n) split
      ∙ (list_any-append (λ (t : BlockState). t.entry == n) earlier (s ∷ later)
      ∙ (ap (λ t. has_entry earlier n || t) (λ i. ne_eqb s.entry n (λ e. absurd (omega (arith, e, below))) i || none_later s later n rest_rises below i)
      ∙ or-false (has_entry earlier n)))

  after_met : (o : Option ℕ) → s.after ≡ o → (waits_after state.lives b o == 0) ≡ is_after_met state.lives earlier o
  after_met None e = refl
  after_met (Some n) e =
      let below = ok.waits.after b l s n alive here e in
      let own = ap (λ o. has_entry (pending_entries_at o) n) alive ∙ same_entries n below in
      ap (λ h. cond (is_pending state.lives n && not h) 1 0 == 0) own ∙ met (is_pending state.lives n) (has_entry earlier n)

  -- the types of what it adds
  later_above : (t : BlockState) → Contains (s ∷ later) t → s.entry ≤ t.entry
  later_above t i = above s later t rest_rises i
    where
      above : (x : BlockState) (xs : List BlockState) (t : BlockState) → Rises (x ∷ xs) → Contains (x ∷ xs) t → x.entry ≤ t.entry
      above x [] t r i = elim (Contains-cons x [] t i) [ inl e ↦ let same : x.entry ≡ t.entry = ap (λ (y : BlockState). y.entry) e in omega (arith, same) | inr none ↦ absurd (Contains-none t none) ]
      above x (y ∷ ys) t r i = elim (Contains-cons x (y ∷ ys) t i) [
        | inl e ↦ let same : x.entry ≡ t.entry = ap (λ (z : BlockState). z.entry) e in omega (arith, same)
        | inr j ↦ let le = above y ys t r.1 j in omega (arith, le, r.0)
      ]

  -- block 0 has them in an earlier state
  pub root_has : b ≡ 0 → (c u : ℕ) → Contains s.adds (c, u) → is_type_met state.lives l.ty earlier u ≡ true
  root_has zero' c u i =
      let root : life_at state.lives 0 ≡ Some l = ap (life_at state.lives) (sym zero') ∙ alive in
      let ty : l.ty ≡ 0 = (of_root ok.lives_sound.root l root).0 in
      elim (of_life (ok.waits.types b l s c u alive here i) l root) [
        | inl d ↦ or_left (has_type (root_on_disk state.lives) u) ((l.ty == 0) && list_any (λ x. has_type x.bytes u) earlier)
            (ap (λ m. has_type m u) (ap durable_bytes root ∙ ap bytes_of d.1) ∙ d.2)
        | inr t ↦
            let in' : Contains (earlier ++ s ∷ later) t.0 = subst (λ xs. Contains xs t.0) split t.1 in
            elim (Contains-append_cases earlier (s ∷ later) t.0 in') [
              | inl before ↦ or_right (has_type (root_on_disk state.lives) u) ((l.ty == 0) && list_any (λ x. has_type x.bytes u) earlier)
                  (and_from (l.ty == 0) (list_any (λ x. has_type x.bytes u) earlier) (eq-eqb l.ty 0 ty) (any_from (λ x. has_type x.bytes u) earlier t.0 before t.3))
              | inr behind ↦ let le = later_above t.0 behind in absurd (omega (arith, le, t.2))
            ]
      ]

  -- another block finds them on the disk, or not at all
  other_has : b ≢ 0 → (u : ℕ) → is_type_met state.lives l.ty earlier u ≡ has_type (root_on_disk state.lives) u
  other_has ne u =
      ap (λ t. has_type (root_on_disk state.lives) u || (t && list_any (λ x. has_type x.bytes u) earlier)) (ne_eqb l.ty 0 (λ z. ne ((ok.linked b l alive).root_alone z)))
      ∙ or-false (has_type (root_on_disk state.lives) u)

  all_of : (ps : List (ℕ × ℕ)) → ((c u : ℕ) → Contains ps (c, u) → is_type_met state.lives l.ty earlier u ≡ true) → list_all (is_type_met state.lives l.ty earlier) (types_of_pairs ps) ≡ true
  all_of [] h = refl
  all_of (p ∷ ps) h = and_from (is_type_met state.lives l.ty earlier p.1) (list_all (is_type_met state.lives l.ty earlier) (types_of_pairs ps)) (h p.0 p.1 (Contains-head p ps)) (all_of ps (λ c u i. h c u (Contains-tail p ps (c, u) i)))

  types_met : (types_unmet state.lives b s.adds == 0) ≡ list_all (is_type_met state.lives l.ty earlier) (types_of_pairs s.adds)
  types_met =
      let missing = count_by (λ u. not (has_type (root_on_disk state.lives) u)) (types_of_pairs s.adds) in
      elim (cases_eq b 0) [
        | inl zero' ↦ ap (λ t. (if t then 0 else missing) == 0) (eq-eqb b 0 zero') ∙ sym (all_of s.adds (root_has zero'))
        | inr ne ↦ ap (λ t. (if t then 0 else missing) == 0) (ne_eqb b 0 ne)
            ∙ (none_missing (has_type (root_on_disk state.lives)) (types_of_pairs s.adds) ∙ sym (λ i. list_all (λ u. other_has ne u i) (types_of_pairs s.adds)))
      ]

  pub safe_is : safe state.lives l.ty earlier s ≡ (unmet state.lives b s == 0)
  safe_is =
      let adds = count_by (λ c. not (has_durable state.lives c)) (blocks_of s.adds) in
      let types = types_unmet state.lives b s.adds in
      let drops = count_by (λ c. not (is_all_durable state.lives c)) s.drops in
      sym (sum-zero (adds + types) (drops + waits_after state.lives b s.after)
      ∙ ((λ i. sum-zero adds types i && sum-zero drops (waits_after state.lives b s.after) i)
      ∙ (λ i. (none_missing (has_durable state.lives) (blocks_of s.adds) i && types_met i)
      && (none_missing (is_all_durable state.lives) s.drops i && after_met s.after refl i))))
