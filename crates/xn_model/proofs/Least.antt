-- With nothing in flight and something pending, some block has a safe prefix: the least pending number is safe.
use Rattle.std.proofs.Common.{◌≡◌, ℕ, zero, suc, ◌<◌, ◌≤◌, Bool, true, false, cond, not, ◌&&◌, ◌||◌, List, [], ◌∷◌, ◌++◌, map, length, Option, Some, None, refl, sym, ◌∙◌, ap, inl, inr, arith, subst, eqb}
use Rattle.std.specs.Prelude.{Contains, option_to_list, is_some, is_none, flat_map, nat_lt, position, ◌==◌}
use Rattle.std.specs.List.{position_or_len, last_or, list_any, list_all}
use Rattle.std.proofs.lemmas.Bool.{cases_lt, cases_Bool, false≢true, and_from, or_left, eqb-true, lt-ltb, ltb-false, cond-true, false_from_ne_true}
use Rattle.std.proofs.lemmas.Option.{none-some, unwrap_or-slice_get}
use Rattle.std.proofs.lemmas.List.Sums.{fails_before_first}
use Rattle.std.proofs.lemmas.List.Elements.{Contains-append_cases, Contains-append_left, Contains-append_right}
use Rattle.xn_model.specs.Lists.{blocks_of, types_of_pairs}
use Rattle.xn_model.specs.Root.{has_type}
use Rattle.xn_model.specs.Types.{Types}
use Rattle.xn_model.specs.Lives.{BlockState, Life, Lives, life_at, alive_and, has_entry, is_pending, no_states, has_durable, is_all_durable, is_after_met, is_type_met, root_on_disk, safe, safe_count, prefix, prefix_of, StoreState}
use Rattle.xn_model.specs.Calls.{pick_of, is_ready}
use Rattle.xn_model.specs.Rules.{IsConsistent, Rises}
use Rattle.xn_model.proofs.Catalogue.{on_disk_is}
use Rattle.xn_model.proofs.Lists.{Contains-none, Contains-head, Contains-tail, Contains-cons, any_at, blocks_of_at}

-- the entries that a life, and all lives, have pending
abbrev entries : Option Life → List ℕ
entries None = []
entries (Some l) = map (λ s. s.entry) l.pending

abbrev all_entries : Lives → List ℕ
all_entries lives = flat_map entries lives

-- a pending state of a living block
record Waits (lives : Lives) (n : ℕ) : Type 0 where
  block : ℕ
  life : Life
  alive : life_at lives block ≡ Some life
  state : BlockState
  pending : Contains life.pending state
  entry : state.entry ≡ n

entry_at : (xs : List BlockState) (n : ℕ) → Contains (map (λ s. s.entry) xs) n → (s : BlockState) × Contains xs s × (s.entry ≡ n)
entry_at [] n h = absurd (Contains-none n h)
entry_at (x ∷ xs) n h = elim (Contains-cons x.entry (map (λ s. s.entry) xs) n h) [ inl e ↦ (x, Contains-head x xs, e) | inr i ↦ let r = entry_at xs n i in (r.0, Contains-tail x xs r.0 r.1, r.2) ]

entry_from : (xs : List BlockState) (s : BlockState) → Contains xs s → Contains (map (λ s. s.entry) xs) s.entry
entry_from [] s h = absurd (Contains-none s h)
entry_from (x ∷ xs) s h = elim (Contains-cons x xs s h) [ inl e ↦ subst (λ (y : BlockState). Contains (x.entry ∷ map (λ s. s.entry) xs) y.entry) e (Contains-head x.entry (map (λ s. s.entry) xs)) | inr i ↦ Contains-tail x.entry (map (λ s. s.entry) xs) s.entry (entry_from xs s i) ]

life_entry : (o : Option Life) (n : ℕ) → Contains (entries o) n → (l : Life) × (o ≡ Some l) × ((s : BlockState) × Contains l.pending s × (s.entry ≡ n))
life_entry None n h = absurd (Contains-none n h)
life_entry (Some l) n h = (l, refl, entry_at l.pending n h)

waits_at : (lives : Lives) (n : ℕ) → Contains (all_entries lives) n → Waits lives n
waits_at [] n h = absurd (Contains-none n h)
waits_at (o ∷ os) n h = elim (Contains-append_cases (entries o) (all_entries os) n h) [
  | inl here ↦ let r = life_entry o n here in record { block = 0; life = r.0; alive = r.1; state = r.2.0; pending = r.2.1; entry = r.2.2 }
  | inr later ↦ let r = waits_at os n later in record { block = suc r.block; life = r.life; alive = r.alive; state = r.state; pending = r.pending; entry = r.entry }
]

waits_from : (lives : Lives) (b : ℕ) (l : Life) (s : BlockState) → life_at lives b ≡ Some l → Contains l.pending s → Contains (all_entries lives) s.entry
waits_from [] b l s e h = absurd (none-some l e)
waits_from (o ∷ os) zero l s e h = Contains-append_left (entries o) (all_entries os) s.entry (subst (λ x. Contains (entries x) s.entry) (sym e) (entry_from l.pending s h))
waits_from (o ∷ os) (suc b) l s e h = Contains-append_right (entries o) (all_entries os) s.entry (waits_from os b l s e h)

-- a list that is not empty has a least
least_of : (x : ℕ) (xs : List ℕ) → (m : ℕ) × Contains (x ∷ xs) m × ((y : ℕ) → Contains (x ∷ xs) y → m ≤ y)
least_of x [] = (x, Contains-head x [], λ y h. elim (Contains-cons x [] y h) [ inl e ↦ omega arith | inr none ↦ absurd (Contains-none y none) ])
least_of x (z ∷ xs) =
    let r = least_of z xs in
    elim (cases_lt x r.0) [
      | inl lt ↦ (x, Contains-head x (z ∷ xs), λ y h. elim (Contains-cons x (z ∷ xs) y h) [ inl e ↦ omega arith | inr i ↦ let le = r.2 y i in omega arith ])
      | inr ge ↦ (r.0, Contains-tail x (z ∷ xs) r.0 r.1, λ y h. elim (Contains-cons x (z ∷ xs) y h) [ inl e ↦ omega arith | inr i ↦ r.2 y i ])
    ]

least_in : (xs : List ℕ) (n : ℕ) → Contains xs n → (m : ℕ) × Contains xs m × ((y : ℕ) → Contains xs y → m ≤ y)
least_in [] n h = absurd (Contains-none n h)
least_in (x ∷ xs) n h = least_of x xs

-- tests that pass
pub all_from : {A : Type 0} (p : A → Bool) (xs : List A) → ((x : A) → Contains xs x → p x ≡ true) → list_all p xs ≡ true
all_from p [] h = refl
all_from p (x ∷ xs) h = and_from (p x) (list_all p xs) (h x (Contains-head x xs)) (all_from p xs (λ y i. h y (Contains-tail x xs y i)))

pub list_life : (lives : Lives) (test : Life → Bool) → list_any (alive_and test) lives ≡ true → (b : ℕ) × (l : Life) × (life_at lives b ≡ Some l) × (test l ≡ true)
list_life [] test e = absurd (false≢true e)
list_life (None ∷ os) test e = let r = list_life os test e in (suc r.0, r.1, r.2, r.3)
list_life (Some l ∷ os) test e = elim (cases_Bool (test l)) [
  | inl t ↦ (0, l, refl, t)
  | inr f ↦ let r = list_life os test (ap (λ b. b || list_any (alive_and test) os) (sym f) ∙ e) in (suc r.0, r.1, r.2, r.3)
]

-- the first pending state is the least of its block
pub rises_first : (x : BlockState) (xs : List BlockState) (s : BlockState) → Rises (x ∷ xs) → Contains (x ∷ xs) s → x.entry ≤ s.entry
rises_first x [] s r h = elim (Contains-cons x [] s h) [ inl e ↦ let same : x.entry ≡ s.entry = ap (λ (y : BlockState). y.entry) e in omega arith | inr none ↦ absurd (Contains-none s none) ]
rises_first x (y ∷ ys) s r h = elim (Contains-cons x (y ∷ ys) s h) [ inl e ↦ let same : x.entry ≡ s.entry = ap (λ (z : BlockState). z.entry) e in omega arith | inr i ↦ let le = rises_first y ys s r.1 i in let lt = r.0 in omega arith ]

first_least : (o : Option BlockState) (x : BlockState) (xs : List BlockState) (s : BlockState) → Rises (option_to_list o ++ x ∷ xs) → Contains (x ∷ xs) s → x.entry ≤ s.entry
first_least None x xs s r h = rises_first x xs s r h
first_least (Some y) x xs s r h = rises_first x xs s r.1 h

module _ (T : Types) (state : StoreState) (h : IsConsistent T state) (n : ℕ) (least : (y : ℕ) → Contains (all_entries state.lives) y → n ≤ y) where
  -- nothing pending is older
  none_older : (b : ℕ) (l : Life) (t : BlockState) → life_at state.lives b ≡ Some l → Contains l.pending t → t.entry < n → ⊥
  none_older b l t e i lt = let le = least t.entry (waits_from state.lives b l t e i) in omega arith

  -- the state of the least number is safe, wherever it stands
  least_safe : (b : ℕ) (l : Life) (s : BlockState) (earlier : List BlockState) → life_at state.lives b ≡ Some l → Contains l.pending s → s.entry ≡ n → safe state.lives l.ty earlier s ≡ true
  least_safe b l s earlier alive i e =
      and_from (list_all (has_durable state.lives) (blocks_of s.adds) && list_all (is_type_met state.lives l.ty earlier) (types_of_pairs s.adds)) (list_all (is_all_durable state.lives) s.drops && is_after_met state.lives earlier s.after)
      (and_from (list_all (has_durable state.lives) (blocks_of s.adds)) (list_all (is_type_met state.lives l.ty earlier) (types_of_pairs s.adds))
      (all_from (has_durable state.lives) (blocks_of s.adds) (λ c k. let p = blocks_of_at s.adds c k in added c p.0 p.1))
      (all_from (is_type_met state.lives l.ty earlier) (types_of_pairs s.adds) (λ u k. let p = types_at s.adds u k in typed p.0 u p.1)))
      (and_from (list_all (is_all_durable state.lives) s.drops) (is_after_met state.lives earlier s.after)
      (all_from (is_all_durable state.lives) s.drops (λ c k. dropped c k))
      (after s.after refl))
    where
      added : (c u : ℕ) → Contains s.adds (c, u) → has_durable state.lives c ≡ true
      added c u k =
          let o = (h.waits.adds b l s c u alive i k).1 in
          elim o.holds [
            | inl d ↦ ap (alive_and (λ x. is_some x.durable)) o.alive ∙ ap is_some d.1
            | inr t ↦ absurd (none_older c o.life t.0 o.alive t.1 (let lt = t.2 in omega arith))
          ]

      -- the entry that block 0's type came with is older
      typed : (c u : ℕ) → Contains s.adds (c, u) → is_type_met state.lives l.ty earlier u ≡ true
      typed c u k =
          let o = h.waits.types b l s c u alive i k in
          or_left (has_type (root_on_disk state.lives) u) ((l.ty == 0) && list_any (λ x. has_type x.bytes u) earlier) (elim o.holds [
            | inl d ↦ ap (λ m. has_type m u) (on_disk_is state.lives o.life d.0 o.alive d.1) ∙ d.2
            | inr t ↦ absurd (none_older 0 o.life t.0 o.alive t.1 (let lt = t.2 in omega arith))
          ])

      types_at : (ps : List (ℕ × ℕ)) (u : ℕ) → Contains (types_of_pairs ps) u → (c : ℕ) × Contains ps (c, u)
      types_at [] u k = absurd (Contains-none u k)
      types_at (p ∷ ps) u k = elim (Contains-cons p.1 (types_of_pairs ps) u k) [
        | inl e ↦ (p.0, subst (λ t. Contains (p ∷ ps) (p.0, t)) e (Contains-head p ps))
        | inr j ↦ let r = types_at ps u j in (r.0, Contains-tail p ps (r.0, u) r.1)
      ]

      settled_if_none : (c : ℕ) (m : Life) → life_at state.lives c ≡ Some m → (xs : List BlockState) → m.pending ≡ xs → ((t : BlockState) → Contains xs t → ⊥) → is_all_durable state.lives c ≡ true
      settled_if_none c m f [] p none =
          let k = h.linked c m f in
          let stored : m.durable ≡ Some k.last = sym (ap (last_or m.durable) p) ∙ k.is_last in
          ap (alive_and (λ x. is_some x.durable && no_states x.pending)) f ∙ and_from (is_some m.durable) (no_states m.pending) (ap is_some stored) (ap no_states p)
      settled_if_none c m f (t ∷ xs) p none = absurd (none t (Contains-head t xs))

      dropped : (c : ℕ) → Contains s.drops c → is_all_durable state.lives c ≡ true
      dropped c k =
          let d = (h.linked b l alive).dropped s c i k in
          settled_if_none c d.life d.alive d.life.pending refl (λ t j. none_older c d.life t d.alive j (let lt = h.waits.drops b l s c d.life t alive i k d.alive j in omega arith))

      after : (o : Option ℕ) → s.after ≡ o → is_after_met state.lives earlier o ≡ true
      after None f = refl
      after (Some x) f =
          let lt = h.waits.after b l s x alive i f in
          or_left (not (is_pending state.lives x)) (has_entry earlier x) (ap not (false_from_ne_true (is_pending state.lives x) (λ t.
          let r = list_life state.lives (λ l. has_entry l.pending x) t in
          let z = any_at (λ (y : BlockState). eqb y.entry x) r.1.pending r.3 in
          let same = eqb-true z.0.entry x z.2 in
          none_older r.0 r.1 z.0 r.2 z.1 (omega arith))))

  -- so its block has a prefix
  least_prefix : (b : ℕ) (l : Life) (s : BlockState) → life_at state.lives b ≡ Some l → Contains l.pending s → s.entry ≡ n → 1 ≤ prefix state.lives b
  least_prefix b l s alive i e = subst (λ o. 1 ≤ prefix_of state.lives o) (sym alive) (first l.pending refl)
    where
      first : (xs : List BlockState) → l.pending ≡ xs → 1 ≤ safe_count state.lives l.ty [] xs
      first [] p = absurd (Contains-none s (subst (λ ys. Contains ys s) p i))
      first (x ∷ xs) p =
          let here : Contains l.pending x = subst (λ ys. Contains ys x) (sym p) (Contains-head x xs) in
          let le : x.entry ≤ s.entry = first_least l.durable x xs s (subst (λ ys. Rises (option_to_list l.durable ++ ys)) p (h.lives_sound.each b l alive).rising) (subst (λ ys. Contains ys s) p i) in
          let ge = least x.entry (waits_from state.lives b l x alive here) in
          let is : x.entry ≡ n = omega arith in
          subst (λ k. 1 ≤ k) (sym (cond-true (safe state.lives l.ty [] x) (suc (safe_count state.lives l.ty ([] ++ x ∷ []) xs)) 0 (least_safe b l x [] alive here is))) (omega arith)

-- a ready block is found
pub picked : (lives os : Lives) (b : ℕ) (l : Life) → life_at os b ≡ Some l → is_ready lives (Some l) ≡ true → is_some (position (is_ready lives) os) ≡ true
picked lives os b l e r = go (position (is_ready lives) os) refl
  where
    go : (o : Option ℕ) → position (is_ready lives) os ≡ o → is_some o ≡ true
    go (Some i) f = refl
    go None f = absurd (false≢true (sym (fails_before_first (is_ready lives) os b None (let lt = within os b e in let ge = no_first (nat_lt (position_or_len (is_ready lives) os) (length os)) refl f in omega arith))
        ∙ (ap (is_ready lives) (sym (unwrap_or-slice_get os b None) ∙ e) ∙ r)))
      where
        no_first : (t : Bool) → nat_lt (position_or_len (is_ready lives) os) (length os) ≡ t → cond t (Some (position_or_len (is_ready lives) os)) None ≡ None → length os ≤ position_or_len (is_ready lives) os
        no_first true g n = absurd (none-some (position_or_len (is_ready lives) os) (sym n))
        no_first false g n = ltb-false (position_or_len (is_ready lives) os) (length os) g

        within : (os : Lives) (b : ℕ) → life_at os b ≡ Some l → b < length os
        within [] b e = absurd (none-some l e)
        within (o ∷ os) zero e = omega arith
        within (o ∷ os) (suc b) e = let lt = within os b e in omega arith

-- With nothing in flight and something pending, pick answers a block.
pub progress : (T : Types) (state : StoreState) → IsConsistent T state → ((b : ℕ) (l : Life) → life_at state.lives b ≡ Some l → l.begun ≡ None) → (b : ℕ) (l : Life) (s : BlockState) → life_at state.lives b ≡ Some l → Contains l.pending s → is_some (pick_of state) ≡ true
progress T state h idle b l s alive i =
    let m = least_in (all_entries state.lives) s.entry (waits_from state.lives b l s alive i) in
    let x = waits_at state.lives m.0 m.1 in
    let long : 1 ≤ prefix_of state.lives (Some x.life) = subst (λ o. 1 ≤ prefix_of state.lives o) x.alive (least_prefix T state h m.0 m.2 x.block x.life x.state x.alive x.pending x.entry) in
    let ready : is_ready state.lives (Some x.life) ≡ true = and_from (is_none x.life.begun) (nat_lt 0 (prefix_of state.lives (Some x.life))) (ap is_none (idle x.block x.life x.alive)) (lt-ltb 0 (prefix_of state.lives (Some x.life)) (omega arith)) in
    picked state.lives state.lives x.block x.life x.alive ready
