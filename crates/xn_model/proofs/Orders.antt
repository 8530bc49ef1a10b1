-- Each number is pending once, and a begun write carries what its states come after.
use Rattle.std.proofs.Common.{◌≡◌, ℕ, zero, suc, ◌<◌, ◌≤◌, ◌⊎◌, Bool, true, false, cond, not, List, [], ◌∷◌, ◌++◌, length, take, drop, Option, Some, None, refl, sym, ◌∙◌, ap, inl, inr, arith, subst, eqb}
use Rattle.std.specs.Prelude.{Contains, slice_set, option_to_list}
use Rattle.std.proofs.lemmas.Bool.{false≢true, eqb-true, eq-eqb, and_parts, or_cases}
use Rattle.std.proofs.lemmas.Option.{same_Some, none-some}
use Rattle.std.proofs.lemmas.List.Elements.{Contains-append_cases, Contains-append_right}
use Rattle.xn_model.specs.Lives.{BlockState, Life, Lives, StoreState, life_at, carried, first_states, is_pending, has_entry, alive_and, safe, safe_count, is_after_met}
use Rattle.xn_model.specs.Types.{Types}
use Rattle.xn_model.specs.Rules.{AreOrdered, IsConsistent}
use Rattle.xn_model.proofs.Changes.{each, free, with_begun, settled, accept, accepted, bared}
use Rattle.xn_model.proofs.Lists.{Contains-none, Contains-head, Contains-tail, Contains-cons, Contains-take, Contains-drop, any_from, any_at}
use Rattle.xn_model.proofs.Lives.{each_back, free_back}
use Rattle.xn_model.proofs.Carry.{settled_if}

-- A new state, with a number above all

abbrev more : Bool → BlockState → List BlockState → List BlockState
more t s xs = cond t (xs ++ s ∷ []) xs

in_more : (t : Bool) (s : BlockState) (xs : List BlockState) (y : BlockState) → Contains (more t s xs) y → Contains xs y ⊎ ((t ≡ true) × (s ≡ y))
in_more true s xs y h = elim (Contains-append_cases xs (s ∷ []) y h) [ inl a ↦ inl a | inr b ↦ elim (Contains-cons s [] y b) [ inl e ↦ inr (refl, e) | inr i ↦ absurd (Contains-none y i) ] ]
in_more false s xs y h = inl h

carried_more : (t : Bool) (s : BlockState) (g : Option ℕ) (xs : List BlockState) (y : BlockState) → ((j : ℕ) → g ≡ Some j → j ≤ length xs) → Contains (first_states g (more t s xs)) y → Contains (first_states g xs) y
carried_more t s None xs y few h = h
carried_more true s (Some j) xs y few h = within j xs (few j refl) h
  where
    within : (j : ℕ) (xs : List BlockState) → j ≤ length xs → Contains (take j (xs ++ s ∷ [])) y → Contains (take j xs) y
    within zero xs le h = h
    within (suc j) [] le h = absurd (omega arith)
    within (suc j) (x ∷ xs) le h = elim (Contains-cons x (take j (xs ++ s ∷ [])) y h) [
      | inl e ↦ subst (λ z. Contains (z ∷ take j xs) y) (sym e) (Contains-head y (take j xs))
      | inr i ↦ Contains-tail x (take j xs) y (within j xs (omega arith) i)
    ]
carried_more false s (Some j) xs y few h = h

carried_still : (t : Bool) (s : BlockState) (g : Option ℕ) (xs : List BlockState) (y : BlockState) → Contains (first_states g xs) y → Contains (first_states g (more t s xs)) y
carried_still t s None xs y h = h
carried_still false s (Some j) xs y h = h
carried_still true s (Some j) xs y h = within j xs h
  where
    within : (j : ℕ) (xs : List BlockState) → Contains (take j xs) y → Contains (take j (xs ++ s ∷ [])) y
    within zero xs h = absurd (Contains-none y h)
    within (suc j) [] h = absurd (Contains-none y h)
    within (suc j) (x ∷ xs) h = elim (Contains-cons x (take j xs) y h) [
      | inl e ↦ subst (λ z. Contains (z ∷ take j (xs ++ s ∷ [])) y) (sym e) (Contains-head y (take j (xs ++ s ∷ [])))
      | inr i ↦ Contains-tail x (take j (xs ++ s ∷ [])) y (within j xs i)
    ]

in_pending : (g : Option ℕ) (xs : List BlockState) (y : BlockState) → Contains (first_states g xs) y → Contains xs y
in_pending None xs y h = absurd (Contains-none y h)
in_pending (Some j) xs y h = Contains-take j xs y h

-- the numbers of pending states are below one, and those of their afters below their own
pub record AreBelow (lives : Lives) (next : ℕ) : Type 0 where
  pub entries : (c : ℕ) (m : Life) (t : BlockState) → life_at lives c ≡ Some m → Contains m.pending t → t.entry < next
  pub afters : (c : ℕ) (m : Life) (t : BlockState) (n : ℕ) → life_at lives c ≡ Some m → Contains m.pending t → t.after ≡ Some n → n < t.entry

-- pending numbers are below the next
pub below_next : (T : Types) (state : StoreState) → IsConsistent T state → AreBelow state.lives state.next
below_next T state h = record {
  entries = λ c m t e i. h.numbers c m t e (Contains-append_right (option_to_list m.durable) m.pending t i);
  afters = λ c m t n e i a. h.waits.after c m t n e i a;
}

pub ordered_accept : (lives : Lives) (b : ℕ) (s : BlockState) → AreBelow lives s.entry → ((c : ℕ) (m : Life) (j : ℕ) → life_at lives c ≡ Some m → m.begun ≡ Some j → j ≤ length m.pending) →
    AreOrdered lives → AreOrdered (accept b s lives)
ordered_accept lives b s below few o = record {
  pending_once = λ c d l m x y e f i j same.
      let p = each_back (accepted b s) lives c l e in
      let q = each_back (accepted b s) lives d m f in
      elim (in_more (eqb c b) s p.0.pending x (subst (λ (z : Life). Contains z.pending x) p.2 i)) [
        | inl u ↦ elim (in_more (eqb d b) s q.0.pending y (subst (λ (z : Life). Contains z.pending y) q.2 j)) [
          | inl v ↦ o.pending_once c d p.0 q.0 x y p.1 q.1 u v same
          | inr v ↦ let lt = below.entries c p.0 x p.1 u in let e2 : s.entry ≡ y.entry = ap (λ (z : BlockState). z.entry) v.1 in absurd (omega arith)
        ]
        | inr u ↦ elim (in_more (eqb d b) s q.0.pending y (subst (λ (z : Life). Contains z.pending y) q.2 j)) [
          | inl v ↦ let lt = below.entries d q.0 y q.1 v in let e2 : s.entry ≡ x.entry = ap (λ (z : BlockState). z.entry) u.1 in absurd (omega arith)
          | inr v ↦ (eqb-true c b u.0 ∙ sym (eqb-true d b v.0), sym u.1 ∙ v.1)
        ]
      ];
  begun_together = λ c l x n d m y e i a f j at.
      let p = each_back (accepted b s) lives c l e in
      let q = each_back (accepted b s) lives d m f in
      let u = carried_more (eqb c b) s p.0.begun p.0.pending x (λ k g. few c p.0 k p.1 g) (subst (λ (z : Life). Contains (carried z) x) p.2 i) in
      elim (in_more (eqb d b) s q.0.pending y (subst (λ (z : Life). Contains z.pending y) q.2 j)) [
        | inl v ↦
            let r = o.begun_together c p.0 x n d q.0 y p.1 u a q.1 v at in
            (r.0, subst (λ (z : Life). Contains (carried z) y) (sym p.2) (carried_still (eqb c b) s p.0.begun p.0.pending y r.1))
        | inr v ↦
            let up = in_pending p.0.begun p.0.pending x u in
            let lt = below.afters c p.0 x n p.1 up a in
            let lt2 = below.entries c p.0 x p.1 up in
            let e2 : s.entry ≡ y.entry = ap (λ (z : BlockState). z.entry) v.1 in
            absurd (omega arith)
      ];
}

-- A life that begins with one state

pub ordered_start : (lives : Lives) (b : ℕ) (start : Life) (s : BlockState) → start.pending ≡ s ∷ [] → start.begun ≡ None → AreBelow lives s.entry →
    ((c : ℕ) (m : Life) → life_at (slice_set lives b (Some start)) c ≡ Some m → ((c ≡ b) × (start ≡ m)) ⊎ (life_at lives c ≡ Some m)) → AreOrdered lives → AreOrdered (slice_set lives b (Some start))
ordered_start lives b start s one idle below back o = record {
  pending_once = λ c d l m x y e f i j same. elim (back c l e) [
    | inl p ↦ elim (back d m f) [
      | inl q ↦ (p.0 ∙ sym q.0, sym (only l x p.1 i) ∙ only m y q.1 j)
      | inr q ↦ let lt = below.entries d m y q j in let e2 : s.entry ≡ x.entry = ap (λ (z : BlockState). z.entry) (only l x p.1 i) in absurd (omega arith)
    ]
    | inr p ↦ elim (back d m f) [
      | inl q ↦ let lt = below.entries c l x p i in let e2 : s.entry ≡ y.entry = ap (λ (z : BlockState). z.entry) (only m y q.1 j) in absurd (omega arith)
      | inr q ↦ o.pending_once c d l m x y p q i j same
    ]
  ];
  begun_together = λ c l x n d m y e i a f j at. elim (back c l e) [
    | inl p ↦ absurd (Contains-none x (subst (λ g. Contains (first_states g l.pending) x) (ap (λ (z : Life). z.begun) (sym p.1) ∙ idle) i))
    | inr p ↦ elim (back d m f) [
      | inl q ↦
          let up = in_pending l.begun l.pending x i in
          let lt = below.afters c l x n p up a in
          let lt2 = below.entries c l x p up in
          let e2 : s.entry ≡ y.entry = ap (λ (z : BlockState). z.entry) (only m y q.1 j) in
          absurd (omega arith)
      | inr q ↦ o.begun_together c l x n d m y p i a q j at
    ]
  ];
}
  where
    only : (m : Life) (t : BlockState) → start ≡ m → Contains m.pending t → s ≡ t
    only m t same i = elim (Contains-cons s [] t (subst (λ xs. Contains xs t) (ap (λ (z : Life). z.pending) (sym same) ∙ one) i)) [ inl e ↦ e | inr none ↦ absurd (Contains-none t none) ]

-- Fewer states

pub ordered_free : (lives : Lives) (blocks : List ℕ) → AreOrdered lives → AreOrdered (free blocks lives)
ordered_free lives blocks o = record {
  pending_once = λ c d l m x y e f i j same. o.pending_once c d l m x y (free_back blocks lives c l e).1 (free_back blocks lives d m f).1 i j same;
  begun_together = λ c l x n d m y e i a f j at. o.begun_together c l x n d m y (free_back blocks lives c l e).1 i a (free_back blocks lives d m f).1 j at;
}

-- no state is pending
pub ordered_empty : (lives : Lives) → ((c : ℕ) (m : Life) (t : BlockState) → life_at lives c ≡ Some m → Contains m.pending t → ⊥) → AreOrdered lives
ordered_empty lives none = record {
  pending_once = λ c d l m x y e f i j same. absurd (none c l x e i);
  begun_together = λ c l x n d m y e i a f j at. absurd (none d m y f j);
}

-- only the bytes are known of a durable state
pub ordered_bare : (lives : Lives) (b : ℕ) → AreOrdered lives → AreOrdered (each (bared b) lives)
ordered_bare lives b o = record {
  pending_once = λ c d l m x y e f i j same.
      let p = each_back (bared b) lives c l e in
      let q = each_back (bared b) lives d m f in
      o.pending_once c d p.0 q.0 x y p.1 q.1 (subst (λ (z : Life). Contains z.pending x) p.2 i) (subst (λ (z : Life). Contains z.pending y) q.2 j) same;
  begun_together = λ c l x n d m y e i a f j at.
      let p = each_back (bared b) lives c l e in
      let q = each_back (bared b) lives d m f in
      let r = o.begun_together c p.0 x n d q.0 y p.1 (subst (λ (z : Life). Contains (carried z) x) p.2 i) a q.1 (subst (λ (z : Life). Contains z.pending y) q.2 j) at in
      (r.0, subst (λ (z : Life). Contains (carried z) y) (sym p.2) r.1);
}

-- a state that is still pending at the block of a finished write is carried by no other
pub ordered_settle : (lives : Lives) (b k : ℕ) → AreOrdered lives → AreOrdered (each (settled b k) lives)
ordered_settle lives b k o = record {
  pending_once = λ c d l m x y e f i j same.
      let p = each_back (settled b k) lives c l e in
      let q = each_back (settled b k) lives d m f in
      o.pending_once c d p.0 q.0 x y p.1 q.1 (less (eqb c b) p.0.pending x (subst (λ (z : Life). Contains z.pending x) p.2 i)) (less (eqb d b) q.0.pending y (subst (λ (z : Life). Contains z.pending y) q.2 j)) same;
  begun_together = λ c l x n d m y e i a f j at.
      let p = each_back (settled b k) lives c l e in
      let q = each_back (settled b k) lives d m f in
      let u = carries (eqb c b) p.0 x (subst (λ (z : Life). Contains (carried z) x) p.2 i) in
      let r = o.begun_together c p.0 x n d q.0 y p.1 u.1 a q.1 (less (eqb d b) q.0.pending y (subst (λ (z : Life). Contains z.pending y) q.2 j)) at in
      (r.0, subst (λ (z : Life). Contains (carried z) y) (sym p.2) (carries_on (eqb c b) p.0 y u.0 r.1));
}
  where
    less : (t : Bool) (xs : List BlockState) (y : BlockState) → Contains (cond t (drop k xs) xs) y → Contains xs y
    less true xs y h = Contains-drop k xs y h
    less false xs y h = h

    carries : (t : Bool) (l : Life) (y : BlockState) → Contains (carried (settled_if t k l)) y → (t ≡ false) × Contains (carried l) y
    carries true l y h = absurd (Contains-none y h)
    carries false l y h = (refl, h)

    carries_on : (t : Bool) (l : Life) (y : BlockState) → t ≡ false → Contains (carried l) y → Contains (carried (settled_if t k l)) y
    carries_on true l y e h = absurd (false≢true (sym e))
    carries_on false l y e h = h

-- A write that begins with a safe prefix

pending_from : (lives : Lives) (c : ℕ) (m : Life) (t : BlockState) (n : ℕ) → life_at lives c ≡ Some m → Contains m.pending t → t.entry ≡ n → is_pending lives n ≡ true
pending_from [] c m t n e i at = absurd (none-some m e)
pending_from (o ∷ os) c m t n e i at = any_from (alive_and (λ l. has_entry l.pending n)) (o ∷ os) (Some m) (place (o ∷ os) c e) (any_from (λ s. eqb s.entry n) m.pending t i (eq-eqb t.entry n at))
  where
    place : (xs : Lives) (c : ℕ) → life_at xs c ≡ Some m → Contains xs (Some m)
    place [] c e = absurd (none-some m e)
    place (x ∷ xs) zero e = subst (λ z. Contains (z ∷ xs) (Some m)) (sym e) (Contains-head (Some m) xs)
    place (x ∷ xs) (suc c) e = Contains-tail x xs (Some m) (place xs c e)

-- a state with a number, among the earlier ones or in the prefix
abbrev IsEarlier : List BlockState → List BlockState → ℕ → Type 0
IsEarlier earlier xs n = (t : BlockState) × (t.entry ≡ n) × (Contains earlier t ⊎ Contains xs t)

prefix_after : (lives : Lives) (t : ℕ) (earlier xs : List BlockState) (s : BlockState) (n : ℕ) → Contains (take (safe_count lives t earlier xs) xs) s → s.after ≡ Some n → is_pending lives n ≡ true →
    IsEarlier earlier (take (safe_count lives t earlier xs) xs) n
prefix_after lives t earlier [] s n i a p = absurd (Contains-none s i)
prefix_after lives t earlier (x ∷ xs) s n i a p = go (safe lives t earlier x) refl (λ k. prefix_after lives t (earlier ++ x ∷ []) xs s n k a p) i
  where
    from_test : (y : Option ℕ) → y ≡ Some n → is_after_met lives earlier y ≡ true → (t : BlockState) × (t.entry ≡ n) × Contains earlier t
    from_test None e h = absurd (none-some n e)
    from_test (Some z) e h =
        let same : z ≡ n = same_Some z n e in
        elim (or_cases (not (is_pending lives z)) (has_entry earlier z) h) [
          | inl np ↦ absurd (false≢true (sym (ap not p) ∙ (ap (λ q. not (is_pending lives q)) (sym same) ∙ np)))
          | inr has ↦ let r = any_at (λ s. eqb s.entry z) earlier has in (r.0, eqb-true r.0.entry z r.2 ∙ same, r.1)
        ]

    go : (b : Bool) → safe lives t earlier x ≡ b → (Contains (take (safe_count lives t (earlier ++ x ∷ []) xs) xs) s → IsEarlier (earlier ++ x ∷ []) (take (safe_count lives t (earlier ++ x ∷ []) xs) xs) n) →
        Contains (take (cond b (suc (safe_count lives t (earlier ++ x ∷ []) xs)) 0) (x ∷ xs)) s → IsEarlier earlier (take (cond b (suc (safe_count lives t (earlier ++ x ∷ []) xs)) 0) (x ∷ xs)) n
    go false e deeper i = absurd (Contains-none s i)
    go true e deeper i = elim (Contains-cons x (take (safe_count lives t (earlier ++ x ∷ []) xs) xs) s i) [
      | inl same ↦
          let parts = and_parts _ _ (and_parts _ _ e).1 in
          let r = from_test x.after (ap (λ (z : BlockState). z.after) same ∙ a) parts.1 in (r.0, r.1, inl r.2)
      | inr k ↦
          let r = deeper k in (
            r.0,
            r.1,
            elim r.2 [
              | inl b ↦ elim (Contains-append_cases earlier (x ∷ []) r.0 b) [
                | inl c ↦ inl c
                | inr d ↦ elim (Contains-cons x [] r.0 d) [ inl f ↦ inr (subst (λ z. Contains (x ∷ take (safe_count lives t (earlier ++ x ∷ []) xs) xs) z) f (Contains-head x _)) | inr g ↦ absurd (Contains-none r.0 g) ]
              ]
              | inr b ↦ inr (Contains-tail x _ r.0 b)
            ],
          )
    ]

-- what the states that a write of block b may carry come after, it carries too
abbrev pub CarriesAfters : Lives → ℕ → Life → Option ℕ → Type 0
CarriesAfters lives b l k = (s : BlockState) (n c : ℕ) (m : Life) (t : BlockState) → Contains (first_states k l.pending) s → s.after ≡ Some n →
    life_at lives c ≡ Some m → Contains m.pending t → t.entry ≡ n → (c ≡ b) × Contains (first_states k l.pending) t

pub prefix_carries : (lives : Lives) (b : ℕ) (l : Life) → AreOrdered lives → life_at lives b ≡ Some l → CarriesAfters lives b l (Some (safe_count lives l.ty [] l.pending))
prefix_carries lives b l o alive s n c m t i a f j at =
    let r = prefix_after lives l.ty [] l.pending s n i a (pending_from lives c m t n f j at) in
    elim r.2 [
      | inl none ↦ absurd (Contains-none r.0 none)
      | inr there ↦
          let u = o.pending_once c b m l t r.0 f alive j (Contains-take (safe_count lives l.ty [] l.pending) l.pending r.0 there) (at ∙ sym r.1) in
          (u.0, subst (λ y. Contains (take (safe_count lives l.ty [] l.pending) l.pending) y) (sym u.1) there)
    ]

pub ordered_begun : (lives : Lives) (b : ℕ) (l : Life) (k : Option ℕ) → life_at lives b ≡ Some l → CarriesAfters lives b l k → AreOrdered lives → AreOrdered (each (with_begun b k) lives)
ordered_begun lives b l k alive may o = record {
  pending_once = λ c d x m s t e f i j same.
      let p = each_back (with_begun b k) lives c x e in
      let q = each_back (with_begun b k) lives d m f in
      o.pending_once c d p.0 q.0 s t p.1 q.1 (subst (λ (z : Life). Contains z.pending s) p.2 i) (subst (λ (z : Life). Contains z.pending t) q.2 j) same;
  begun_together = λ c x s n d m t e i a f j at.
      let p = each_back (with_begun b k) lives c x e in
      let q = each_back (with_begun b k) lives d m f in
      let r = go c p.0 p.1 (eqb c b) refl s n d q.0 t (subst (λ (z : Life). Contains (carried z) s) p.2 i) a q.1 (subst (λ (z : Life). Contains z.pending t) q.2 j) at in
      (r.0, subst (λ (z : Life). Contains (carried z) t) (sym p.2) r.1);
}
  where
    go : (c : ℕ) (x : Life) → life_at lives c ≡ Some x → (z : Bool) → eqb c b ≡ z → (s : BlockState) (n d : ℕ) (m : Life) (t : BlockState) → Contains (first_states (cond z k x.begun) x.pending) s → s.after ≡ Some n →
        life_at lives d ≡ Some m → Contains m.pending t → t.entry ≡ n → (d ≡ c) × Contains (first_states (cond z k x.begun) x.pending) t
    go c x e true is s n d m t i a f j at =
        let block = eqb-true c b is in
        let same : l ≡ x = same_Some l x (sym alive ∙ (ap (life_at lives) (sym block) ∙ e)) in
        let r = may s n d m t (subst (λ (z : Life). Contains (first_states k z.pending) s) (sym same) i) a f j at in
        (r.0 ∙ sym block, subst (λ (z : Life). Contains (first_states k z.pending) t) same r.1)
    go c x e false is s n d m t i a f j at = o.begun_together c x s n d m t e i a f j at
