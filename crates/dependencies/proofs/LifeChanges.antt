-- The candidates, where lives change.
use Rattle.std.proofs.Common.{◌≡◌, ℕ, zero, suc, ◌-◌, ◌<◌, ◌⊎◌, Bool, true, false, cond, List, [], ◌∷◌, ◌++◌, length, drop, map, replicate, Option, Some, None, refl, sym, ◌∙◌, ap, arith, inl, inr, subst, slice_get, length-drop}
use Rattle.std.specs.Prelude.{◌&&◌, ◌||◌, ◌==◌, Contains, not, is_none, is_some, nat_lt, option_map, slice_index_or, slice_set, unwrap_or}
use Rattle.std.proofs.lemmas.Bool.{false≢true, cases_eq, eqb-true, lt-ltb}
use Rattle.std.proofs.lemmas.List.{length-map, length-set}
use Rattle.std.proofs.lemmas.Option.{slice_get_within}
use Rattle.xn_model.specs.Root.{has_type, pointer}
use Rattle.xn_model.specs.Lives.{BlockState, Life, Lives, accepted_at, begun_at, change_at, dropped_after, durable_bytes, freed, has_entry, life_at, no_states, owned_after, settle, settled_at, with_state, with_status}
use Rattle.store_types.specs.declared.status.Status.TheVariants.{Dropped, Owned}
use Rattle.xn_model.specs.Calls.{life_pending, new_life}
use Rattle.xn_model.proofs.ForCallers.{Contains-head, Contains-tail, accepted, accepted_is, change_same, each_at, place_from, set_other}
use Rattle.block_cache.specs.Claims.{ClaimValue}
use Rattle.block_cache.proofs.ForCallers.{pointer_none}
use Rattle.dependencies.specs.WaitLists.{at}
use Rattle.dependencies.specs.Candidates.{AreCandidates, CandidatesValue, IsAccounted, Wakes, is_candidate, is_idle_with_entries, with_candidate}
use Rattle.dependencies.specs.Pending.{is_dirty, pends}
use Rattle.dependencies.specs.Waiting.{Misses, first_of, has_state, is_newest_written}
use Rattle.dependencies.proofs.Accounts.{set_here, set_there}
use Rattle.dependencies.proofs.Dirty.{clean_at, pends_not}

-- One block

-- what a block misses, by the life of the other
misses_if : (claim : ClaimValue) (c : ℕ) (o p : Option Life) → (has_state o ≡ false → has_state p ≡ false) → (is_newest_written o ≡ false → is_newest_written p ≡ false) →
    ((n : ℕ) → pends n o ≡ true → pends n p ≡ true) → ((u : ℕ) → has_type (durable_bytes o) u ≡ false → has_type (durable_bytes p) u ≡ false) → Misses claim c o → Misses claim c p
misses_if claim c o p states written pending types (inl added) = inl (added.0, added.1, states added.2)
misses_if claim c o p states written pending types (inr (inl lacks)) = inr (inl (lacks.0, (lacks.1.0, lacks.1.1, lacks.1.2, types lacks.1.1 lacks.1.3)))
misses_if claim c o p states written pending types (inr (inr (inl dropped))) = inr (inr (inl (dropped.0, written dropped.1)))
misses_if claim c o p states written pending types (inr (inr (inr after))) = inr (inr (inr (after.0, after.1, pending after.0 after.2)))

-- no bytes have a type that others lack
no_type : (m : List ℕ) (u : ℕ) → has_type m u ≡ false → has_type [] u ≡ false
no_type m u lacks = by (nat_lt u 3) (nat_lt u 19) lacks
  where
    by : (low high : Bool) → (low || (high && not (pointer m (u - 3) == 0))) ≡ false → (low || (high && not (pointer [] (u - 3) == 0))) ≡ false
    by true high e = e
    by false true e = ap (λ n. not (n == 0)) (pointer_none (u - 3))
    by false false e = refl

-- a life with nothing pending ends
misses_gone : (claim : ClaimValue) (c : ℕ) (o : Option Life) → life_pending o ≡ 0 → Misses claim c o → Misses claim c None
misses_gone claim c o none = misses_if claim c o None (λ e. refl) (λ e. refl) (λ n e. absurd (false≢true (sym (pends_not n o none) ∙ e))) (no_type (durable_bytes o))

-- a block is accounted for that is as it was
still : (lives new : Lives) (q r : CandidatesValue) (b : ℕ) → (is_idle_with_entries (life_at lives b) ≡ false → is_idle_with_entries (life_at new b) ≡ false) →
    ((claim : ClaimValue) → first_of (life_at lives b) ≡ Some claim → first_of (life_at new b) ≡ Some claim) →
    ((c : ℕ) (claim : ClaimValue) → Misses claim c (life_at lives c) → Misses claim c (life_at new c)) →
    is_candidate r b ≡ is_candidate q b → at r.waits b ≡ at q.waits b → IsAccounted lives q b → IsAccounted new r b
still lives new q r b idle first missed same waits was = elim was [
  | inl here ↦ inl (same ∙ here)
  | inr rest ↦ inr (elim rest [
    | inl none ↦ inl (idle none)
    | inr w ↦ inr (w.0, waits ∙ w.1, record { claim = w.2.claim; first = first w.2.claim w.2.first; misses = missed w.0 w.2.claim w.2.misses })
  ])
]

some_within : (lives : Lives) (b : ℕ) → is_some (life_at lives b) ≡ true → b < length lives
some_within lives b e = by (life_at lives b) refl e
  where
    by : (o : Option Life) → life_at lives b ≡ o → is_some o ≡ true → b < length lives
    by None here e = absurd (false≢true e)
    by (Some l) here e = slice_get_within lives b (Some l) (place_from lives b l here)

-- A write begins

abbrev pub begun_with : ℕ → Life → Life
begun_with k l = record l { begun = Some k }

begun_idle : (k : ℕ) (o : Option Life) → is_idle_with_entries (option_map (begun_with k) o) ≡ false
begun_idle k None = refl
begun_idle k (Some l) = refl

misses_begun : (k : ℕ) (claim : ClaimValue) (c : ℕ) (o : Option Life) → Misses claim c o → Misses claim c (option_map (begun_with k) o)
misses_begun k claim c None m = m
misses_begun k claim c (Some l) m = m

pub begun_accounts : (lives : Lives) (q : CandidatesValue) (b k : ℕ) → AreCandidates lives q → AreCandidates (begun_at lives b k) (with_candidate q b false)
begun_accounts lives q b k are = record {
  long = length-set q.blocks b false ∙ (are.long ∙ sym (length-set lives b (option_map (begun_with k) (life_at lives b))));
  each = λ x. elim (cases_eq x b) [
    | inl same ↦ inr (inl (ap (λ y. is_idle_with_entries (life_at (begun_at lives b k) y)) same ∙ (ap is_idle_with_entries (change_same lives b (begun_with k)) ∙ begun_idle k (life_at lives b))))
    | inr apart ↦
        let here = set_other lives b x (option_map (begun_with k) (life_at lives b)) apart in
        still lives (begun_at lives b k) q (with_candidate q b false) x (λ e. ap is_idle_with_entries here ∙ e) (λ claim e. ap first_of here ∙ e) missed (set_there q.blocks b x false apart) refl (are.each x)
  ];
}
  where
    missed : (c : ℕ) (claim : ClaimValue) → Misses claim c (life_at lives c) → Misses claim c (life_at (begun_at lives b k) c)
    missed c claim m = elim (cases_eq c b) [
      | inl same ↦ subst (λ (o : Option Life). Misses claim c o) (sym (ap (life_at (begun_at lives b k)) same ∙ (change_same lives b (begun_with k) ∙ ap (λ y. option_map (begun_with k) (life_at lives y)) (sym same))))
          (misses_begun k claim c (life_at lives c) m)
      | inr apart ↦ subst (λ (o : Option Life). Misses claim c o) (sym (set_other lives b c (option_map (begun_with k) (life_at lives b)) apart)) m
    ]

-- Blocks that wait for one are woken, as its life changes; each other life is as it was, or it ends with nothing pending

abbrev IsSameOrEnds : Lives → Lives → ℕ → Type 0
IsSameOrEnds lives new x = (life_at new x ≡ life_at lives x) ⊎ ((life_at new x ≡ None) × (life_pending (life_at lives x) ≡ 0))

woken_accounts : (lives new : Lives) (q r : CandidatesValue) (b : ℕ) (t : Bool) → AreCandidates lives q → Wakes q r b → length new ≡ length lives →
    IsAccounted new (with_candidate r b t) b → ((x : ℕ) → (x ≡ b → ⊥) → IsSameOrEnds lives new x) → AreCandidates new (with_candidate r b t)
woken_accounts lives new q r b t are wakes long here others = record {
  long = length-set r.blocks b t ∙ (wakes.long ∙ (are.long ∙ sym long));
  each = λ x. elim (cases_eq x b) [
    | inl same ↦ subst (IsAccounted new (with_candidate r b t)) (sym same) here
    | inr apart ↦ elim (others x apart) [
      | inl life ↦ accounted x apart life
      | inr ends ↦ inr (inl (ap is_idle_with_entries ends.0))
    ]
  ];
}
  where
    missed : (c : ℕ) (claim : ClaimValue) → (c ≡ b → ⊥) → Misses claim c (life_at lives c) → Misses claim c (life_at new c)
    missed c claim apart m = elim (others c apart) [
      | inl life ↦ subst (λ (o : Option Life). Misses claim c o) (sym life) m
      | inr ends ↦ subst (λ (o : Option Life). Misses claim c o) (sym ends.0) (misses_gone claim c (life_at lives c) ends.1 m)
    ]

    accounted : (x : ℕ) → (x ≡ b → ⊥) → life_at new x ≡ life_at lives x → IsAccounted new (with_candidate r b t) x
    accounted x apart life = elim (wakes.each x) [
      | inl candidate ↦ inl (set_there r.blocks b x t apart ∙ candidate)
      | inr as_was ↦ elim (are.each x) [
        | inl candidate ↦ inl (set_there r.blocks b x t apart ∙ (as_was.0 ∙ candidate))
        | inr rest ↦ inr (elim rest [
          | inl idle ↦ inl (ap is_idle_with_entries life ∙ idle)
          | inr w ↦
              let other : w.0 ≡ b → ⊥ = λ e. as_was.2 (as_was.1 ∙ (w.1 ∙ ap (λ c. Some c) e)) in
              inr (w.0, as_was.1 ∙ w.1, record { claim = w.2.claim; first = ap first_of life ∙ w.2.first; misses = missed w.0 w.2.claim other w.2.misses })
        ])
      ]
    ]

-- A write ends

pub length_freed : (lives : Lives) (drops : List ℕ) → length (freed lives drops) ≡ length lives
length_freed lives [] = refl
length_freed lives (d ∷ ds) = length_freed (slice_set lives d None) ds ∙ length-set lives d None

pub emptied : (lives : Lives) (b : ℕ) → life_at (slice_set lives b None) b ≡ None
emptied [] b = refl
emptied (o ∷ os) zero = refl
emptied (o ∷ os) (suc b) = emptied os b

pub freed_at : (lives : Lives) (drops : List ℕ) (c : ℕ) → (life_at (freed lives drops) c ≡ life_at lives c) ⊎ ((life_at (freed lives drops) c ≡ None) × Contains drops c)
freed_at lives [] c = inl refl
freed_at lives (d ∷ ds) c = elim (freed_at (slice_set lives d None) ds c) [
  | inr gone ↦ inr (gone.0, Contains-tail d ds c gone.1)
  | inl life ↦ elim (cases_eq c d) [
    | inl same ↦ inr (life ∙ (ap (life_at (slice_set lives d None)) same ∙ emptied lives d), subst (λ (x : ℕ). Contains (x ∷ ds) c) same (Contains-head c ds))
    | inr apart ↦ inl (life ∙ set_other lives d c None apart)
  ]
]

nothing_left : (k : ℕ) (o : Option Life) → nat_lt 0 (life_pending o - k) ≡ false → is_idle_with_entries (option_map (settle k) o) ≡ false
nothing_left k None e = refl
nothing_left k (Some l) e = by (drop k l.pending) (ap (nat_lt 0) (length-drop k l.pending) ∙ e)
  where
    by : (ps : List BlockState) → nat_lt 0 (length ps) ≡ false → not (no_states ps) ≡ false
    by [] e = refl
    by (p ∷ ps) e = absurd (false≢true (sym e ∙ lt-ltb 0 (length (p ∷ ps)) (omega arith)))

some_left : (k : ℕ) (o : Option Life) → nat_lt 0 (life_pending o - k) ≡ true → is_some o ≡ true
some_left k None e = let none : 0 - k ≡ 0 = omega arith in absurd (false≢true (sym (ap (nat_lt 0) none) ∙ e))
some_left k (Some l) e = refl

pub settled_accounts : (lives : Lives) (q r : CandidatesValue) (b k : ℕ) (drops : List ℕ) → AreCandidates lives q → Wakes q r b → ((c : ℕ) → Contains drops c → life_pending (life_at lives c) ≡ 0) →
    AreCandidates (freed (settled_at lives b k) drops) (with_candidate r b (nat_lt 0 (life_pending (life_at lives b) - k)))
settled_accounts lives q r b k drops are wakes at_rest = woken_accounts lives new q r b left are wakes long (here left refl) others
  where
    settled' : Lives
    settled' = settled_at lives b k

    new : Lives
    new = freed settled' drops

    left : Bool
    left = nat_lt 0 (life_pending (life_at lives b) - k)

    long : length new ≡ length lives
    long = length_freed settled' drops ∙ length-set lives b (option_map (settle k) (life_at lives b))

    here : (t : Bool) → left ≡ t → IsAccounted new (with_candidate r b t) b
    here true e = inl (set_here r.blocks b true (omega (arith, some_within lives b (some_left k (life_at lives b) e), wakes.long, are.long)))
    here false e = elim (freed_at settled' drops b) [
      | inl life ↦ inr (inl (ap is_idle_with_entries (life ∙ change_same lives b (settle k)) ∙ nothing_left k (life_at lives b) e))
      | inr gone ↦ inr (inl (ap is_idle_with_entries gone.0))
    ]

    others : (x : ℕ) → (x ≡ b → ⊥) → IsSameOrEnds lives new x
    others x apart = elim (freed_at settled' drops x) [
      | inl life ↦ inl (life ∙ set_other lives b x (option_map (settle k) (life_at lives b)) apart)
      | inr gone ↦ inr (gone.0, at_rest x gone.1)
    ]

-- A life ends

pub forgotten_accounts : (lives : Lives) (q r : CandidatesValue) (b : ℕ) → AreCandidates lives q → Wakes q r b → AreCandidates (slice_set lives b None) (with_candidate r b false)
forgotten_accounts lives q r b are wakes = woken_accounts lives (slice_set lives b None) q r b false are wakes (length-set lives b None)
    (inr (inl (ap is_idle_with_entries (emptied lives b)))) (λ x apart. inl (set_other lives b x None apart))

-- A life starts

pub started_accounts : (lives : Lives) (q : CandidatesValue) (b n : ℕ) (f : Option ℕ) (ty : ℕ) (bytes : List ℕ) → AreCandidates lives q → slice_get lives b ≡ Some None →
    AreCandidates (slice_set lives b (Some (new_life n f ty bytes))) (with_candidate q b true)
started_accounts lives q b n f ty bytes are free = record {
  long = length-set q.blocks b true ∙ (are.long ∙ sym (length-set lives b (Some life)));
  each = λ x. elim (cases_eq x b) [
    | inl same ↦ subst (IsAccounted new (with_candidate q b true)) (sym same) (inl (set_here q.blocks b true (omega (arith, slice_get_within lives b None free, are.long))))
    | inr apart ↦
        let here = set_other lives b x (Some life) apart in
        still lives new q (with_candidate q b true) x (λ e. ap is_idle_with_entries here ∙ e) (λ claim e. ap first_of here ∙ e) missed (set_there q.blocks b x true apart) refl (are.each x)
  ];
}
  where
    life : Life
    life = new_life n f ty bytes

    new : Lives
    new = slice_set lives b (Some life)

    none : life_at lives b ≡ None
    none = ap (λ o. unwrap_or o None) free

    fresh : (c : ℕ) (claim : ClaimValue) (o : Option Life) → has_state o ≡ false → is_newest_written o ≡ false → ((u : ℕ) → has_type (durable_bytes o) u ≡ has_type [] u) → Misses claim c None → Misses claim c o
    fresh c claim o states written types = misses_if claim c None o (λ e. states) (λ e. written) (λ m e. absurd (false≢true e)) (λ u e. types u ∙ e)

    at_new : life_at new b ≡ Some life
    at_new = by lives b free
      where
        by : (ls : Lives) (c : ℕ) → slice_get ls c ≡ Some None → life_at (slice_set ls c (Some life)) c ≡ Some life
        by [] c e = absurd cc
        by (o ∷ os) zero e = refl
        by (o ∷ os) (suc c) e = by os c e

    missed : (c : ℕ) (claim : ClaimValue) → Misses claim c (life_at lives c) → Misses claim c (life_at new c)
    missed c claim m = elim (cases_eq c b) [
      | inl same ↦
          let now : life_at new c ≡ Some life = ap (life_at new) same ∙ at_new in
          let was : life_at lives c ≡ None = ap (life_at lives) same ∙ none in
          fresh c claim (life_at new c) (ap has_state now) (ap is_newest_written now) (λ u. ap (λ (o : Option Life). has_type (durable_bytes o) u) now) (subst (λ (o : Option Life). Misses claim c o) was m)
      | inr apart ↦ subst (λ (o : Option Life). Misses claim c o) (sym (set_other lives b c (Some life) apart)) m
    ]

-- One more entry

length_owned : (b : ℕ) (lives : Lives) (adds : List (ℕ × ℕ)) → length (owned_after b lives adds) ≡ length lives
length_owned b lives [] = refl
length_owned b lives (p ∷ ps) = length_owned b (change_at lives p.0 (with_status (Owned b))) ps ∙ length-set lives p.0 (option_map (with_status (Owned b)) (life_at lives p.0))

length_dropped : (b : ℕ) (lives : Lives) (drops : List ℕ) → length (dropped_after b lives drops) ≡ length lives
length_dropped b lives [] = refl
length_dropped b lives (c ∷ cs) = length_dropped b (change_at lives c (with_status (Dropped b))) cs ∙ length-set lives c (option_map (with_status (Dropped b)) (life_at lives c))

length_accepted : (lives : Lives) (b : ℕ) (s : BlockState) → length (accepted_at lives b s) ≡ length lives
length_accepted lives b s =
    let pushed = change_at lives b (with_state s) in
    length_owned b (dropped_after b pushed s.drops) s.adds ∙ (length_dropped b pushed s.drops ∙ length-set lives b (option_map (with_state s) (life_at lives b)))

or_still : (t a b : Bool) → (a ≡ true → b ≡ true) → (t || a) ≡ true → (t || b) ≡ true
or_still true a b more e = refl
or_still false a b more e = more e

and_none : (t : Bool) → (t && false) ≡ false
and_none true = refl
and_none false = refl

has_still : (ps : List BlockState) (s : BlockState) (n : ℕ) → has_entry ps n ≡ true → has_entry (ps ++ s ∷ []) n ≡ true
has_still [] s n e = absurd (false≢true e)
has_still (p ∷ ps) s n e = or_still (p.entry == n) (has_entry ps n) (has_entry (ps ++ s ∷ []) n) (has_still ps s n) e

not_empty : (ps : List BlockState) (s : BlockState) → no_states (ps ++ s ∷ []) ≡ false
not_empty [] s = refl
not_empty (p ∷ ps) s = refl

misses_accepted : (b : ℕ) (s : BlockState) (claim : ClaimValue) (c : ℕ) (o : Option Life) → Misses claim c o → Misses claim c (option_map (accepted b s c) o)
misses_accepted b s claim c None m = m
misses_accepted b s claim c (Some l) m = misses_if claim c (Some l) (Some (accepted b s c l)) (λ e. e) (written (c == b)) (pending (c == b)) (λ u e. e) m
  where
    written : (t : Bool) → (is_some l.durable && no_states l.pending) ≡ false → (is_some l.durable && no_states (cond t (l.pending ++ s ∷ []) l.pending)) ≡ false
    written true e = ap (λ t. is_some l.durable && t) (not_empty l.pending s) ∙ and_none (is_some l.durable)
    written false e = e

    pending : (t : Bool) (n : ℕ) → has_entry l.pending n ≡ true → has_entry (cond t (l.pending ++ s ∷ []) l.pending) n ≡ true
    pending true n e = has_still l.pending s n e
    pending false n e = e

idle_accepted : (b x : ℕ) (s : BlockState) (o : Option Life) → ((x == b) ≡ true → (life_pending o == 0) ≡ false) → is_idle_with_entries o ≡ false → is_idle_with_entries (option_map (accepted b s x) o) ≡ false
idle_accepted b x s None some e = refl
idle_accepted b x s (Some l) some e = by (x == b) l.pending some e
  where
    by : (t : Bool) (ps : List BlockState) → (t ≡ true → (length ps == 0) ≡ false) → (is_none l.begun && not (no_states ps)) ≡ false → (is_none l.begun && not (no_states (cond t (ps ++ s ∷ []) ps))) ≡ false
    by false ps some e = e
    by true [] some e = absurd (false≢true (sym (some refl)))
    by true (p ∷ ps) some e = e

first_accepted : (b x : ℕ) (s : BlockState) (claim : ClaimValue) (o : Option Life) → first_of o ≡ Some claim → first_of (option_map (accepted b s x) o) ≡ Some claim
first_accepted b x s claim None e = e
first_accepted b x s claim (Some l) e = by (x == b) l.pending e
  where
    by : (t : Bool) (ps : List BlockState) → first_of (Some (record l { pending = ps })) ≡ Some claim → first_of (Some (record l { pending = cond t (ps ++ s ∷ []) ps })) ≡ Some claim
    by false ps e = e
    by true [] e = absurd cc
    by true (p ∷ ps) e = e

pub accepted_accounts : (lives : Lives) (q : CandidatesValue) (b : ℕ) (s : BlockState) → AreCandidates lives q → is_some (life_at lives b) ≡ true →
    AreCandidates (accepted_at lives b s) (cond (life_pending (life_at lives b) == 0) (with_candidate q b true) q)
accepted_accounts lives q b s are alive = by (life_pending (life_at lives b) == 0) refl
  where
    new : Lives
    new = accepted_at lives b s

    at_new : (c : ℕ) → life_at new c ≡ option_map (accepted b s c) (life_at lives c)
    at_new c = ap (λ ls. life_at ls c) (accepted_is lives b s) ∙ each_at (accepted b s) lives c

    long : length new ≡ length lives
    long = length_accepted lives b s

    kept : (r : CandidatesValue) (x : ℕ) → ((x == b) ≡ true → (life_pending (life_at lives x) == 0) ≡ false) → is_candidate r x ≡ is_candidate q x → at r.waits x ≡ at q.waits x → IsAccounted new r x
    kept r x some same waits = still lives new q r x (λ e. ap is_idle_with_entries (at_new x) ∙ idle_accepted b x s (life_at lives x) some e)
        (λ claim e. ap first_of (at_new x) ∙ first_accepted b x s claim (life_at lives x) e)
        (λ c claim m. subst (λ (o : Option Life). Misses claim c o) (sym (at_new c)) (misses_accepted b s claim c (life_at lives c) m)) same waits (are.each x)

    by : (t : Bool) → (life_pending (life_at lives b) == 0) ≡ t → AreCandidates new (cond t (with_candidate q b true) q)
    by true none = record {
      long = length-set q.blocks b true ∙ (are.long ∙ sym long);
      each = λ x. elim (cases_eq x b) [
        | inl same ↦ subst (IsAccounted new (with_candidate q b true)) (sym same) (inl (set_here q.blocks b true (omega (arith, some_within lives b alive, are.long))))
        | inr apart ↦ kept (with_candidate q b true) x (λ e. absurd (apart (eqb-true x b e))) (set_there q.blocks b x true apart) refl
      ];
    }
    by false some = record {
      long = are.long ∙ sym long;
      each = λ x. kept q x (λ e. ap (λ y. life_pending (life_at lives y) == 0) (eqb-true x b e) ∙ some) refl refl;
    }

-- Nothing is pending

idle_none : (o : Option Life) → life_pending o ≡ 0 → is_idle_with_entries o ≡ false
idle_none None e = refl
idle_none (Some l) e = by l.pending e
  where
    by : (ps : List BlockState) → length ps ≡ 0 → (is_none l.begun && not (no_states ps)) ≡ false
    by [] e = and_none (is_none l.begun)
    by (p ∷ ps) e = absurd (omega arith)

pub blank_at : (n k : ℕ) → slice_index_or (replicate n false) k false ≡ false
blank_at zero k = refl
blank_at (suc n) zero = refl
blank_at (suc n) (suc k) = blank_at n k

pub clean_accounts : (lives : Lives) (dirty : List Bool) (q : CandidatesValue) (n : ℕ) → dirty ≡ map is_dirty lives → dirty ≡ replicate n false →
    q ≡ record { blocks = replicate n false; waits = replicate n None } → AreCandidates lives q
clean_accounts lives dirty q n e blank same = record {
  long = ap (λ (r : CandidatesValue). length r.blocks) same ∙ (ap (λ (ts : List Bool). length ts) (sym blank ∙ e) ∙ length-map lives is_dirty);
  each = λ b. inr (inl (idle_none (life_at lives b) (clean_at dirty lives b e (ap (λ (ts : List Bool). slice_index_or ts b false) blank ∙ blank_at n b))));
}
