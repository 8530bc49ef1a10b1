-- A life begins on a free block.
use Rattle.std.proofs.Common.{◌≡◌, ℕ, ◌+◌, ◌<◌, ◌≢◌, ◌⊎◌, true, not, ◌||◌, List, [], ◌∷◌, length, get_or, Option, Some, None, refl, sym, ◌∙◌, ap, inl, inr, arith, subst}
use Rattle.std.specs.Prelude.{Contains, IsTrue, ⊤, nat_lt, slice_set, is_none, Ok}
use Rattle.std.proofs.lemmas.Bool.{cases_eq, false≢true, not-false, and_from, or_parts, ltb-false}
use Rattle.std.proofs.lemmas.Option.{same_Some, none-some, unwrap_or-slice_get}
use Rattle.std.proofs.lemmas.List.{length-set}
use Rattle.std.proofs.lemmas.List.Quantifiers.{position-Some}
use Rattle.xn_model.specs.Lists.{blocks_of, distinct}
use Rattle.xn_model.specs.Types.{Types, named_once, within_size}
use Rattle.xn_model.specs.Images.{IsDiskSize}
use Rattle.xn_model.specs.Root.{pointer}
use Rattle.xn_model.specs.Languages.{Language}
use Rattle.xn_model.specs.Lives.{BlockState, Life, Lives, life_at, states, durable_bytes, lowest_free, Owned, Dropped, Fresh, StoreState}
use Rattle.xn_model.specs.Results.{NoSpace, BadType, TooManyPending, Exhausted, SizeWrong, ClaimWrong}
use Rattle.xn_model.specs.Calls.{first_state, init_of, new_life, started, init_at, types_of, life_bytes, owns_nothing, too_many, exhausted}
use Rattle.xn_model.specs.Rules.{At, Keeps, IsBy, WaitsForOlder, IsSoundLife, IsLinkedLife, IsConsistent, HasExactStatuses, AreOrdered, ChainsEnd}
use Rattle.xn_model.proofs.Statuses.{owns_none}
use Rattle.xn_model.proofs.Lists.{Contains-none, Contains-cons}
use Rattle.xn_model.proofs.Languages.{kept_types}
use Rattle.xn_model.proofs.Carry.{Carries, types_still, held_still, kept_still, root_still}
use Rattle.xn_model.proofs.Chains.{alone, chain_of, chain_ends, goes_on}
use Rattle.xn_model.proofs.Tests.{unless_ok, never_ok, same_ok}
use Rattle.xn_model.proofs.Lives.{set_other, set_same}
use Rattle.xn_model.proofs.Reached.{carried_pending}
use Rattle.xn_model.proofs.Orders.{AreBelow, below_next, ordered_start}

-- the lowest free block is free
pub lowest_is : (lives : Lives) (b : ℕ) → lowest_free lives ≡ Some b → (b < length lives) × (life_at lives b ≡ None)
lowest_is lives b e =
    let r = position-Some is_none lives b None e in
    (r.0, unwrap_or-slice_get lives b None ∙ none_of (get_or lives b None) r.1)
  where
    none_of : (o : Option Life) → is_none o ≡ true → o ≡ None
    none_of None f = refl
    none_of (Some l) f = absurd (false≢true f)

module _ (T : Types) (state : StoreState) (h : IsConsistent T state) (b : ℕ) (start : Life) (free' : life_at state.lives b ≡ None) (within : b < length state.lives) where
  now : Lives
  now = slice_set state.lives b (Some start)

  forth : (c : ℕ) (l : Life) → life_at state.lives c ≡ Some l → life_at now c ≡ Some l
  unfolding now
  forth c l e =
      let other : c ≢ b = λ same. none-some l (sym free' ∙ (ap (life_at state.lives) (sym same) ∙ e)) in
      set_other state.lives b c (Some start) other ∙ e

  still : {c : ℕ} {P : Life → Type 0} → At state.lives c P → At now c P
  still {c} r = record { life = r.life; alive = forth c r.life r.alive; holds = r.holds }

  back : (c : ℕ) (m : Life) → life_at now c ≡ Some m → ((c ≡ b) × (start ≡ m)) ⊎ (life_at state.lives c ≡ Some m)
  unfolding now
  back c m e = elim (cases_eq c b) [
    | inl same ↦ inl (same, same_Some start m (sym (ap (λ x. life_at now x) same ∙ set_same state.lives b (Some start) within) ∙ e))
    | inr other ↦ inr (sym (set_other state.lives b c (Some start) other) ∙ e)
  ]

  other_same : (c : ℕ) (l : Life) → life_at state.lives c ≡ Some l → life_at now c ≡ life_at state.lives c
  unfolding now
  other_same c l e = forth c l e ∙ sym e

  root_same : life_at now 0 ≡ life_at state.lives 0
  root_same = let r = h.lives_sound.root in other_same 0 r.life r.alive

  carries_start : Carries T state.lives now
  unfolding now
  carries_start = record {
    count = length-set state.lives b (Some start);
    belongs = λ a c u r. still r;
    system = λ fs c r. still r;
    disk = λ c r. still r;
    template = λ c r. still r;
    dropped = λ a c r. still r;
    resting = λ a c d r. still r;
    types = types_still state.lives now (ap durable_bytes root_same);
  }

  -- a new life waits for nothing, and nothing waits for it
  queued_start : ((s : BlockState) (p : ℕ × ℕ) → Contains start.pending s → Contains s.adds p → ⊥) → ((s : BlockState) (c : ℕ) → Contains start.pending s → Contains s.drops c → ⊥) → ((s : BlockState) (n : ℕ) → Contains start.pending s → s.after ≡ Some n → ⊥) → (IsBy b start.status → ⊥) → WaitsForOlder T now
  queued_start no_adds no_drops no_after no_owner = record {
    adds = λ a l s c u e i m. elim (back a l e) [
      | inl new ↦ absurd (no_adds s (c, u) (subst (λ (x : Life). Contains x.pending s) (sym new.1) i) m)
      | inr old ↦ let x = h.waits.adds a l s c u old i m in (x.0, still x.1)
    ];
    types = λ a l s c u e i m. elim (back a l e) [
      | inl new ↦ absurd (no_adds s (c, u) (subst (λ (x : Life). Contains x.pending s) (sym new.1) i) m)
      | inr old ↦ still (h.waits.types a l s c u old i m)
    ];
    drops = λ a l s c m t e i d f j. elim (back a l e) [
      | inl new ↦ absurd (no_drops s c (subst (λ (x : Life). Contains x.pending s) (sym new.1) i) d)
      | inr old ↦ elim (back c m f) [
        | inl new ↦ let r = (h.linked a l old).dropped s c i d in absurd (none-some r.life (sym free' ∙ (ap (life_at state.lives) (sym new.0) ∙ r.alive)))
        | inr old' ↦ h.waits.drops a l s c m t old i d old' j
      ]
    ];
    after = λ a l s n e i m. elim (back a l e) [
      | inl new ↦ absurd (no_after s n (subst (λ (x : Life). Contains x.pending s) (sym new.1) i) m)
      | inr old ↦ h.waits.after a l s n old i m
    ];
    apart = λ a l e by. elim (back a l e) [
      | inl new ↦ no_owner (subst (λ x. IsBy x start.status) new.0 (subst (λ (x : Life). IsBy a x.status) (sym new.1) by))
      | inr old ↦ h.waits.apart a l old by
    ];
  }

  -- it is nobody's, and nobody's owner
  exact_start : start.status ≡ Fresh → HasExactStatuses T now
  exact_start fresh = record {
    owned = λ c l a e s. elim (back c l e) [
      | inl new ↦ let p : Fresh ≡ Owned a = sym fresh ∙ (ap (λ (x : Life). x.status) new.1 ∙ s) in absurd cc
      | inr old ↦ still (h.statuses.owned c l a old s)
    ];
    emptied = λ c l a p e s n. elim (back c l e) [
      | inl new ↦ let q : Fresh ≡ Dropped a = sym fresh ∙ (ap (λ (x : Life). x.status) new.1 ∙ s) in absurd cc
      | inr old ↦ h.statuses.emptied c l a p old s n
    ];
  }

  -- it ends its own chain, and the others end as before
  chains_start : start.status ≡ Fresh → ChainsEnd now
  unfolding now
  chains_start fresh c l e in_use = elim (back c l e) [
    | inl new ↦ chain_ends now c (alone now c (record { life = l; alive = e; holds = ap (λ (x : Life). x.status) (sym new.1) ∙ fresh }))
    | inr old ↦
        let k = chain_of state.lives h.chains c l old in_use in
        chain_ends now c (goes_on state.lives now (λ x. ⊤) (λ a x p o. (still o, tt)) k.owners k.top c k.above tt
        (λ p f. alone now k.top (still f)))
  ]

  start_order : (s : BlockState) → start.pending ≡ s ∷ [] → start.begun ≡ None → AreBelow state.lives s.entry → AreOrdered now
  unfolding now
  start_order s one idle below = ordered_start state.lives b start s one idle below back h.order

  -- block 0 and the templates are alive before
  start_types : (L : Language) → types_of L now ≡ types_of L state.lives
  start_types =
      let r = h.lives_sound.root in
      let k = h.linked 0 r.life r.alive in
      kept_types T state.lives now r k.last k.is_last (λ i lt. ap (λ o. pointer (life_bytes o) i) root_same) (λ c n t. ap life_bytes (other_same c t.life t.alive))

  start_keeps : IsSoundLife T now b start → IsLinkedLife T now b start → start.durable ≡ None → ((s : BlockState) → Contains (states start) s → s.entry < state.next + 1) →
      ((s : BlockState) (p : ℕ × ℕ) → Contains start.pending s → Contains s.adds p → ⊥) → ((s : BlockState) (c : ℕ) → Contains start.pending s → Contains s.drops c → ⊥) → ((s : BlockState) (n : ℕ) → Contains start.pending s → s.after ≡ Some n → ⊥) → (IsBy b start.status → ⊥) → start.status ≡ Fresh → AreOrdered now →
      Keeps T state (record { lives = slice_set state.lives b (Some start); next = state.next + 1 })
  unfolding now
  start_keeps held linked none numbers no_adds no_drops no_after no_owner fresh order = record {
    consistent = record {
      order = order;
      statuses = exact_start fresh;
      chains = chains_start fresh;
      waits = queued_start no_adds no_drops no_after no_owner;
      built_ins = h.built_ins;
      size = subst IsDiskSize (sym carries_start.count) h.size;
      lives_sound = record {
        root = let r = h.lives_sound.root in root_still T state.lives now carries_start r r.life r.state (forth 0 r.life r.alive) r.ty r.nobody r.unowned r.durable (λ t m. m) r.pointers refl;
        each = λ c m e. elim (back c m e) [
          | inl new ↦ subst (λ x. IsSoundLife T now x m) (sym new.0) (subst (IsSoundLife T now b) new.1 held)
          | inr old ↦ held_still T state.lives now c m m.status carries_start (h.lives_sound.each c m old)
        ];
      };
      linked = λ c m e. elim (back c m e) [
        | inl new ↦ subst (λ x. IsLinkedLife T now x m) (sym new.0) (subst (IsLinkedLife T now b) new.1 linked)
        | inr old ↦ kept_still T state.lives now c m m.status carries_start (λ x r. still r) (carried_pending m) (h.linked c m old)
      ];
      numbers = λ c m s e i. elim (back c m e) [
        | inl new ↦ numbers s (subst (λ x. Contains (states x) s) (sym new.1) i)
        | inr old ↦ let lt = h.numbers c m s old i in omega arith
      ];
    };
    types = start_types;
    there = carries_start.types;
    count = carries_start.count;
    placed = λ content p c m s e d. elim (back c m e) [
      | inl new ↦ absurd (none-some s (sym none ∙ (ap (λ (x : Life). x.durable) new.1 ∙ d)))
      | inr old ↦ p c m s old d
    ];
  }

-- the one state of a life that begins
only_state : (state : StoreState) (fs : Option ℕ) (t : ℕ) (m : List ℕ) (s : BlockState) → Contains (states (new_life state.next fs t m)) s → (s.bytes ≡ m) × (s.entry ≡ state.next)
only_state state fs t m s i = elim (Contains-cons (first_state state.next fs m) [] s i) [
  | inl e ↦ (ap (λ (x : BlockState). x.bytes) (sym e), ap (λ (x : BlockState). x.entry) (sym e))
  | inr none ↦ absurd (Contains-none s none)
]

-- a life begins on the lowest free block, a file system's or nobody's
pub started_keeps : (T : Types) (state : StoreState) → IsConsistent T state → (fs : Option ℕ) (t : ℕ) (m : List ℕ) → IsTrue (T.installed t) → (t ≡ 0 → ⊥) → T.owned t m ≡ [] → within_size T t m ≡ true →
    (b : ℕ) → lowest_free state.lives ≡ Some b → Keeps T state (started state fs t m b)
started_keeps T state h fs t m installed not_root nothing size b e =
    let at = lowest_is state.lives b e in
    let unnamed : (s : BlockState) (p : ℕ × ℕ) → Contains (states (new_life state.next fs t m)) s → Contains (T.owned t s.bytes) p → ⊥ =
    λ s p i n. Contains-none p (subst (λ ps. Contains ps p) (ap (T.owned t) (only_state state fs t m s i).0 ∙ nothing) n) in
    start_keeps T state h b (new_life state.next fs t m) at.1 at.0
    (record {
      fit = λ s i. rw (only_state state fs t m s i).0 (and_from (named_once T t m) (within_size T t m) (ap (λ (ps : List (ℕ × ℕ)). distinct (blocks_of ps)) nothing) size);
      named = λ s c u i n. absurd (unnamed s (c, u) i n);
      same_system = λ s c u ne i n. absurd (unnamed s (c, u) i n);
      ready = λ s c u i n. absurd (Contains-none s i);
      typed = λ s c u ne i n. absurd (Contains-none s i);
      rising = tt;
    })
    (record {
      last = first_state state.next fs m;
      is_last = refl;
      owned = λ c u n. absurd (Contains-none (c, u) (subst (λ ps. Contains ps (c, u)) nothing n));
      installed = installed;
      root_alone = λ e'. absurd (not_root e');
      start = record { adds = refl; drops = refl; after = refl };
      grows = (λ c u n. absurd (Contains-none (c, u) (subst (λ ps. Contains ps (c, u)) nothing n)), tt);
      dropped = λ s c i n. absurd (drops_none s c i n);
      gone = (λ c i. absurd (Contains-none c i), tt);
      flight = tt;
      resting = λ s c i n. absurd (Contains-none s i);
    })
    refl
    (λ s i. let same = (only_state state fs t m s i).1 in omega arith)
    (λ s p i n. adds_none s p i n) (λ s c i n. drops_none s c i n) (λ s n i e. after_none s n i e) (λ by. by) refl
    (start_order T state h b (new_life state.next fs t m) at.1 at.0 (first_state state.next fs m) refl refl (below_next T state h))
  where
    adds_none : (s : BlockState) (p : ℕ × ℕ) → Contains (new_life state.next fs t m).pending s → Contains s.adds p → ⊥
    adds_none s p i n = elim (Contains-cons (first_state state.next fs m) [] s i) [
      | inl e ↦ Contains-none p (subst (λ (x : BlockState). Contains x.adds p) (sym e) n)
      | inr none ↦ Contains-none s none
    ]

    after_none : (s : BlockState) (n : ℕ) → Contains (new_life state.next fs t m).pending s → s.after ≡ Some n → ⊥
    after_none s n i e' = elim (Contains-cons (first_state state.next fs m) [] s i) [
      | inl e ↦ none-some n (ap (λ (x : BlockState). x.after) e ∙ e')
      | inr none ↦ Contains-none s none
    ]

    drops_none : (s : BlockState) (c : ℕ) → Contains (new_life state.next fs t m).pending s → Contains s.drops c → ⊥
    drops_none s c i n = elim (Contains-cons (first_state state.next fs m) [] s i) [
      | inl e ↦ Contains-none c (subst (λ (x : BlockState). Contains x.drops c) (sym e) n)
      | inr none ↦ Contains-none s none
    ]

init_at_keeps : (T : Types) (state : StoreState) → IsConsistent T state → (fs t : ℕ) (m : List ℕ) → IsTrue (T.installed t) → (t ≡ 0 → ⊥) → T.owned t m ≡ [] → within_size T t m ≡ true →
    (o : Option ℕ) → lowest_free state.lives ≡ o → (y : (ℕ × ℕ) × StoreState) → init_at state fs t m o ≡ Ok y → Keeps T state y.1
init_at_keeps T state h fs t m installed not_root nothing size None e y made = absurd (never_ok NoSpace y made)
init_at_keeps T state h fs t m installed not_root nothing size (Some b) e y made =
    subst (λ (x : (ℕ × ℕ) × StoreState). Keeps T state x.1) (same_ok ((b, state.next), started state (Some fs) t m b) y made) (started_keeps T state h (Some fs) t m installed not_root nothing size b e)

pub init_keeps : (T : Types) (state : StoreState) → IsConsistent T state → (fs t : ℕ) (m : List ℕ) (made : ℕ × ℕ) (new : StoreState) → init_of T state fs t m ≡ Ok (made, new) → Keeps T state new
init_keeps T state h fs t m made new e =
    let u = unless_ok (
    (nat_lt t 2 || not (T.installed t), BadType)
    ∷ (too_many state fs 0, TooManyPending)
    ∷ (exhausted state, Exhausted)
    ∷ (not (within_size T t m), SizeWrong)
    ∷ (not (owns_nothing T t m), ClaimWrong)
    ∷ []) (init_at state fs t m (lowest_free state.lives)) (made, new) e in
    let type' = or_parts (nat_lt t 2) (not (T.installed t)) u.0.0 in
    let large = ltb-false t 2 type'.0 in
    init_at_keeps T state h fs t m (not-false (T.installed t) type'.1) (λ z. absurd (omega arith))
    (owns_none T t m (not-false (owns_nothing T t m) u.0.1.1.1.1.0)) (not-false (within_size T t m) u.0.1.1.1.0) (lowest_free state.lives) refl (made, new) u.1
