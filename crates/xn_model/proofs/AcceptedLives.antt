-- A block accepts a state: what each life is after it.
use Rattle.std.proofs.Common.{◌≡◌, ℕ, ◌<◌, ◌≢◌, false, cond, [], ◌∷◌, ◌++◌, Option, Some, None, refl, sym, ◌∙◌, ap, inl, inr, arith, subst, append_assoc}
use Rattle.std.specs.Prelude.{Contains, IsTrue, option_to_list, option_map}
use Rattle.std.proofs.lemmas.Bool.{false≢true, ne_eqb, cond-true, cond-false, false_from_ne_true}
use Rattle.std.proofs.lemmas.List.Elements.{Contains-push_cases}
use Rattle.xn_model.specs.Lists.{has_number, blocks_of}
use Rattle.xn_model.specs.Types.{Types, fits}
use Rattle.xn_model.specs.Lives.{BlockState, Status, Fresh, Owned, Dropped, Life, Lives, life_at, states, carried, newest, first_states, is_dropped}
use Rattle.xn_model.specs.Rules.{IsBy, BelongsTo, IsInFileSystem, IsTemplate, IsRootLife, IsSoundLife, IsLinkedLife, NamedIn, NoneNames, NoneDrops, Rises, IsDroppedBy, IsOwnedBy}
use Rattle.xn_model.proofs.Changes.{accepted, accept, status_after, each}
use Rattle.xn_model.proofs.Catalogue.{on_disk_each}
use Rattle.xn_model.proofs.Lists.{Contains-none, Contains-cons, last_of, has_number_at, has_number_from, blocks_of_at, blocks_of_has}
use Rattle.xn_model.proofs.Lives.{at_each, of_life, length_revised}
use Rattle.xn_model.proofs.Carry.{Carries, types_still, held_still, kept_still}
use Rattle.xn_model.proofs.Reached.{carried_pending}
use Rattle.xn_model.proofs.States.{MayAccept, rises_push, last_push, start_push, grows_push, stays_push, stays_last, states_push, carried_still, count_more, with_state, with_status, status_cases, fresh_owned, same_owner, fresh_dropped, owned_dropped}

module _ (T : Types) (lives : Lives) (b : ℕ) (l : Life) (s : BlockState) (alive : life_at lives b ≡ Some l) (may : MayAccept T lives b l s) (root : IsRootLife T lives) where
  unfoldable pub now : Lives
  now = accept b s lives

  -- an added block was fresh, a dropped one owned
  pub added_fresh : (c : ℕ) (x : Life) → life_at lives c ≡ Some x → Contains (blocks_of s.adds) c → x.status ≡ Fresh
  added_fresh c x e i = let p = blocks_of_at s.adds c i in (of_life (may.adds c p.0 p.1) x e).1

  dropped_owned : (c : ℕ) (x : Life) → life_at lives c ≡ Some x → Contains s.drops c → x.status ≡ Owned b
  dropped_owned c x e i = of_life (may.drops c i) x e

  by_after : (a c : ℕ) (x : Life) → life_at lives c ≡ Some x → IsBy a x.status → IsBy a (status_after b s c x.status)
  by_after a c x e by = elim (status_cases b s c x.status) [
    | inl add ↦ absurd (subst (IsBy a) (added_fresh c x e add.0) by)
    | inr rest ↦ elim rest [
      | inl drop' ↦ let p : IsBy a (Owned b) = subst (IsBy a) (dropped_owned c x e drop'.0) by in let q : IsBy a (Dropped b) = p in subst (IsBy a) (sym drop'.1) q
      | inr same ↦ subst (IsBy a) (sym same) by
    ]
  ]

  dropped_after : (a c : ℕ) (x : Life) → life_at lives c ≡ Some x → x.status ≡ Dropped a → status_after b s c x.status ≡ Dropped a
  dropped_after a c x e d = elim (status_cases b s c x.status) [
    | inl add ↦ absurd (fresh_dropped a (sym (added_fresh c x e add.0) ∙ d))
    | inr rest ↦ elim rest [
      | inl drop' ↦ absurd (owned_dropped b a (sym (dropped_owned c x e drop'.0) ∙ d))
      | inr same ↦ same ∙ d
    ]
  ]

  pub fresh_after : (c : ℕ) (x : Life) → life_at lives c ≡ Some x → x.status ≡ Fresh → (Contains (blocks_of s.adds) c → ⊥) → status_after b s c x.status ≡ Fresh
  fresh_after c x e f out = elim (status_cases b s c x.status) [
    | inl add ↦ absurd (out add.0)
    | inr rest ↦ elim rest [
      | inl drop' ↦ absurd (fresh_owned b (sym f ∙ dropped_owned c x e drop'.0))
      | inr same ↦ same ∙ f
    ]
  ]

  -- the pending states of another block
  pending_other : (c : ℕ) (x : Life) → (c ≡ b → ⊥) → (accepted b s c x).pending ≡ x.pending
  pending_other c x ne = ap (λ t. cond t (x.pending ++ s ∷ []) x.pending) (ne_eqb c b ne)

  pub template_other : (c : ℕ) → IsTemplate T lives c → c ≡ b → ⊥
  template_other c t e =
      let zero' : c ≡ 0 = e ∙ may.editable (of_life t l (ap (life_at lives) e ∙ alive)).0 in
      let one : root.life.ty ≡ 1 = (of_life t root.life (ap (life_at lives) zero' ∙ root.alive)).1 in
      let none : root.life.ty ≡ 0 = root.ty in
      absurd (omega arith)

  pub dropped_other : (a c : ℕ) → IsDroppedBy lives a c → c ≡ b → ⊥
  dropped_other a c d e = false≢true (sym may.in_use ∙ ap is_dropped (of_life d l (ap (life_at lives) e ∙ alive)))

  pub carries : Carries T lives now
  unfolding now
  carries = record {
    count = length_revised (λ c o. option_map (accepted b s c) o) lives;
    belongs = λ a c u r. at_each (accepted b s) r (r.holds.0, by_after a c r.life r.alive r.holds.1);
    system = λ fs c r. at_each (accepted b s) r r.holds;
    disk = λ c r. at_each (accepted b s) r r.holds;
    template = λ c r. at_each (accepted b s) r
        (r.holds.0, r.holds.1, r.holds.2, ap (λ xs. option_to_list r.life.durable ++ xs) (pending_other c r.life (template_other c r)) ∙ r.holds.3, r.holds.4);
    dropped = λ a c r. at_each (accepted b s) r (dropped_after a c r.life r.alive r.holds);
    resting = λ a c d r. at_each (accepted b s) r (pending_other c r.life (dropped_other a c d) ∙ r.holds);
    types = types_still lives (each (accepted b s) lives) (on_disk_each (accepted b s) lives (λ x. refl));
  }

  -- the targets
  added_status : (c u : ℕ) → Contains s.adds (c, u) → (st : Status) → status_after b s c st ≡ Owned b
  added_status c u i st = cond-true (has_number (blocks_of s.adds) c) (Owned b) (cond (has_number s.drops c) (Dropped b) st)
      (has_number_from (blocks_of s.adds) c (blocks_of_has s.adds (c, u) i))

  adds_after : (c u : ℕ) → Contains s.adds (c, u) → BelongsTo now b c u
  unfolding now
  adds_after c u i =
      let a = may.adds c u i in
      let by : IsBy b (Owned b) = refl in
      at_each (accepted b s) a (a.holds.0, subst (IsBy b) (sym (added_status c u i a.life.status)) by)

  pub owned_added : (c u : ℕ) → Contains s.adds (c, u) → IsOwnedBy now b c
  unfolding now
  owned_added c u i = at_each (accepted b s) (may.adds c u i) (added_status c u i (may.adds c u i).life.status)

  drops_after : (c : ℕ) → Contains s.drops c → IsDroppedBy now b c
  unfolding now
  drops_after c i =
      let d = may.drops c i in
      let not_added : has_number (blocks_of s.adds) c ≡ false = false_from_ne_true (has_number (blocks_of s.adds) c) (λ t. fresh_owned b (sym (added_fresh c d.life d.alive (has_number_at (blocks_of s.adds) c t)) ∙ d.holds)) in
      at_each (accepted b s) d (cond-false (has_number (blocks_of s.adds) c) (Owned b) (cond (has_number s.drops c) (Dropped b) d.life.status) not_added
      ∙ cond-true (has_number s.drops c) (Dropped b) d.life.status (has_number_from s.drops c i))

  -- what a block owns it owns unless it is dropped
  pub owned_still : (a c : ℕ) → (Contains s.drops c → ⊥) → IsOwnedBy lives a c → IsOwnedBy now a c
  unfolding now
  owned_still a c out r = at_each (accepted b s) r (elim (status_cases b s c r.life.status) [
    | inl add ↦ absurd (fresh_owned a (sym (added_fresh c r.life r.alive add.0) ∙ r.holds))
    | inr rest ↦ elim rest [ inl drop' ↦ absurd (out drop'.0) | inr same ↦ same ∙ r.holds ]
  ])

  -- and that is dropped by this block alone
  owned_other : (a : ℕ) → (a ≡ b → ⊥) → (c : ℕ) → IsOwnedBy lives a c → IsOwnedBy now a c
  owned_other a ne c r = owned_still a c (λ i. ne (same_owner a b (sym r.holds ∙ dropped_owned c r.life r.alive i))) r

  -- A life that accepts nothing
  pub held_other : (c : ℕ) (m : Life) (st : Status) → IsSoundLife T lives c m → IsSoundLife T now c (with_status st m)
  held_other c m st h = held_still T lives now c m st carries h

  pub kept_other : (c : ℕ) (m : Life) (st : Status) → (c ≡ b → ⊥) → IsLinkedLife T lives c m → IsLinkedLife T now c (with_status st m)
  kept_other c m st ne h = kept_still T lives now c m st carries (owned_other c ne) (carried_pending m) h

  module _ (held : IsSoundLife T lives b l) (linked : IsLinkedLife T lives b l) (latest : (t : BlockState) → Contains (states l) t → t.entry < s.entry) where
    named_in_newest : (o : Option BlockState) → newest l ≡ o → (c u : ℕ) → NamedIn T l.ty o (c, u) → BelongsTo lives b c u
    named_in_newest None e c u n = absurd n
    named_in_newest (Some t) e c u n = held.named t c u (last_of l.durable l.pending t e) n

    system_in_newest : (o : Option BlockState) → newest l ≡ o → (c u : ℕ) → b ≢ 0 → NamedIn T l.ty o (c, u) → IsInFileSystem lives l.fs c
    system_in_newest None e c u ne n = absurd n
    system_in_newest (Some t) e c u ne n = held.same_system t c u ne (last_of l.durable l.pending t e) n

    -- what is carried stays so
    carried_same : first_states l.begun (l.pending ++ s ∷ []) ≡ carried l
    carried_same = carried_still l.begun l.pending s linked.flight

    pub held_grown : (st : Status) → IsSoundLife T now b (with_state s st l)
    held_grown st = record {
      fit = λ t m. elim (states_push l.durable l.pending s t m) [ inl old ↦ held.fit t old | inr e ↦ subst (λ (x : BlockState). IsTrue (fits T l.ty x.bytes)) e may.fit ];
      named = λ t c u m n. elim (states_push l.durable l.pending s t m) [
        | inl old ↦ carries.belongs b c u (held.named t c u old n)
        | inr e ↦ elim (may.names c u (rw e n)) [
          | inl before ↦ carries.belongs b c u (named_in_newest (newest l) refl c u before.0)
          | inr add ↦ adds_after c u add
        ]
      ];
      same_system = λ t c u ne m n. carries.system l.fs c (elim (states_push l.durable l.pending s t m) [
        | inl old ↦ held.same_system t c u ne old n
        | inr e ↦ elim (may.names c u (rw e n)) [ inl before ↦ system_in_newest (newest l) refl c u ne before.0 | inr add ↦ may.systems c u ne add ]
      ]);
      ready = λ t c u m n. carries.disk c (held.ready t c u (subst (λ xs. Contains (option_to_list l.durable ++ xs) t) carried_same m) n);
      typed = λ t c u ne m n. carries.types u (held.typed t c u ne (subst (λ xs. Contains (option_to_list l.durable ++ xs) t) carried_same m) n);
      rising = subst Rises (append_assoc (option_to_list l.durable) l.pending (s ∷ [])) (rises_push (states l) s held.rising latest);
    }

    -- what was dropped isn't named or dropped again
    stays_out : (r : BlockState) (c : ℕ) → Contains l.pending r → Contains r.drops c → NoneNames T l.ty c (s ∷ []) × NoneDrops c (s ∷ [])
    stays_out r c i m =
        let d = linked.dropped r c i m in (
          λ t u j n. elim (Contains-cons s [] t j) [
            | inl e ↦ elim (may.names c u (rw e n)) [
              | inl before ↦ stays_last T l.ty l.durable l.pending r c u linked.gone i m before.0
              | inr add ↦ fresh_dropped b (sym (of_life (may.adds c u add) d.life d.alive).1 ∙ d.holds)
            ]
            | inr none ↦ Contains-none t none
          ],
          λ t j n. elim (Contains-cons s [] t j) [
            | inl e ↦ owned_dropped b b (sym (dropped_owned c d.life d.alive (rw e n)) ∙ d.holds)
            | inr none ↦ Contains-none t none
          ],
        )

    drops_unnamed : (c : ℕ) → Contains s.drops c → NoneNames T l.ty c (s ∷ [])
    drops_unnamed c m = λ t u j n. elim (Contains-cons s [] t j) [
      | inl e ↦ elim (may.names c u (rw e n)) [
        | inl before ↦ before.1 m
        | inr add ↦ let a = may.adds c u add in fresh_owned b (sym a.holds.1 ∙ dropped_owned c a.life a.alive m)
      ]
      | inr none ↦ Contains-none t none
    ]

    pub kept_grown : (st : Status) → IsLinkedLife T now b (with_state s st l)
    kept_grown st = record {
      last = s;
      is_last = last_push l.durable l.pending s;
      owned = λ c u n. elim (may.names c u (subst (λ o. NamedIn T l.ty o (c, u)) (last_push l.durable l.pending s) n)) [
        | inl before ↦ owned_still b c before.1 (linked.owned c u before.0)
        | inr add ↦ owned_added c u add
      ];
      installed = linked.installed;
      root_alone = linked.root_alone;
      start = start_push l.durable l.pending s linked.last linked.is_last linked.start;
      grows = grows_push T l.ty l.durable l.pending s linked.grows (λ c u n. elim (may.names c u n) [ inl before ↦ inl before.0 | inr add ↦ inr add ]);
      dropped = λ t c i n. elim (Contains-push_cases l.pending s t i) [ inl old ↦ carries.dropped b c (linked.dropped t c old n) | inr e ↦ drops_after c (rw e n) ];
      gone = stays_push T l.ty l.pending s linked.gone stays_out drops_unnamed;
      flight = count_more l.begun l.pending s linked.flight;
      resting = λ t c i n. let was = subst (λ xs. Contains xs t) carried_same i in carries.resting b c (linked.dropped t c (carried_pending l t was) n) (linked.resting t c was n);
    }
