-- A block accepts a state, and the blocks that it adds and drops change their status.
use Rattle.std.proofs.Common.{◌≡◌, ℕ, false, ◌+◌, ◌<◌, ◌≤◌, length, ◌⊎◌, List, [], ◌∷◌, Option, Some, None, refl, sym, ◌∙◌, ap, inl, inr, arith, subst}
use Rattle.std.specs.Prelude.{Contains, IsTrue, option_to_list}
use Rattle.std.specs.List.{last_or}
use Rattle.std.proofs.lemmas.Bool.{cases_eq, cases_Bool, false≢true}
use Rattle.std.proofs.lemmas.Option.{same_Some}
use Rattle.std.proofs.lemmas.List.Elements.{Contains-append_cases, Contains-append_left, Contains-append_right, Contains-push_cases}
use Rattle.xn_model.specs.Lists.{has_number, blocks_of}
use Rattle.xn_model.specs.Types.{Types}
use Rattle.xn_model.specs.Images.{IsDiskSize}
use Rattle.xn_model.specs.Root.{pointer, has_type}
use Rattle.xn_model.specs.Languages.{Language}
use Rattle.xn_model.specs.Calls.{accepts, root_now, types_of, latest, life_bytes}
use Rattle.xn_model.specs.Lives.{StoreState, BlockState, Owned, Dropped, Life, Lives, life_at, states, carried, newest, is_dropped, current, bytes_of, root_on_disk}
use Rattle.xn_model.specs.Rules.{ArePlaced, Keeps, IsConsistent, IsBy, IsOlder, IsOlderType, PointersStay, KeepsTypesThere, WaitsForOlder, IsRootLife, IsSoundLife, IsLinkedLife, IsHeldOnDisk, NamedIn, HasExactStatuses, IsNamer, IsCount, IsOwnedBy, IsFreshBlock, ChainsEnd}
use Rattle.xn_model.proofs.Changes.{accepted, accept, status_after}
use Rattle.xn_model.proofs.Catalogue.{on_disk_each, pointers_push}
use Rattle.xn_model.proofs.Languages.{kept_types, latest_each}
use Rattle.xn_model.proofs.Lists.{Contains-none, Contains-cons, last_of, blocks_of_at, has_number_at, has_number_from}
use Rattle.xn_model.proofs.Lives.{each_forth, each_back, at_each, of_life, accepted_is, length_accepted}
use Rattle.xn_model.proofs.Carry.{Carries, types_still}
use Rattle.xn_model.proofs.Chains.{HasChain, alone, below, chain_of, chain_ends, ends_at, goes_on}
use Rattle.xn_model.proofs.Orders.{AreBelow, below_next, ordered_accept}
use Rattle.xn_model.proofs.States.{MayBeRoot, MayAccept, last_push, states_push, carried_still, with_state, accepted_other, accepted_same, status_cases, status_stays, fresh_owned, same_owner, owned_dropped}
use Rattle.xn_model.proofs.AcceptedLives.{now, template_other, added_fresh, fresh_after, dropped_other, carries, held_other, kept_other, held_grown, kept_grown, owned_added, owned_still}

module _ (T : Types) (state : StoreState) (h : IsConsistent T state) (b : ℕ) (l : Life) (s : BlockState) (alive : life_at state.lives b ≡ Some l) (may : MayAccept T state.lives b l s) (number : s.entry ≡ state.next)
    (may_root : b ≡ 0 → MayBeRoot T state.lives h.lives_sound.root s) where
  next_lives : Lives
  next_lives = accept b s state.lives

  same_life : (c : ℕ) (m : Life) → life_at state.lives c ≡ Some m → c ≡ b → m ≡ l
  same_life c m e same = same_Some m l (sym e ∙ (ap (life_at state.lives) same ∙ alive))

  newer : (t : BlockState) → Contains (states l) t → t.entry < s.entry
  newer t m = let lt = h.numbers b l t alive m in let e = number in omega arith

  carries_next : Carries T state.lives next_lives
  unfolding next_lives now
  carries_next = carries T state.lives b l s alive may h.lives_sound.root

  held_at : (c : ℕ) (m : Life) → life_at state.lives c ≡ Some m → IsSoundLife T next_lives c (accepted b s c m)
  unfolding next_lives now
  held_at c m e = elim (cases_eq c b) [
    | inl same ↦
        let is : with_state s (status_after b s c m.status) l ≡ accepted b s c m = sym (accepted_same b s c m same ∙ ap (with_state s (status_after b s c m.status)) (same_life c m e same)) in
        subst (λ x. IsSoundLife T next_lives c x) is (subst (λ x. IsSoundLife T next_lives x (with_state s (status_after b s c m.status) l)) (sym same)
        (held_grown T state.lives b l s alive may h.lives_sound.root (h.lives_sound.each b l alive) (h.linked b l alive) newer (status_after b s c m.status)))
    | inr other ↦ subst (IsSoundLife T next_lives c) (sym (accepted_other b s c m other)) (held_other T state.lives b l s alive may h.lives_sound.root c m (status_after b s c m.status) (h.lives_sound.each c m e))
  ]

  kept_at : (c : ℕ) (m : Life) → life_at state.lives c ≡ Some m → IsLinkedLife T next_lives c (accepted b s c m)
  unfolding next_lives now
  kept_at c m e = elim (cases_eq c b) [
    | inl same ↦
        let is : with_state s (status_after b s c m.status) l ≡ accepted b s c m = sym (accepted_same b s c m same ∙ ap (with_state s (status_after b s c m.status)) (same_life c m e same)) in
        subst (λ x. IsLinkedLife T next_lives c x) is (subst (λ x. IsLinkedLife T next_lives x (with_state s (status_after b s c m.status) l)) (sym same)
        (kept_grown T state.lives b l s alive may h.lives_sound.root (h.lives_sound.each b l alive) (h.linked b l alive) newer (status_after b s c m.status)))
    | inr other ↦ subst (IsLinkedLife T next_lives c) (sym (accepted_other b s c m other)) (kept_other T state.lives b l s alive may h.lives_sound.root c m (status_after b s c m.status) other (h.linked c m e))
  ]

  -- a state of a life after it, if not new, was there before
  state_from : (c : ℕ) (m : Life) (t : BlockState) → Contains (states (accepted b s c m)) t → Contains (states m) t ⊎ ((s ≡ t) × (c ≡ b))
  state_from c m t i = elim (cases_eq c b) [
    | inl same ↦ elim (states_push m.durable m.pending s t (subst (λ x. Contains (states x) t) (accepted_same b s c m same) i)) [ inl old ↦ inl old | inr e ↦ inr (e, same) ]
    | inr other ↦ inl (subst (λ x. Contains (states x) t) (accepted_other b s c m other) i)
  ]

  carried_at : (c : ℕ) (m : Life) → life_at state.lives c ≡ Some m → carried (accepted b s c m) ≡ carried m
  carried_at c m e = elim (cases_eq c b) [
    | inl same ↦ ap carried (accepted_same b s c m same) ∙ carried_still m.begun m.pending s (h.linked c m e).flight
    | inr other ↦ ap carried (accepted_other b s c m other)
  ]

  pub accept_places : (content : ℕ → List ℕ) → ArePlaced content state.lives → ArePlaced content (accept b s state.lives)
  unfolding next_lives
  accept_places content placed c m t e d =
      let r = each_back (accepted b s) state.lives c m e in
      subst (λ x. IsHeldOnDisk content c x t) (sym r.2) (elim (placed c r.0 t r.1 (ap (λ (x : Life). x.durable) (sym r.2) ∙ d)) [
        | inl x ↦ inl x
        | inr y ↦ inr (y.0, ap (last_or None) (carried_at c r.0 r.1) ∙ y.1, y.2)
      ])

  root_next : IsRootLife T next_lives
  unfolding next_lives now
  root_next =
      let r = h.lives_sound.root in
      record {
        life = accepted b s 0 r.life;
        alive = each_forth (accepted b s) state.lives 0 r.life r.alive;
        ty = r.ty;
        nobody = r.nobody;
        unowned = fresh_after T state.lives b l s alive may r 0 r.life r.alive r.unowned (λ i. let p = blocks_of_at s.adds 0 i in (may.adds 0 p.0 p.1).holds.2 refl);
        state = r.state;
        durable = r.durable;
        mark = λ t i. elim (state_from 0 r.life t i) [ inl old ↦ rw carries_next.count (r.mark t old) | inr new ↦ rw (carries_next.count, ← new.0) (may_root (sym new.1)).mark ];
        pointers = root_pointers;
        long = λ t i. elim (state_from 0 r.life t i) [ inl old ↦ r.long t old | inr new ↦ rw (← new.0) (may_root (sym new.1)).long ];
        templates = λ t c u i n. elim (state_from 0 r.life t i) [ inl old ↦ carries_next.template c (r.templates t c u old n) | inr new ↦ carries_next.template c ((may_root (sym new.1)).templates c u (rw new.0 n)) ];
        types = λ t c u i n. elim (state_from 0 r.life t i) [ inl old ↦ r.types t c u old n | inr new ↦ rw (← new.0) ((may_root (sym new.1)).types c u (rw new.0 n)) ];
        all_types = root_types;
        slots = λ t j c i lt e ne. carries_next.system (Some j) c (elim (state_from 0 r.life t i) [ inl old ↦ r.slots t j c old lt e ne | inr new ↦ (may_root (sym new.1)).slots j c lt (rw new.0 e) ne ]);
      }
    where
      root_pointers : PointersStay (states (accepted b s 0 h.lives_sound.root.life))
      root_pointers =
          let r = h.lives_sound.root in
          let k = h.linked 0 r.life r.alive in
          elim (cases_eq 0 b) [
            | inl same ↦ subst (λ x. PointersStay (states x)) (sym (accepted_same b s 0 r.life same))
                (pointers_push r.life.durable r.life.pending s k.last r.pointers k.is_last ((may_root (sym same)).pointers k.last k.is_last))
            | inr other ↦ subst (λ x. PointersStay (states x)) (sym (accepted_other b s 0 r.life other)) r.pointers
          ]

      root_types : (t : BlockState) (u : ℕ) → newest (accepted b s 0 h.lives_sound.root.life) ≡ Some t → IsTrue (T.installed u) → IsTrue (has_type t.bytes u)
      root_types t u e i =
          let r = h.lives_sound.root in
          elim (cases_eq 0 b) [
            | inl same ↦
                let is : s ≡ t = same_Some s t (sym (ap newest (accepted_same b s 0 r.life same) ∙ last_push r.life.durable r.life.pending s) ∙ e) in
                subst (λ (x : BlockState). IsTrue (has_type x.bytes u)) is ((may_root (sym same)).all_types u i)
            | inr other ↦ r.all_types t u (sym (ap newest (accepted_other b s 0 r.life other)) ∙ e) i
          ]

  -- the same of pending states
  pending_from : (c : ℕ) (m : Life) (t : BlockState) → Contains (accepted b s c m).pending t → Contains m.pending t ⊎ ((s ≡ t) × (c ≡ b))
  pending_from c m t i = elim (cases_eq c b) [
    | inl same ↦ elim (Contains-push_cases m.pending s t (subst (λ (x : Life). Contains x.pending t) (accepted_same b s c m same) i)) [ inl old ↦ inl old | inr e ↦ inr (e, same) ]
    | inr other ↦ inl (subst (λ (x : Life). Contains x.pending t) (accepted_other b s c m other) i)
  ]

  pending_still : (c : ℕ) (m : Life) (t : BlockState) → Contains m.pending t → Contains (accepted b s c m).pending t
  pending_still c m t i = elim (cases_eq c b) [
    | inl same ↦ subst (λ (x : Life). Contains x.pending t) (sym (accepted_same b s c m same)) (Contains-append_left m.pending (s ∷ []) t i)
    | inr other ↦ subst (λ (x : Life). Contains x.pending t) (sym (accepted_other b s c m other)) i
  ]

  older_next : (c n : ℕ) → IsOlder state.lives c n → IsOlder next_lives c n
  unfolding next_lives
  older_next c n o = at_each (accepted b s) o (elim o.holds [ inl d ↦ inl d | inr t ↦ inr (t.0, pending_still c o.life t.0 t.1, t.2) ])

  older_type_next : (u n : ℕ) → IsOlderType state.lives u n → IsOlderType next_lives u n
  unfolding next_lives
  older_type_next u n o = at_each (accepted b s) o (elim o.holds [ inl d ↦ inl d | inr t ↦ inr (t.0, pending_still 0 o.life t.0 t.1, t.2, t.3) ])

  -- the newest state of a block that is alive is on the disk, or pending and older than the new one
  last_older : (c : ℕ) (m : Life) (e : life_at state.lives c ≡ Some m) →
      (m.durable ≡ Some (h.linked c m e).last) ⊎ (Contains m.pending (h.linked c m e).last × ((h.linked c m e).last.entry < s.entry))
  last_older c m e =
      let k = h.linked c m e in
      let in' = last_of m.durable m.pending k.last k.is_last in
      elim (Contains-append_cases (option_to_list m.durable) m.pending k.last in') [
        | inl d ↦ inl (some_is m.durable k.last d)
        | inr p ↦ inr (p, let lt = h.numbers c m k.last e in' in let e' = number in omega arith)
      ]
    where
      some_is : (o : Option BlockState) (x : BlockState) → Contains (option_to_list o) x → o ≡ Some x
      some_is None x i = absurd (Contains-none x i)
      some_is (Some y) x i = elim (Contains-cons y [] x i) [ inl e ↦ ap Some e | inr none ↦ absurd (Contains-none x none) ]

  -- a type that there is stands in block 0
  older_installed : (u : ℕ) → IsTrue (T.installed u) → IsOlderType state.lives u s.entry
  older_installed u i =
      let r = h.lives_sound.root in
      let k = h.linked 0 r.life r.alive in
      let has = r.all_types k.last u k.is_last i in
      record { life = r.life; alive = r.alive; holds = elim (last_older 0 r.life r.alive) [ inl d ↦ inl (k.last, d, has) | inr p ↦ inr (k.last, p.0, p.1, has) ] }

  -- a living block is older than the new state
  older_alive : (c : ℕ) (m : Life) → life_at state.lives c ≡ Some m → IsOlder state.lives c s.entry
  older_alive c m e =
      let k = h.linked c m e in
      record { life = m; alive = e; holds = elim (last_older c m e) [ inl d ↦ inl (k.last, d) | inr p ↦ inr (k.last, p.0, p.1) ] }

  not_itself : (c : ℕ) → Contains s.drops c → c ≡ b → ⊥
  not_itself c i e =
      let o = may.drops c i in
      let by : IsBy c (Owned b) = sym e in
      h.waits.apart c o.life o.alive (subst (IsBy c) (sym o.holds) by)

  queued_next : WaitsForOlder T next_lives
  unfolding next_lives
  queued_next = record {
    adds = λ a m t c u e i n. let r = each_back (accepted b s) state.lives a m e in
        let ty : m.ty ≡ r.0.ty = ap (λ (x : Life). x.ty) r.2 in
        elim (pending_from a r.0 t (subst (λ (x : Life). Contains x.pending t) r.2 i)) [
          | inl old ↦ let x = h.waits.adds a r.0 t c u r.1 old n in (subst (λ y. Contains (T.owned y t.bytes) (c, u)) (sym ty) x.0, older_next c t.entry x.1)
          | inr new ↦
              let mine : Contains s.adds (c, u) = subst (λ (x : BlockState). Contains x.adds (c, u)) (sym new.0) n in
              let is : m.ty ≡ l.ty = ty ∙ ap (λ (x : Life). x.ty) (same_life a r.0 r.1 new.1) in
              let named : Contains (T.owned l.ty t.bytes) (c, u) = subst (λ (x : BlockState). Contains (T.owned l.ty x.bytes) (c, u)) new.0 (may.added c u mine).0 in
              let x = may.adds c u mine in (
                subst (λ y. Contains (T.owned y t.bytes) (c, u)) (sym is) named,
                older_next c t.entry (subst (λ (y : BlockState). IsOlder state.lives c y.entry) new.0 (older_alive c x.life x.alive)),
              )
        ];
    types = λ a m t c u e i n. let r = each_back (accepted b s) state.lives a m e in
        elim (pending_from a r.0 t (subst (λ (x : Life). Contains x.pending t) r.2 i)) [
          | inl old ↦ older_type_next u t.entry (h.waits.types a r.0 t c u r.1 old n)
          | inr new ↦
              let x = may.adds c u (subst (λ (x : BlockState). Contains x.adds (c, u)) (sym new.0) n) in
              older_type_next u t.entry (subst (λ (y : BlockState). IsOlderType state.lives u y.entry) new.0
              (older_installed u (subst (λ y. IsTrue (T.installed y)) x.holds.0 (h.linked c x.life x.alive).installed)))
        ];
    drops = λ a m t c x y e i d f j. let r = each_back (accepted b s) state.lives a m e in let p = each_back (accepted b s) state.lives c x f in
        let y_in = pending_from c p.0 y (subst (λ (z : Life). Contains z.pending y) p.2 j) in
        elim (pending_from a r.0 t (subst (λ (z : Life). Contains z.pending t) r.2 i)) [
          | inl old ↦ elim y_in [
            | inl old' ↦ h.waits.drops a r.0 t c p.0 y r.1 old d p.1 old'
            | inr new' ↦ absurd (dropped_other T state.lives b l s alive may h.lives_sound.root a c ((h.linked a r.0 r.1).dropped t c old d) new'.1)
          ]
          | inr new ↦
              let mine : Contains s.drops c = subst (λ (z : BlockState). Contains z.drops c) (sym new.0) d in
              elim y_in [
                | inl old' ↦
                    let lt = h.numbers c p.0 y p.1 (Contains-append_right (option_to_list p.0.durable) p.0.pending y old') in
                    let same : s.entry ≡ t.entry = ap (λ (z : BlockState). z.entry) new.0 in let e' = number in omega arith
                | inr new' ↦ absurd (not_itself c mine new'.1)
              ]
        ];
    after = λ a m t n e i f. let r = each_back (accepted b s) state.lives a m e in
        elim (pending_from a r.0 t (subst (λ (z : Life). Contains z.pending t) r.2 i)) [
          | inl old ↦ h.waits.after a r.0 t n r.1 old f
          | inr new ↦ subst (λ (z : BlockState). n < z.entry) new.0 (may.given n (ap (λ (z : BlockState). z.after) new.0 ∙ f))
        ];
    apart = λ c m e by. let r = each_back (accepted b s) state.lives c m e in
        let by' : IsBy c (status_after b s c r.0.status) = subst (λ (z : Life). IsBy c z.status) r.2 by in
        elim (status_cases b s c r.0.status) [
          | inl add ↦ let p : IsBy c (Owned b) = subst (IsBy c) add.1 by' in let q = blocks_of_at s.adds c add.0 in (may.added c q.0 q.1).1 (sym p)
          | inr rest ↦ elim rest [
            | inl drop' ↦ let p : IsBy c (Dropped b) = subst (IsBy c) drop'.1 by' in not_itself c drop'.0 (sym p)
            | inr same ↦ h.waits.apart c r.0 r.1 (subst (IsBy c) same by')
          ]
        ];
  }

  -- the newest states
  newest_other : (c : ℕ) (m : Life) → (c ≡ b → ⊥) → newest (accepted b s c m) ≡ newest m
  newest_other c m ne = ap newest (accepted_other b s c m ne)

  newest_same : newest (accepted b s b l) ≡ Some s
  newest_same = ap newest (accepted_same b s b l refl) ∙ last_push l.durable l.pending s

  -- whose block it is
  named_here : (c u : ℕ) → Contains (T.owned l.ty s.bytes) (c, u) → IsNamer T next_lives b c u
  unfolding next_lives
  named_here c u n = record {
    life = accepted b s b l;
    alive = each_forth (accepted b s) state.lives b l alive;
    holds = subst (λ o. NamedIn T l.ty o (c, u)) (sym newest_same) n;
  }

  namer_next : (a c u : ℕ) → (Contains s.drops c → a ≡ b → ⊥) → IsNamer T state.lives a c u → IsNamer T next_lives a c u
  unfolding next_lives
  namer_next a c u out o = elim (cases_eq a b) [
    | inl same ↦
        let before = of_life o l (ap (life_at state.lives) same ∙ alive) in
        subst (λ x. IsNamer T next_lives x c u) (sym same) (named_here c u (may.stays c u before (λ i. out i same)))
    | inr other ↦ at_each (accepted b s) o (subst (λ x. NamedIn T o.life.ty x (c, u)) (sym (newest_other a o.life other)) o.holds)
  ]

  exact_next : HasExactStatuses T next_lives
  unfolding next_lives
  exact_next = record {
    owned = λ c m a e st.
        let r = each_back (accepted b s) state.lives c m e in
        let after : status_after b s c r.0.status ≡ Owned a = ap (λ (x : Life). x.status) (sym r.2) ∙ st in
        let ty : r.0.ty ≡ m.ty = ap (λ (x : Life). x.ty) (sym r.2) in
        subst (λ t. IsNamer T next_lives a c t) ty (elim (status_cases b s c r.0.status) [
          | inl add ↦
              let p = blocks_of_at s.adds c add.0 in
              let x = may.adds c p.0 p.1 in
              let owner : b ≡ a = same_owner b a (sym add.1 ∙ after) in
              let named : Contains (T.owned l.ty s.bytes) (c, r.0.ty) = subst (λ t. Contains (T.owned l.ty s.bytes) (c, t)) (sym (of_life x r.0 r.1).0) (may.added c p.0 p.1).0 in
              subst (λ y. IsNamer T next_lives y c r.0.ty) owner (named_here c r.0.ty named)
          | inr rest ↦ elim rest [
            | inl drop' ↦ absurd (owned_dropped a b (sym after ∙ drop'.1))
            | inr same ↦
                namer_next a c r.0.ty (λ i owner. elim (status_stays b s c r.0.status i) [
                  | inl x ↦ fresh_owned a (sym (added_fresh T state.lives b l s alive may h.lives_sound.root c r.0 r.1 x) ∙ (sym same ∙ after))
                  | inr x ↦ owned_dropped a b (sym after ∙ x)
                ]) (h.statuses.owned c r.0 a r.1 (sym same ∙ after))
          ]
        ]);
    emptied = λ c m a p e st n.
        let r = each_back (accepted b s) state.lives c m e in
        let after : status_after b s c r.0.status ≡ Dropped a = ap (λ (x : Life). x.status) (sym r.2) ∙ st in
        let named : NamedIn T r.0.ty (newest (accepted b s c r.0)) p = subst (λ (x : Life). NamedIn T x.ty (newest x) p) r.2 n in
        elim (status_cases b s c r.0.status) [
          | inl add ↦ owned_dropped b a (sym add.1 ∙ after)
          | inr rest ↦ elim rest [
            | inl drop' ↦ may.empty c r.0 p drop'.0 r.1 (subst (λ o. NamedIn T r.0.ty o p) (newest_other c r.0 (λ z. not_itself c drop'.0 z)) named)
            | inr same ↦
                let old : r.0.status ≡ Dropped a = sym same ∙ after in
                h.statuses.emptied c r.0 a p r.1 old (subst (λ o. NamedIn T r.0.ty o p)
                (newest_other c r.0 (dropped_other T state.lives b l s alive may h.lives_sound.root a c (record { life = r.0; alive = r.1; holds = old }))) named)
          ]
        ];
  }

  -- Chains

  -- what is dropped owns nothing
  no_owner : (a c : ℕ) → IsOwnedBy state.lives a c → Contains s.drops a → ⊥
  no_owner a c o i = let n = h.statuses.owned c o.life a o.alive o.holds in may.empty a n.life (c, o.life.ty) i n.alive n.holds

  -- a block that is not dropped keeps its owner
  owner_next : (a c : ℕ) → (Contains s.drops c → ⊥) → IsOwnedBy state.lives a c → IsOwnedBy next_lives a c × (Contains s.drops a → ⊥)
  unfolding next_lives now
  owner_next a c out o = (owned_still T state.lives b l s alive may h.lives_sound.root a c out o, no_owner a c o)

  fresh_next : (c : ℕ) → (Contains (blocks_of s.adds) c → ⊥) → IsFreshBlock state.lives c → IsFreshBlock next_lives c
  unfolding next_lives
  fresh_next c out f = at_each (accepted b s) f (fresh_after T state.lives b l s alive may h.lives_sound.root c f.life f.alive f.holds out)

  -- the block's own chain ends where it ended
  own_chain : HasChain next_lives b
  own_chain =
      let c = chain_of state.lives h.chains b l alive may.in_use in
      goes_on state.lives next_lives (λ x. Contains s.drops x → ⊥) owner_next c.owners c.top b c.above (λ i. not_itself b i refl)
      (λ out f. alone next_lives c.top (fresh_next c.top (λ i. may.no_cycle (subst (λ x. Contains (blocks_of s.adds) x) (sym (ends_at state.lives c.owners c.top b c.above)) i)) f))

  -- another one ends where it ended, or at an added block, and goes on by the block's own
  chain_next : (c : ℕ) → HasChain state.lives c → (Contains s.drops c → ⊥) → HasChain next_lives c
  unfolding next_lives now
  chain_next c k out = goes_on state.lives next_lives (λ x. Contains s.drops x → ⊥) owner_next k.owners k.top c k.above out (λ end f. elim (cases_Bool (has_number (blocks_of s.adds) k.top)) [
    | inl t ↦
        let p = blocks_of_at s.adds k.top (has_number_at (blocks_of s.adds) k.top t) in
        below next_lives b k.top (owned_added T state.lives b l s alive may h.lives_sound.root k.top p.0 p.1) own_chain
    | inr none ↦ alone next_lives k.top (fresh_next k.top (λ i. false≢true (sym none ∙ has_number_from (blocks_of s.adds) k.top i)) f)
  ])

  chains_next : ChainsEnd next_lives
  unfolding next_lives
  chains_next c m e in_use =
      let r = each_back (accepted b s) state.lives c m e in
      let after : is_dropped (status_after b s c r.0.status) ≡ false = ap (λ (x : Life). is_dropped x.status) (sym r.2) ∙ in_use in
      let out : Contains s.drops c → ⊥ = λ i. elim (status_stays b s c r.0.status i) [
        | inl x ↦
            let d = may.drops c i in
            fresh_owned b (sym (added_fresh T state.lives b l s alive may h.lives_sound.root c d.life d.alive x) ∙ d.holds)
        | inr x ↦ false≢true (sym after ∙ ap is_dropped x)
      ] in
      let before : is_dropped r.0.status ≡ false = elim (status_cases b s c r.0.status) [
        | inl add ↦ ap is_dropped (added_fresh T state.lives b l s alive may h.lives_sound.root c r.0 r.1 add.0)
        | inr rest ↦ elim rest [ inl drop' ↦ absurd (out drop'.0) | inr same ↦ ap is_dropped (sym same) ∙ after ]
      ] in
      chain_ends next_lives c (chain_next c (chain_of state.lives h.chains c r.0 r.1 before) out)

  numbers_below : AreBelow state.lives s.entry
  numbers_below = subst (AreBelow state.lives) (sym number) (below_next T state h)

  few : (c : ℕ) (m : Life) (j : ℕ) → life_at state.lives c ≡ Some m → m.begun ≡ Some j → j ≤ length m.pending
  few c m j e begun = let bounds : IsCount (Some j) (length m.pending) = subst (λ o. IsCount o (length m.pending)) begun (h.linked c m e).flight in bounds.1

  pub accept_keeps : IsConsistent T (record state { lives = accept b s state.lives; next = state.next + 1 })
  unfolding next_lives
  accept_keeps = record {
    order = ordered_accept state.lives b s numbers_below few h.order;
    statuses = exact_next;
    chains = chains_next;
    waits = queued_next;
    built_ins = h.built_ins;
    size = subst IsDiskSize (sym carries_next.count) h.size;
    lives_sound = record { root = root_next; each = λ c m e. let r = each_back (accepted b s) state.lives c m e in subst (IsSoundLife T next_lives c) (sym r.2) (held_at c r.0 r.1) };
    linked = λ c m e. let r = each_back (accepted b s) state.lives c m e in subst (IsLinkedLife T next_lives c) (sym r.2) (kept_at c r.0 r.1);
    numbers = λ c m t e i. let r = each_back (accepted b s) state.lives c m e in elim (state_from c r.0 t (subst (λ x. Contains (states x) t) r.2 i)) [
      | inl old ↦ let lt = h.numbers c r.0 t r.1 old in omega arith
      | inr new ↦ let same : s.entry ≡ t.entry = ap (λ (x : BlockState). x.entry) new.0 in let e' = number in omega arith
    ];
  }

-- What a call that has a block accept a state leaves

-- the disk is the same
pub accept_there : (state : StoreState) (b : ℕ) (s : BlockState) → KeepsTypesThere state.lives (accepts state b s).1.lives
accept_there state b s = types_still state.lives (accepts state b s).1.lives (ap root_on_disk (accepted_is state.lives b s) ∙ on_disk_each (accepted b s) state.lives (λ x. refl))

-- no type is new where block 0's pointers are the same
accept_types : (T : Types) (state : StoreState) (h : IsConsistent T state) (b : ℕ) (l : Life) (s : BlockState) (alive : life_at state.lives b ≡ Some l) → MayAccept T state.lives b l s →
    (b ≡ 0 → (i : ℕ) → i < 16 → pointer s.bytes i ≡ pointer (root_now state) i) → (L : Language) → types_of L (accept b s state.lives) ≡ types_of L state.lives
accept_types T state h b l s alive may same =
    let r = h.lives_sound.root in
    let k = h.linked 0 r.life r.alive in
    kept_types T state.lives (accept b s state.lives) r k.last k.is_last
    (λ i lt. elim (cases_eq 0 b) [
      | inl zero' ↦ ap (λ m. pointer m i) (now_newest zero') ∙ same (sym zero') i lt
      | inr other ↦ ap (λ m. pointer m i) (still 0 other)
    ])
    (λ c n t. still c (template_other T state.lives b l s alive may r c t))
  where
    still : (c : ℕ) → (c ≡ b → ⊥) → latest (accept b s state.lives) c ≡ latest state.lives c
    still c ne = latest_each (accepted b s) state.lives c (λ x e. ap current (accepted_other b s c x ne))

    now_newest : 0 ≡ b → latest (accept b s state.lives) 0 ≡ s.bytes
    now_newest zero' =
        let r = h.lives_sound.root in
        ap life_bytes (each_forth (accepted b s) state.lives 0 r.life r.alive)
        ∙ (ap current (accepted_same b s 0 r.life zero') ∙ ap bytes_of (last_push r.life.durable r.life.pending s))

pub accepts_keeps : (T : Types) (state : StoreState) (h : IsConsistent T state) (b : ℕ) (l : Life) (s : BlockState) (alive : life_at state.lives b ≡ Some l) → MayAccept T state.lives b l s → s.entry ≡ state.next →
    (b ≡ 0 → MayBeRoot T state.lives h.lives_sound.root s) → (b ≡ 0 → (i : ℕ) → i < 16 → pointer s.bytes i ≡ pointer (root_now state) i) → Keeps T state (accepts state b s).1
unfolding next_lives
accepts_keeps T state h b l s alive may number may_root same = record {
  types = λ L. ap (types_of L) (accepted_is state.lives b s) ∙ accept_types T state h b l s alive may same L;
  there = accept_there state b s;
  consistent = subst (λ xs. IsConsistent T (record { lives = xs; next = state.next + 1 })) (sym (accepted_is state.lives b s)) (accept_keeps T state h b l s alive may number may_root);
  count = length_accepted state.lives b s;
  placed = λ content p. subst (ArePlaced content) (sym (accepted_is state.lives b s)) (accept_places T state h b l s alive may number may_root content p);
}
