-- Edits of block 0: a root made, a root dropped.
use Rattle.std.proofs.Common.{◌≡◌, ℕ, ◌^◌, ◌<◌, ◌≤◌, ◌≢◌, not, List, [], ◌∷◌, length, Some, refl, sym, ◌∙◌, ap, inl, inr, arith, subst, true}
use Rattle.std.specs.Prelude.{Contains, Ok, IsTrue, ◌==◌}
use Rattle.std.proofs.lemmas.Bool.{cases_eq, not-false, eqb-false, eqb-true}
use Rattle.std.proofs.lemmas.Option.{same_Some, none-some}
use Rattle.std.proofs.lemmas.List.Elements.{Contains-append_right}
use Rattle.xn_model.specs.Types.{Types, fits}
use Rattle.xn_model.specs.Images.{most_blocks}
use Rattle.xn_model.specs.Root.{pointer, has_type, header, marked, slot, with_slot, templates_of, roots_of, owned_by_root}
use Rattle.xn_model.specs.Lives.{BlockState, Fresh, Owned, Life, life_at, states, newest, bytes_of, is_fresh, is_dropped, chain_end, StoreState}
use Rattle.xn_model.specs.Results.{RootTaken, NotFresh, TooManyPending, Exhausted, NotOwned, NotEmpty}
use Rattle.xn_model.specs.Calls.{drop_root_of, make_root_of, root_now, slot_now, root_state, life_bytes, life_pending, make_root_at, accepts, too_many, exhausted, is_empty}
use Rattle.xn_model.specs.Rules.{Keeps, IsInFileSystem, IsOwnedBy, IsLinkedLife, IsConsistent, NamedIn, IsFreshBlock}
use Rattle.xn_model.proofs.Lists.{Contains-none, Contains-head, Contains-cons, last_of, blocks_of_at}
use Rattle.xn_model.proofs.Lives.{of_life}
use Rattle.xn_model.proofs.Tests.{unless_ok, own_then, same_ok, fresh_from}
use Rattle.xn_model.proofs.Reached.{in_range}
use Rattle.xn_model.proofs.Catalogue.{has_keeps}
use Rattle.xn_model.proofs.RootBytes.{pointer_by_header, slot_other, slot_same, slot_header, slot_length, slot_fits, slot_names, slot_owned, slot_drops, marked_by_header, templates_by_header, roots_from, slot_stays}
use Rattle.xn_model.proofs.Chains.{ends_itself}
use Rattle.xn_model.proofs.States.{IsAddable, MayBeRoot, MayAccept}
use Rattle.xn_model.proofs.Accept.{accepts_keeps}
use Rattle.xn_model.proofs.Edits.{not_root, in_newest, from_newest, dropped_empty}

module _ (T : Types) (state : StoreState) (h : IsConsistent T state) where
  -- what is linked of block 0, and its newest bytes
  abbrev pub kept_root : IsLinkedLife T state.lives 0 h.lives_sound.root.life
  kept_root = h.linked 0 h.lives_sound.root.life h.lives_sound.root.alive

  pub newest_is : root_now state ≡ kept_root.last.bytes
  newest_is = ap life_bytes h.lives_sound.root.alive ∙ ap bytes_of kept_root.is_last

  pub in_states : Contains (states h.lives_sound.root.life) kept_root.last
  in_states = last_of h.lives_sound.root.life.durable h.lives_sound.root.life.pending kept_root.last kept_root.is_last

  pub long : length (root_now state) ≡ 512
  long = ap length newest_is ∙ h.lives_sound.root.long kept_root.last in_states

  pub fit : IsTrue (fits T 0 (root_now state))
  fit =
      let f = (h.lives_sound.each 0 h.lives_sound.root.life h.lives_sound.root.alive).fit kept_root.last in_states in
      subst (λ m. IsTrue (fits T 0 m)) (sym newest_is) (subst (λ t. IsTrue (fits T t kept_root.last.bytes)) h.lives_sound.root.ty f)

  pub mark : IsTrue (marked (length state.lives) (root_now state))
  mark = subst (λ m. IsTrue (marked (length state.lives) m)) (sym newest_is) (h.lives_sound.root.mark kept_root.last in_states)

  -- what its bytes name, its newest state names
  pub root_named : (c u : ℕ) → Contains (owned_by_root (root_now state)) (c, u) → NamedIn T h.lives_sound.root.life.ty (newest h.lives_sound.root.life) (c, u)
  root_named c u n =
      let one : Contains (T.owned 0 (root_now state)) (c, u) = subst (λ ps. Contains ps (c, u)) (sym (h.built_ins.root_owns (root_now state))) n in
      let two : Contains (T.owned h.lives_sound.root.life.ty (root_now state)) (c, u) = subst (λ t. Contains (T.owned t (root_now state)) (c, u)) (sym h.lives_sound.root.ty) one in
      in_newest T state.lives 0 h.lives_sound.root.life kept_root (c, u) (subst (λ m. Contains (T.owned h.lives_sound.root.life.ty m) (c, u)) (ap life_bytes h.lives_sound.root.alive) two)

  pub root_owns : (c u : ℕ) → Contains (owned_by_root (root_now state)) (c, u) → IsOwnedBy state.lives 0 c
  root_owns c u n = kept_root.owned c u (root_named c u n)

  -- block 0 has no owner
  pub root_fresh : IsFreshBlock state.lives 0
  root_fresh = record { life = h.lives_sound.root.life; alive = h.lives_sound.root.alive; holds = h.lives_sound.root.unowned }

  -- what the newest state names, its bytes name
  pub root_lists : (c u : ℕ) → NamedIn T h.lives_sound.root.life.ty (newest h.lives_sound.root.life) (c, u) → Contains (owned_by_root (root_now state)) (c, u)
  root_lists c u n =
      let one : Contains (T.owned h.lives_sound.root.life.ty (root_now state)) (c, u) =
      subst (λ m. Contains (T.owned h.lives_sound.root.life.ty m) (c, u)) (sym (ap life_bytes h.lives_sound.root.alive)) (from_newest T state.lives 0 h.lives_sound.root.life kept_root (c, u) n) in
      subst (λ ps. Contains ps (c, u)) (h.built_ins.root_owns (root_now state)) (subst (λ t. Contains (T.owned t (root_now state)) (c, u)) h.lives_sound.root.ty one)

  pub never_zero : (c u : ℕ) → Contains (owned_by_root (root_now state)) (c, u) → c ≡ 0 → ⊥
  never_zero c u n z =
      let clash : Fresh ≡ Owned 0 = sym h.lives_sound.root.unowned ∙ of_life (root_owns c u n) h.lives_sound.root.life (ap (life_at state.lives) z ∙ h.lives_sound.root.alive) in
      absurd cc

  -- a block and its type fit a root slot
  pub small_life : (b : ℕ) (l : Life) → life_at state.lives b ≡ Some l → (b < 2 ^ 32) × (l.ty < 2 ^ 32)
  small_life b l alive =
      let lt : b < length state.lives = in_range T state h b l alive in
      let top : length state.lives ≤ most_blocks = h.size.1 in
      let low = h.built_ins.few l.ty (h.linked b l alive).installed in
      (omega arith, omega arith)

  module _ (fs : ℕ) (few : fs < 32) where
    -- what a slot names is of its file system
    slots_after : (p : ℕ × ℕ) → p.0 < 2 ^ 32 → p.1 < 2 ^ 32 → (p.0 ≢ 0 → IsInFileSystem state.lives (Some fs) p.0) → (i c : ℕ) → i < 32 → (slot (with_slot (root_now state) fs p) i).0 ≡ c → c ≢ 0 → IsInFileSystem state.lives (Some i) c
    slots_after p small small' own i c lt e ne = elim (cases_eq i fs) [
      | inl same ↦
          let at : p.0 ≡ c = ap (λ (x : ℕ × ℕ). x.0) (sym (slot_same (root_now state) fs p long few small small')) ∙ (ap (λ j. (slot (with_slot (root_now state) fs p) j).0) (sym same) ∙ e) in
          subst (λ j. IsInFileSystem state.lives (Some j) c) (sym same) (subst (IsInFileSystem state.lives (Some fs)) at (own (λ z. ne (sym at ∙ z))))
      | inr other ↦ h.lives_sound.root.slots kept_root.last i c in_states lt
          (ap (λ m. (slot m i).0) (sym newest_is) ∙ (ap (λ (x : ℕ × ℕ). x.0) (sym (slot_other (root_now state) fs p long few i other)) ∙ e)) ne
    ]

    -- the types that the newest state has
    now_has : (p : ℕ × ℕ) (u : ℕ) → has_type kept_root.last.bytes u ≡ true → has_type (with_slot (root_now state) fs p) u ≡ true
    now_has p u has = has_keeps kept_root.last.bytes (with_slot (root_now state) fs p) u
        (λ i lt ne. pointer_by_header (with_slot (root_now state) fs p) kept_root.last.bytes i lt (slot_header (root_now state) fs p long few ∙ ap header newest_is)) has

    types_after : (p : ℕ × ℕ) → p.0 < 2 ^ 32 → p.1 < 2 ^ 32 → (p.0 ≢ 0 → IsTrue (T.installed p.1)) → (c u : ℕ) → Contains (owned_by_root (with_slot (root_now state) fs p)) (c, u) → has_type (with_slot (root_now state) fs p) u ≡ true
    types_after p small small' own c u n = now_has p u (elim (slot_names (root_now state) fs p long few small small' c u n) [
      | inl new ↦
          let same : u ≡ p.1 = ap (λ (x : ℕ × ℕ). x.1) new.0 in
          let at : c ≡ p.0 = ap (λ (x : ℕ × ℕ). x.0) new.0 in
          h.lives_sound.root.all_types kept_root.last u kept_root.is_last (subst (λ t. IsTrue (T.installed t)) (sym same) (own (λ z. new.1 (at ∙ z))))
      | inr old ↦ h.lives_sound.root.types kept_root.last c u in_states (subst (λ m. Contains (owned_by_root m) (c, u)) newest_is old)
    ])

    -- a change of a slot changes no pointer
    same_pointers : (p : ℕ × ℕ) (i : ℕ) → i < 16 → pointer (with_slot (root_now state) fs p) i ≡ pointer (root_now state) i
    same_pointers p i lt = pointer_by_header (with_slot (root_now state) fs p) (root_now state) i lt (slot_header (root_now state) fs p long few)

    may_be_root : (p : ℕ × ℕ) (adds : List (ℕ × ℕ)) (drops : List ℕ) → p.0 < 2 ^ 32 → p.1 < 2 ^ 32 → (p.0 ≢ 0 → IsInFileSystem state.lives (Some fs) p.0) → (p.0 ≢ 0 → IsTrue (T.installed p.1)) → MayBeRoot T state.lives h.lives_sound.root (root_state state fs p adds drops)
    may_be_root p adds drops small small' own own_type = record {
      slots = slots_after p small small' own;
      mark = marked_by_header (length state.lives) (with_slot (root_now state) fs p) (root_now state) (slot_header (root_now state) fs p long few) ∙ mark;
      pointers = λ last e i lt ne. pointer_by_header (with_slot (root_now state) fs p) last.bytes i lt (slot_header (root_now state) fs p long few ∙ ap header (newest_is ∙ ap (λ (x : BlockState). x.bytes) (same_Some kept_root.last last (sym kept_root.is_last ∙ e))));
      types = types_after p small small' own_type;
      all_types = λ t i. now_has p t (h.lives_sound.root.all_types kept_root.last t kept_root.is_last i);
      long = slot_length (root_now state) fs p long few;
      templates = λ c u i. h.lives_sound.root.templates kept_root.last c u in_states
          (subst (λ ps. Contains ps (c, u)) (templates_by_header (with_slot (root_now state) fs p) kept_root.last.bytes (slot_header (root_now state) fs p long few ∙ ap header newest_is)) i);
    }

    -- what a root state names
    state_named : (p : ℕ × ℕ) (c u : ℕ) → Contains (T.owned h.lives_sound.root.life.ty (with_slot (root_now state) fs p)) (c, u) → Contains (owned_by_root (with_slot (root_now state) fs p)) (c, u)
    state_named p c u n = subst (λ ps. Contains ps (c, u)) (h.built_ins.root_owns (with_slot (root_now state) fs p)) (subst (λ t. Contains (T.owned t (with_slot (root_now state) fs p)) (c, u)) h.lives_sound.root.ty n)

    named_after : (p : ℕ × ℕ) (c u : ℕ) → Contains (owned_by_root (with_slot (root_now state) fs p)) (c, u) → Contains (T.owned h.lives_sound.root.life.ty (with_slot (root_now state) fs p)) (c, u)
    named_after p c u n = subst (λ t. Contains (T.owned t (with_slot (root_now state) fs p)) (c, u)) (sym h.lives_sound.root.ty) (subst (λ ps. Contains ps (c, u)) (sym (h.built_ins.root_owns (with_slot (root_now state) fs p))) n)

    make_may : (slot_now state fs).0 ≡ 0 → (b : ℕ) (l : Life) → life_at state.lives b ≡ Some l → l.status ≡ Fresh → b ≢ 0 → MayAccept T state.lives 0 h.lives_sound.root.life (root_state state fs (b, l.ty) ((b, l.ty) ∷ []) [])
    make_may vacant b l alive fresh ne =
        let small : b < 2 ^ 32 = (small_life b l alive).0 in
        let small' : l.ty < 2 ^ 32 = (small_life b l alive).1 in
        record {
          systems = λ c u ne' i. absurd (ne' refl);
          adds = λ c u i. elim (Contains-cons (b, l.ty) [] (c, u) i) [
            | inl e ↦ subst (λ (p : ℕ × ℕ). IsAddable state.lives p.0 p.1) e (record { life = l; alive = alive; holds = (refl, fresh, ne) })
            | inr none ↦ absurd (Contains-none (c, u) none)
          ];
          drops = λ c i. absurd (Contains-none c i);
          in_use = ap is_dropped h.lives_sound.root.unowned;
          editable = λ e. refl;
          names = λ c u n. elim (slot_names (root_now state) fs (b, l.ty) long few small small' c u (state_named (b, l.ty) c u n)) [
            | inl new ↦ inr (subst (λ p. Contains ((b, l.ty) ∷ []) p) (sym new.0) (Contains-head (b, l.ty) []))
            | inr old ↦ inl (root_named c u old, λ i. Contains-none c i)
          ];
          added = λ c u i. elim (Contains-cons (b, l.ty) [] (c, u) i) [
            | inl e ↦ (named_after (b, l.ty) c u (subst (λ p. Contains (owned_by_root (with_slot (root_now state) fs (b, l.ty))) p) e (slot_owned (root_now state) fs (b, l.ty) long few small small' ne)), λ z. ne (ap (λ (x : ℕ × ℕ). x.0) e ∙ z))
            | inr none ↦ absurd (Contains-none (c, u) none)
          ];
          given = λ n e. absurd (none-some n e);
          stays = λ c u n out. named_after (b, l.ty) c u (slot_stays (root_now state) fs (b, l.ty) long few small small' c u (root_lists c u n) (λ e.
              never_zero c u (root_lists c u n) (ap (λ (x : ℕ × ℕ). x.0) (sym e) ∙ vacant)));
          empty = λ c m p i e n. absurd (Contains-none c i);
          no_cycle = λ i. elim (Contains-cons b [] (chain_end state.lives 0) i) [
            | inl e ↦ ne (e ∙ ends_itself state.lives 0 root_fresh)
            | inr none ↦ Contains-none (chain_end state.lives 0) none
          ];
          fit = subst (λ t. IsTrue (fits T t (with_slot (root_now state) fs (b, l.ty)))) (sym h.lives_sound.root.ty)
              (slot_fits (root_now state) fs (b, l.ty) long few small small' T h.built_ins fit (λ z i.
              let u = blocks_of_at (owned_by_root (root_now state)) b i in
              let clash : Fresh ≡ Owned 0 = sym fresh ∙ of_life (root_owns b u.0 u.1) l alive in
              absurd cc));
        }

    pub make_root_keeps : (b entry : ℕ) (new : StoreState) → make_root_of state fs b ≡ Ok (entry, new) → Keeps T state new
    make_root_keeps b entry new done =
        let own = own_then state fs b (make_root_at state fs b) (entry, new) done in
        let l : Life = own.0 in
        let next = root_state state fs (b, l.ty) ((b, l.ty) ∷ []) [] in
        let u = unless_ok (
        (not ((slot_now state fs).0 == 0), RootTaken)
        ∷ (not (is_fresh l.status), NotFresh)
        ∷ (too_many state fs (life_pending (life_at state.lives 0)), TooManyPending)
        ∷ (exhausted state, Exhausted)
        ∷ []) (Ok (accepts state 0 next)) (entry, new) own.2 in
        subst (λ (x : ℕ × StoreState). Keeps T state x.1) (same_ok (accepts state 0 next) (entry, new) u.1)
        (accepts_keeps T state h 0 h.lives_sound.root.life next h.lives_sound.root.alive
        (make_may (eqb-true (slot_now state fs).0 0 (not-false ((slot_now state fs).0 == 0) u.0.0)) b l own.1.alive (fresh_from l.status (not-false (is_fresh l.status) u.0.1.0)) (not_root T state h fs b l own.1.alive own.1.mine)) refl
        (λ e. may_be_root (b, l.ty) ((b, l.ty) ∷ []) [] (small_life b l own.1.alive).0 (small_life b l own.1.alive).1 (λ ne. record { life = l; alive = own.1.alive; holds = own.1.mine }) (λ ne. (h.linked b l own.1.alive).installed)) (λ e. same_pointers (b, l.ty)))

    owned_slot : (slot_now state fs).0 ≢ 0 → Contains (owned_by_root (root_now state)) ((slot_now state fs).0, (slot_now state fs).1)
    unfolding owned_by_root
    owned_slot ne = Contains-append_right (templates_of (root_now state)) (roots_of (root_now state)) ((slot_now state fs).0, (slot_now state fs).1) (roots_from (root_now state) fs (slot_now state fs).0 (slot_now state fs).1 few refl ne)

    drop_may : (slot_now state fs).0 ≢ 0 → is_empty T state (slot_now state fs).0 ≡ true → MayAccept T state.lives 0 h.lives_sound.root.life (root_state state fs (0, 0) [] ((slot_now state fs).0 ∷ []))
    drop_may ne empty_slot =
        let d : ℕ = (slot_now state fs).0 in
        let zero_small : 0 < 2 ^ 32 = omega arith in
        record {
          systems = λ c u ne' i. absurd (ne' refl);
          adds = λ c u i. absurd (Contains-none (c, u) i);
          drops = λ c i. elim (Contains-cons d [] c i) [
            | inl e ↦ subst (IsOwnedBy state.lives 0) e (root_owns d (slot_now state fs).1 (owned_slot ne))
            | inr none ↦ absurd (Contains-none c none)
          ];
          in_use = ap is_dropped h.lives_sound.root.unowned;
          editable = λ e. refl;
          names = λ c u n. elim (slot_names (root_now state) fs (0, 0) long few zero_small zero_small c u (state_named (0, 0) c u n)) [
            | inl new ↦ absurd (new.1 (ap (λ (x : ℕ × ℕ). x.0) new.0))
            | inr old ↦ inl (
              root_named c u old,
              λ i. elim (Contains-cons d [] c i) [
                | inl e ↦ slot_drops (root_now state) fs (0, 0) long few zero_small zero_small T h.built_ins fit refl ne u
                    (subst (λ x. Contains (owned_by_root (with_slot (root_now state) fs (0, 0))) (x, u)) (sym e) (state_named (0, 0) c u n))
                | inr none ↦ Contains-none c none
              ],
            )
          ];
          added = λ c u i. absurd (Contains-none (c, u) i);
          no_cycle = λ i. Contains-none (chain_end state.lives 0) i;
          given = λ n e. absurd (none-some n e);
          stays = λ c u n out. named_after (0, 0) c u (slot_stays (root_now state) fs (0, 0) long few zero_small zero_small c u (root_lists c u n) (λ e.
              out (subst (λ x. Contains (d ∷ []) x) (ap (λ (x : ℕ × ℕ). x.0) e) (Contains-head d []))));
          empty = λ c m p i e n. elim (Contains-cons d [] c i) [
            | inl same ↦ dropped_empty T state c m p (subst (λ x. is_empty T state x ≡ true) same empty_slot) e n
            | inr none ↦ Contains-none c none
          ];
          fit = subst (λ t. IsTrue (fits T t (with_slot (root_now state) fs (0, 0)))) (sym h.lives_sound.root.ty)
              (slot_fits (root_now state) fs (0, 0) long few zero_small zero_small T h.built_ins fit (λ z i. z refl));
        }

    pub drop_root_keeps : (entry : ℕ) (new : StoreState) → drop_root_of T state fs ≡ Ok (entry, new) → Keeps T state new
    drop_root_keeps entry new done =
        let next = root_state state fs (0, 0) [] ((slot_now state fs).0 ∷ []) in
        let u = unless_ok (
        ((slot_now state fs).0 == 0, NotOwned)
        ∷ (not (is_empty T state (slot_now state fs).0), NotEmpty)
        ∷ (too_many state fs (life_pending (life_at state.lives 0)), TooManyPending)
        ∷ (exhausted state, Exhausted)
        ∷ []) (Ok (accepts state 0 next)) (entry, new) done in
        subst (λ (x : ℕ × StoreState). Keeps T state x.1) (same_ok (accepts state 0 next) (entry, new) u.1)
        (accepts_keeps T state h 0 h.lives_sound.root.life next h.lives_sound.root.alive
        (drop_may (eqb-false (slot_now state fs).0 0 u.0.0) (not-false (is_empty T state (slot_now state fs).0) u.0.1.0)) refl (λ e. may_be_root (0, 0) [] ((slot_now state fs).0 ∷ []) (omega arith) (omega arith) (λ ne. absurd (ne refl)) (λ ne. absurd (ne refl))) (λ e. same_pointers (0, 0)))
