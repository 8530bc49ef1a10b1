-- A write begins, or is given up.
use Rattle.std.proofs.Common.{◌≡◌, ◌≢◌, ℕ, ◌≤◌, true, List, [], ◌∷◌, length, Option, Some, None, refl, sym, ◌∙◌, ap, inl, inr, subst}
use Rattle.std.specs.Prelude.{Contains, is_some, option_to_list, ◌==◌, Ok, slice_get, option_map}
use Rattle.std.specs.List.{last_or}
use Rattle.std.proofs.lemmas.Bool.{cases_eq, eqb-false}
use Rattle.std.proofs.lemmas.Option.{same_Some}
use Rattle.std.proofs.lemmas.List.Elements.{Contains-append_cases, Contains-append_left}
use Rattle.xn_model.specs.Types.{Types}
use Rattle.xn_model.specs.Lives.{StoreState, begun_at, BlockState, Life, Lives, life_at, states, carried, first_states, prefix_of, safe_count, root_on_disk}
use Rattle.xn_model.specs.Root.{has_type}
use Rattle.xn_model.specs.Images.{IsDiskSize}
use Rattle.xn_model.specs.Results.{NoSuchBlock, NotInUse, InFlight, NothingSafe}
use Rattle.xn_model.specs.Calls.{begun_of, begun_place, bytes_at, types_of, latest}
use Rattle.xn_model.specs.Rules.{Keeps, ArePlaced, IsAtRest, IsOnDisk, IsRootLife, IsSoundLife, IsLinkedLife, IsHeldOnDisk, IsConsistent, NamedIn, IsCount, IsOwnedBy}
use Rattle.xn_model.proofs.Changes.{each, with_begun}
use Rattle.xn_model.proofs.Lists.{Contains-none, Contains-take, last_is_in}
use Rattle.xn_model.proofs.Lives.{each_forth, each_back, of_root, length_revised, begun_is, life_from}
use Rattle.xn_model.proofs.Catalogue.{on_disk_each}
use Rattle.xn_model.proofs.Carry.{Carries, types_still, held_still, kept_still, root_still, carries_begun, owned_begun, with_begun_other, with_begun_same, begun_if}
use Rattle.xn_model.proofs.Chains.{chains_each}
use Rattle.xn_model.proofs.Orders.{CarriesAfters, prefix_carries, ordered_begun}
use Rattle.xn_model.proofs.Queue.{queued_each, begun_shrinks, begun_types}
use Rattle.xn_model.proofs.Languages.{types_all, latest_each}
use Rattle.xn_model.proofs.Statuses.{exact_each, begun_same}
use Rattle.xn_model.proofs.Tests.{none_from, prefix_safe, prefix_ready, prefix_typed, safe_count_within, safe_drops, unless_ok, never_ok, same_ok, map_ok}
use Rattle.xn_model.proofs.Reached.{carried_pending, durable_in, positive}

-- A begun write, or none, of which all is known that is to hold
pub record MayCarry (T : Types) (lives : Lives) (l : Life) (k : Option ℕ) : Type 0 where
  pub count : IsCount k (length l.pending)
  pub ready : (s : BlockState) (c u : ℕ) → Contains (first_states k l.pending) s → Contains (T.owned l.ty s.bytes) (c, u) → IsOnDisk lives c
  pub typed : (s : BlockState) (c u : ℕ) → (l.ty ≡ 0 → ⊥) → Contains (first_states k l.pending) s → Contains (T.owned l.ty s.bytes) (c, u) → has_type (root_on_disk lives) u ≡ true
  pub resting : (s : BlockState) (c : ℕ) → Contains (first_states k l.pending) s → Contains s.drops c → IsAtRest lives c
  pub pending : (s : BlockState) → Contains (first_states k l.pending) s → Contains l.pending s

-- A life with such a write
held_begun : (T : Types) (old new : Lives) (b : ℕ) (l : Life) (k : Option ℕ) → (b ≢ 0 → l.ty ≡ 0 → ⊥) → Carries T old new → MayCarry T old l k → IsSoundLife T old b l → IsSoundLife T new b (begun_if true k l)
held_begun T old new b l k apart c may h = record {
  fit = h.fit;
  named = λ s x u m n. c.belongs b x u (h.named s x u m n);
  same_system = λ s x u ne m n. c.system l.fs x (h.same_system s x u ne m n);
  ready = λ s x u m n. c.disk x (elim (Contains-append_cases (option_to_list l.durable) (first_states k l.pending) s m) [
    | inl d ↦ h.ready s x u (Contains-append_left (option_to_list l.durable) (carried l) s d) n
    | inr i ↦ may.ready s x u i n
  ]);
  typed = λ s x u ne m n. c.types u (elim (Contains-append_cases (option_to_list l.durable) (first_states k l.pending) s m) [
    | inl d ↦ h.typed s x u ne (Contains-append_left (option_to_list l.durable) (carried l) s d) n
    | inr i ↦ may.typed s x u (apart ne) i n
  ]);
  rising = h.rising;
}

kept_begun : (T : Types) (old new : Lives) (b : ℕ) (l : Life) (k : Option ℕ) → Carries T old new → ((c : ℕ) → IsOwnedBy old b c → IsOwnedBy new b c) → MayCarry T old l k → IsLinkedLife T old b l → IsLinkedLife T new b (begun_if true k l)
kept_begun T old new b l k c own may h = record {
  last = h.last;
  is_last = h.is_last;
  owned = λ x u n. own x (h.owned x u n);
  installed = h.installed;
  root_alone = h.root_alone;
  start = h.start;
  grows = h.grows;
  dropped = λ s x m n. c.dropped b x (h.dropped s x m n);
  gone = h.gone;
  flight = may.count;
  resting = λ s x m n. c.resting b x (h.dropped s x (may.pending s m) n) (may.resting s x m n);
}

module _ (T : Types) (state : StoreState) (h : IsConsistent T state) (b : ℕ) (l : Life) (alive : life_at state.lives b ≡ Some l) (k : Option ℕ) (may : MayCarry T state.lives l k) where
  now : Lives
  now = each (with_begun b k) state.lives

  root_now : IsRootLife T now
  unfolding now
  root_now =
      let r = h.lives_sound.root in
      root_still T state.lives now (carries_begun T b k state.lives) r (with_begun b k 0 r.life) r.state (each_forth (with_begun b k) state.lives 0 r.life r.alive) r.ty r.nobody r.unowned r.durable (λ t m. m) r.pointers refl

  -- which life it was
  same_life : (c : ℕ) (m : Life) → life_at state.lives c ≡ Some m → c ≡ b → l ≡ m
  same_life c m e same = same_Some l m (sym alive ∙ (ap (life_at state.lives) (sym same) ∙ e))

  held_at : (c : ℕ) (m : Life) → life_at state.lives c ≡ Some m → IsSoundLife T now c (with_begun b k c m)
  unfolding now
  held_at c m e = elim (cases_eq c b) [
    | inl same ↦ subst (IsSoundLife T now c) (sym (with_begun_same b k c m same))
        (held_begun T state.lives now c m k (λ ne z. ne ((h.linked c m e).root_alone z)) (carries_begun T b k state.lives) (subst (λ x. MayCarry T state.lives x k) (same_life c m e same) may) (h.lives_sound.each c m e))
    | inr other ↦ subst (IsSoundLife T now c) (sym (with_begun_other b k c m other)) (held_still T state.lives now c m m.status (carries_begun T b k state.lives) (h.lives_sound.each c m e))
  ]

  kept_at : (c : ℕ) (m : Life) → life_at state.lives c ≡ Some m → IsLinkedLife T now c (with_begun b k c m)
  unfolding now
  kept_at c m e = elim (cases_eq c b) [
    | inl same ↦ subst (IsLinkedLife T now c) (sym (with_begun_same b k c m same))
        (kept_begun T state.lives now c m k (carries_begun T b k state.lives) (owned_begun b k state.lives c) (subst (λ x. MayCarry T state.lives x k) (same_life c m e same) may) (h.linked c m e))
    | inr other ↦ subst (IsLinkedLife T now c) (sym (with_begun_other b k c m other)) (kept_still T state.lives now c m m.status (carries_begun T b k state.lives) (owned_begun b k state.lives c) (carried_pending m) (h.linked c m e))
  ]

  pub carries_places : (content : ℕ → List ℕ) → ArePlaced content state.lives → ((s : BlockState) → l.durable ≡ Some s → content b ≡ s.bytes) → ArePlaced content (each (with_begun b k) state.lives)
  carries_places content placed stands c m s e d =
      let r = each_back (with_begun b k) state.lives c m e in
      let before : r.0.durable ≡ Some s = ap (λ (x : Life). x.durable) (sym r.2) ∙ d in
      subst (λ x. IsHeldOnDisk content c x s) (sym r.2) (elim (cases_eq c b) [
        | inl same ↦ inl (ap content same ∙ stands s (ap (λ (x : Life). x.durable) (same_life c r.0 r.1 same) ∙ before))
        | inr other ↦ subst (λ x. IsHeldOnDisk content c x s) (sym (with_begun_other b k c r.0 other)) (placed c r.0 s r.1 before)
      ])

  pub carries_on : CarriesAfters state.lives b l k → IsConsistent T (record state { lives = each (with_begun b k) state.lives })
  unfolding now
  carries_on afters = record {
    order = ordered_begun state.lives b l k alive afters h.order;
    waits = queued_each T state.lives (with_begun b k) (λ c x e. begun_shrinks b k c x) (begun_types b k state.lives) h.waits;
    statuses = exact_each T state.lives (with_begun b k) (begun_same b k) h.statuses;
    chains = chains_each state.lives (with_begun b k) (λ c x. refl) h.chains;
    built_ins = h.built_ins;
    size = subst IsDiskSize (sym (carries_begun T b k state.lives).count) h.size;
    lives_sound = record { root = root_now; each = λ c m e. let r = each_back (with_begun b k) state.lives c m e in subst (IsSoundLife T now c) (sym r.2) (held_at c r.0 r.1) };
    linked = λ c m e. let r = each_back (with_begun b k) state.lives c m e in subst (IsLinkedLife T now c) (sym r.2) (kept_at c r.0 r.1);
    numbers = λ c m s e i. let r = each_back (with_begun b k) state.lives c m e in h.numbers c r.0 s r.1 (subst (λ x. Contains (states x) s) r.2 i);
  }

-- the newest bytes are the same
pub begun_latest : (b : ℕ) (k : Option ℕ) (lives : Lives) (c : ℕ) → latest (each (with_begun b k) lives) c ≡ latest lives c
begun_latest b k lives c = latest_each (with_begun b k) lives c (λ l e. refl)

-- The safe prefix may be carried
may_begin : (T : Types) (lives : Lives) (b : ℕ) (l : Life) → (b ≡ 0 → l.ty ≡ 0) → IsSoundLife T lives b l → IsLinkedLife T lives b l → 1 ≤ safe_count lives l.ty [] l.pending → MayCarry T lives l (Some (safe_count lives l.ty [] l.pending))
may_begin T lives b l root_type h k some = record {
  count = (some, safe_count_within lives l.ty [] l.pending);
  ready = prefix_ready T lives l.ty l.durable [] l.pending k.grows (λ c u n. from_durable l.durable refl c u n);
  typed = λ s c u ne m n. prefix_typed T lives l.ty l.durable [] l.pending ne k.grows (λ c u n. types_durable (λ z. ne (root_type z)) l.durable refl c u n) s c u m n;
  resting = λ s c m n. let r = prefix_safe lives l.ty [] l.pending s m in safe_drops lives l.ty r.0 s c r.1 n;
  pending = λ s m. Contains-take (safe_count lives l.ty [] l.pending) l.pending s m;
}
  where
    from_durable : (o : Option BlockState) → l.durable ≡ o → (c u : ℕ) → NamedIn T l.ty o (c, u) → IsOnDisk lives c
    from_durable None e c u n = absurd n
    from_durable (Some s) e c u n = h.ready s c u (durable_in l s e) n

    types_durable : (b ≢ 0) → (o : Option BlockState) → l.durable ≡ o → (c u : ℕ) → NamedIn T l.ty o (c, u) → has_type (root_on_disk lives) u ≡ true
    types_durable ne None e c u n = absurd n
    types_durable ne (Some s) e c u n = h.typed s c u ne (durable_in l s e) n

no_write : (T : Types) (lives : Lives) (l : Life) → MayCarry T lives l None
no_write T lives l = record {
  count = tt;
  ready = λ s c u m n. absurd (Contains-none s m);
  typed = λ s c u ne m n. absurd (Contains-none s m);
  resting = λ s c m n. absurd (Contains-none s m);
  pending = λ s m. absurd (Contains-none s m);
}

-- with no write begun the disk holds the durable state
idle_settled : (content : ℕ → List ℕ) (lives : Lives) → ArePlaced content lives → (b : ℕ) (l : Life) → life_at lives b ≡ Some l → l.begun ≡ None → (s : BlockState) → l.durable ≡ Some s → content b ≡ s.bytes
idle_settled content lives placed b l alive none s d = elim (placed b l s alive d) [
  | inl e ↦ e
  | inr f ↦ absurd (Contains-none f.0 (last_is_in [] f.0 (ap (λ k. last_or None (first_states k l.pending)) (sym none) ∙ f.1)))
]

-- what begins
pub record Begins (T : Types) (state : StoreState) (b : ℕ) (given : List ℕ × ℕ) : Type 0 where
  pub life : Life
  pub alive : life_at state.lives b ≡ Some life
  pub idle : life.begun ≡ None
  pub some : 1 ≤ given.1
  pub count : given.1 ≡ safe_count state.lives life.ty [] life.pending

begun_from : (T : Types) (state : StoreState) (b : ℕ) (o : Option (Option Life)) (given : List ℕ × ℕ) → slice_get state.lives b ≡ o → begun_place state.lives o ≡ Ok given → Begins T state b given
begun_from T state b None given at e = absurd (never_ok NoSuchBlock given e)
begun_from T state b (Some None) given at e = absurd (never_ok NotInUse given e)
begun_from T state b (Some (Some l)) given at e =
    let k = prefix_of state.lives (Some l) in
    let u = unless_ok ((is_some l.begun, InFlight) ∷ (k == 0, NothingSafe) ∷ []) (Ok (bytes_at k l, k)) given e in
    let same : k ≡ given.1 = ap (λ (x : List ℕ × ℕ). x.1) (same_ok (bytes_at k l, k) given u.1) in
    record {
      life = l;
      alive = life_from state.lives b l at;
      idle = none_from l.begun u.0.0;
      some = subst (λ n. 1 ≤ n) same (positive k (eqb-false k 0 u.0.1.0));
      count = sym same;
    }

-- block 0 is of type 0
root_typed : (T : Types) (state : StoreState) → IsConsistent T state → (b : ℕ) (l : Life) → life_at state.lives b ≡ Some l → b ≡ 0 → l.ty ≡ 0
root_typed T state h b l e z = (of_root h.lives_sound.root l (ap (life_at state.lives) (sym z) ∙ e)).0

pub begun_keeps : (T : Types) (state : StoreState) → IsConsistent T state → (b : ℕ) (given : List ℕ × ℕ) (new : StoreState) → begun_of state b ≡ Ok (given, new) → Keeps T state new
begun_keeps T state h b given new e =
    let m = map_ok (λ (x : List ℕ × ℕ). (x, record state { lives = begun_at state.lives b x.1 })) (begun_place state.lives (slice_get state.lives b)) (given, new) e in
    let same : m.0 ≡ given = ap (λ (x : (List ℕ × ℕ) × StoreState). x.0) m.2 in
    let is : record state { lives = begun_at state.lives b m.0.1 } ≡ new = ap (λ (x : (List ℕ × ℕ) × StoreState). x.1) m.2 in
    let r = begun_from T state b (slice_get state.lives b) m.0 refl m.1 in
    let may : MayCarry T state.lives r.life (Some m.0.1) = subst (λ n. MayCarry T state.lives r.life (Some n)) (sym r.count)
    (may_begin T state.lives b r.life (root_typed T state h b r.life r.alive) (h.lives_sound.each b r.life r.alive) (h.linked b r.life r.alive) (subst (λ n. 1 ≤ n) r.count r.some)) in
    subst (Keeps T state) is (record {
      consistent = subst (λ xs. IsConsistent T (record state { lives = xs })) (sym (begun_is state.lives b m.0.1)) (carries_on T state h b r.life r.alive (Some m.0.1) may
          (subst (λ n. CarriesAfters state.lives b r.life (Some n)) (sym r.count) (prefix_carries state.lives b r.life h.order r.alive)));
      types = λ L. ap (types_of L) (begun_is state.lives b m.0.1) ∙ types_all state.lives (each (with_begun b (Some m.0.1)) state.lives) (begun_latest b (Some m.0.1) state.lives) L;
      there = types_still state.lives (begun_at state.lives b m.0.1) (ap root_on_disk (begun_is state.lives b m.0.1) ∙ on_disk_each (with_begun b (Some m.0.1)) state.lives (λ l. refl));
      count = ap length (begun_is state.lives b m.0.1) ∙ length_revised (λ c o. option_map (with_begun b (Some m.0.1) c) o) state.lives;
      placed = λ content p. subst (ArePlaced content) (sym (begun_is state.lives b m.0.1))
          (carries_places T state h b r.life r.alive (Some m.0.1) may content p (idle_settled content state.lives p b r.life r.alive r.idle));
    })

-- A write that is not on the disk is given up
pub given_up_consistent : (T : Types) (state : StoreState) → IsConsistent T state → (b : ℕ) (l : Life) → life_at state.lives b ≡ Some l → IsConsistent T (record state { lives = each (with_begun b None) state.lives })
given_up_consistent T state h b l e = carries_on T state h b l e None (no_write T state.lives l) (λ s n c m t i a f j at. absurd (Contains-none s i))

pub given_up_placed : (T : Types) (state : StoreState) (h : IsConsistent T state) (b : ℕ) (l : Life) (e : life_at state.lives b ≡ Some l) (content : ℕ → List ℕ) → ArePlaced content state.lives →
    ((s : BlockState) → l.durable ≡ Some s → content b ≡ s.bytes) → ArePlaced content (each (with_begun b None) state.lives)
given_up_placed T state h b l e content p stands = carries_places T state h b l e None (no_write T state.lives l) content p stands

pub begun_alive : (lives : Lives) (b : ℕ) (o : Option (Option Life)) (given : List ℕ × ℕ) → slice_get lives b ≡ o → begun_place lives o ≡ Ok given → (l : Life) × (life_at lives b ≡ Some l)
begun_alive lives b None given at e = absurd (never_ok NoSuchBlock given e)
begun_alive lives b (Some None) given at e = absurd (never_ok NotInUse given e)
begun_alive lives b (Some (Some l)) given at e = (l, life_from lives b l at)
