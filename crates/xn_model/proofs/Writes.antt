-- A write settles: its states are durable.
use Rattle.std.proofs.Common.{◌≡◌, ℕ, ◌≤◌, Bool, true, false, List, [], ◌∷◌, ◌++◌, length, take, Option, Some, None, refl, sym, ◌∙◌, ap, inl, inr, arith, subst, eqb}
use Rattle.std.specs.Prelude.{Contains, option_to_list}
use Rattle.std.specs.List.{last_or}
use Rattle.std.proofs.lemmas.Bool.{cases_eq}
use Rattle.std.proofs.lemmas.Option.{same_Some, none-some}
use Rattle.std.proofs.lemmas.List.{length-take}
use Rattle.std.proofs.lemmas.List.Elements.{Contains-append_cases}
use Rattle.xn_model.specs.Types.{Types}
use Rattle.xn_model.specs.Lives.{BlockState, Life, Lives, life_at, states, carried, first_states, bytes_of, StoreState}
use Rattle.xn_model.specs.Images.{IsDiskSize}
use Rattle.xn_model.specs.Calls.{bytes_at}
use Rattle.xn_model.specs.Rules.{ArePlaced, IsRootLife, IsSoundLife, IsLinkedLife, IsHeldOnDisk, IsConsistent, NamedIn, IsCount, IsOwnedBy}
use Rattle.xn_model.proofs.Changes.{each, settled}
use Rattle.xn_model.proofs.Lists.{Contains-none, Contains-cons, Contains-drop, last_of}
use Rattle.xn_model.proofs.Lives.{each_forth, each_back}
use Rattle.xn_model.proofs.Carry.{still_some, some_state, Carries, held_still, kept_still, root_still, carries_settled, owned_settled, settled_other, settled_same, settled_if, settled_fewer, settled_rises, settled_start, settled_grows, settled_stays, settled_last, root_pointers}
use Rattle.xn_model.proofs.Statuses.{exact_each, settled_newest}
use Rattle.xn_model.proofs.Chains.{chains_each}
use Rattle.xn_model.proofs.Orders.{ordered_settle}
use Rattle.xn_model.proofs.Queue.{queued_each, settled_shrinks, settled_older}
use Rattle.xn_model.proofs.Reached.{carried_pending}

-- The begun state

last_some : (xs : List BlockState) → 1 ≤ length xs → (t : BlockState) × (last_or None xs ≡ Some t)
last_some [] e = absurd (omega arith)
last_some (x ∷ xs) e = still_some (Some x) x xs refl

pub begun_last : (l : Life) (k : ℕ) → IsCount l.begun (length l.pending) → l.begun ≡ Some k → (t : BlockState) × (last_or None (carried l) ≡ Some t)
begun_last l k count e =
    let bounds : IsCount (Some k) (length l.pending) = subst (λ o. IsCount o (length l.pending)) e count in
    let r = last_some (take k l.pending) (let lo : 1 ≤ k = bounds.0 in let hi : k ≤ length l.pending = bounds.1 in rw length-take (omega arith)) in
    (r.0, ap (λ o. last_or None (first_states o l.pending)) e ∙ r.1)

-- The begun states settle

held_settled : (T : Types) (old new : Lives) (b k : ℕ) (l : Life) → Carries T old new → l.begun ≡ Some k → IsSoundLife T old b l → IsSoundLife T new b (settled_if true k l)
held_settled T old new b k l c begun h = record {
  fit = λ s m. h.fit s (settled_fewer l.durable k l.pending s m);
  named = λ s x u m n. c.belongs b x u (h.named s x u (settled_fewer l.durable k l.pending s m) n);
  same_system = λ s x u ne m n. c.system l.fs x (h.same_system s x u ne (settled_fewer l.durable k l.pending s m) n);
  ready = λ s x u m n. c.disk x (h.ready s x u (among s m) n);
  typed = λ s x u ne m n. c.types u (h.typed s x u ne (among s m) n);
  rising = settled_rises l.durable k l.pending h.rising;
}
  where
    durable_among : (o : Option BlockState) (s : BlockState) → last_or l.durable (take k l.pending) ≡ o → Contains (option_to_list o) s → Contains (option_to_list l.durable ++ take k l.pending) s
    durable_among None s e m = absurd (Contains-none s m)
    durable_among (Some t) s e m = elim (Contains-cons t [] s m) [ inl same ↦ last_of l.durable (take k l.pending) s (e ∙ ap Some same) | inr none ↦ absurd (Contains-none s none) ]

    among : (s : BlockState) → Contains (option_to_list (last_or l.durable (take k l.pending)) ++ []) s → Contains (option_to_list l.durable ++ carried l) s
    among s m = elim (Contains-append_cases (option_to_list (last_or l.durable (take k l.pending))) [] s m) [
      | inl d ↦ let P : Option ℕ → Type 0 = λ o. Contains (option_to_list l.durable ++ first_states o l.pending) s in subst P (sym begun) (durable_among (last_or l.durable (take k l.pending)) s refl d)
      | inr none ↦ absurd (Contains-none s none)
    ]

kept_settled : (T : Types) (old new : Lives) (b k : ℕ) (l : Life) → Carries T old new → ((c : ℕ) → IsOwnedBy old b c → IsOwnedBy new b c) → IsLinkedLife T old b l → IsLinkedLife T new b (settled_if true k l)
kept_settled T old new b k l c own h = record {
  last = h.last;
  is_last = settled_last l.durable k l.pending ∙ h.is_last;
  owned = λ x u n. own x (h.owned x u (subst (λ o. NamedIn T l.ty o (x, u)) (settled_last l.durable k l.pending) n));
  installed = h.installed;
  root_alone = h.root_alone;
  start = settled_start l.durable k l.pending h.start;
  grows = settled_grows T l.ty l.durable k l.pending h.grows;
  dropped = λ s x m n. c.dropped b x (h.dropped s x (Contains-drop k l.pending s m) n);
  gone = settled_stays T l.ty k l.pending h.gone;
  flight = tt;
  resting = λ s x m n. absurd (Contains-none s m);
}

pub states_fewer : (t : Bool) (k : ℕ) (l : Life) (s : BlockState) → Contains (states (settled_if t k l)) s → Contains (states l) s
states_fewer true k l s m = settled_fewer l.durable k l.pending s m
states_fewer false k l s m = m

module _ (T : Types) (state : StoreState) (h : IsConsistent T state) (b : ℕ) (l : Life) (alive : life_at state.lives b ≡ Some l) (k : ℕ) (begun : l.begun ≡ Some k) where
  now : Lives
  now = each (settled b k) state.lives

  carries : Carries T state.lives now
  unfolding now
  carries = carries_settled T b k state.lives h.lives_sound.root

  root_settled : IsRootLife T now
  unfolding now
  root_settled =
      let r = h.lives_sound.root in
      let d = some_state (eqb 0 b) k r.life r.state r.durable in
      root_still T state.lives now carries r (settled b k 0 r.life) d.0 (each_forth (settled b k) state.lives 0 r.life r.alive) r.ty r.nobody r.unowned d.1 (λ t m. states_fewer (eqb 0 b) k r.life t m)
      (root_pointers (eqb 0 b) k r.life r.pointers) (settled_newest b k 0 r.life).newest

  same_life : (c : ℕ) (m : Life) → life_at state.lives c ≡ Some m → c ≡ b → l ≡ m
  same_life c m e same = same_Some l m (sym alive ∙ (ap (life_at state.lives) (sym same) ∙ e))

  held_at : (c : ℕ) (m : Life) → life_at state.lives c ≡ Some m → IsSoundLife T now c (settled b k c m)
  unfolding now
  held_at c m e = elim (cases_eq c b) [
    | inl same ↦ subst (IsSoundLife T now c) (sym (settled_same b k c m same))
        (held_settled T state.lives now c k m carries (ap (λ (x : Life). x.begun) (sym (same_life c m e same)) ∙ begun) (h.lives_sound.each c m e))
    | inr other ↦ subst (IsSoundLife T now c) (sym (settled_other b k c m other)) (held_still T state.lives now c m m.status carries (h.lives_sound.each c m e))
  ]

  kept_at : (c : ℕ) (m : Life) → life_at state.lives c ≡ Some m → IsLinkedLife T now c (settled b k c m)
  unfolding now
  kept_at c m e = elim (cases_eq c b) [
    | inl same ↦ subst (IsLinkedLife T now c) (sym (settled_same b k c m same)) (kept_settled T state.lives now c k m carries (owned_settled b k state.lives c) (h.linked c m e))
    | inr other ↦ subst (IsLinkedLife T now c) (sym (settled_other b k c m other)) (kept_still T state.lives now c m m.status carries (owned_settled b k state.lives c) (carried_pending m) (h.linked c m e))
  ]

  -- the bytes on the disk are those of the state that settled
  last_settled : (o : Option BlockState) (xs : List BlockState) (t s : BlockState) → last_or None xs ≡ Some t → last_or o xs ≡ Some s → t ≡ s
  last_settled o [] t s e f = absurd (none-some t e)
  last_settled o (x ∷ xs) t s e f = same_Some t s (sym e ∙ f)

  pub settles_places : (content : ℕ → List ℕ) → ArePlaced content state.lives → content b ≡ bytes_at k l → ArePlaced content (each (settled b k) state.lives)
  settles_places content placed landed c m s e d =
      let r = each_back (settled b k) state.lives c m e in
      let was : (settled b k c r.0).durable ≡ Some s = ap (λ (x : Life). x.durable) (sym r.2) ∙ d in
      subst (λ x. IsHeldOnDisk content c x s) (sym r.2) (elim (cases_eq c b) [
        | inl same ↦
            let to_l : settled b k c r.0 ≡ settled_if true k l = settled_same b k c r.0 same ∙ ap (settled_if true k) (sym (same_life c r.0 r.1 same)) in
            inl (ap content same ∙ placed_here s (ap (λ (x : Life). x.durable) (sym to_l) ∙ was))
        | inr other ↦
            let to_m : settled b k c r.0 ≡ r.0 = settled_other b k c r.0 other in
            subst (λ x. IsHeldOnDisk content c x s) (sym to_m) (placed c r.0 s r.1 (ap (λ (x : Life). x.durable) (sym to_m) ∙ was))
      ])
    where
      placed_here : (s : BlockState) → last_or l.durable (take k l.pending) ≡ Some s → content b ≡ s.bytes
      placed_here s e =
          let t = begun_last l k (h.linked b l alive).flight begun in
          let last : last_or None (take k l.pending) ≡ Some t.0 = ap (λ o. last_or None (first_states o l.pending)) (sym begun) ∙ t.1 in
          let same : t.0 ≡ s = last_settled l.durable (take k l.pending) t.0 s last e in
          landed ∙ (ap bytes_of last ∙ ap (λ (x : BlockState). x.bytes) same)

  pub settles : IsConsistent T (record state { lives = each (settled b k) state.lives })
  unfolding now
  settles = record {
    waits = queued_each T state.lives (settled b k) (λ c x e. settled_shrinks b k (let bounds : IsCount (Some k) (length l.pending) = subst (λ o. IsCount o (length l.pending)) begun (h.linked b l alive).flight in bounds.0) c x) (settled_older T b k state.lives h.lives_sound.root) h.waits;
    order = ordered_settle state.lives b k h.order;
    statuses = exact_each T state.lives (settled b k) (settled_newest b k) h.statuses;
    chains = chains_each state.lives (settled b k) (λ c x. refl) h.chains;
    built_ins = h.built_ins;
    size = subst IsDiskSize (sym carries.count) h.size;
    lives_sound = record { root = root_settled; each = λ c m e. let r = each_back (settled b k) state.lives c m e in subst (IsSoundLife T now c) (sym r.2) (held_at c r.0 r.1) };
    linked = λ c m e. let r = each_back (settled b k) state.lives c m e in subst (IsLinkedLife T now c) (sym r.2) (kept_at c r.0 r.1);
    numbers = λ c m s e i. let r = each_back (settled b k) state.lives c m e in h.numbers c r.0 s r.1 (states_fewer (eqb c b) k r.0 s (subst (λ x. Contains (states x) s) r.2 i));
  }
