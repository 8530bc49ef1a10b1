-- Blocks that stay attached, through every step that drops none of them.
use Rattle.std.proofs.Common.{◌≡◌, ◌⊎◌, ℕ, ◌<◌, List, [], ◌∷◌, length, Option, Some, None, refl, sym, ◌∙◌, ap, inl, inr, subst}
use Rattle.std.specs.Prelude.{Contains}
use Rattle.std.specs.List.{last_or}
use Rattle.std.proofs.lemmas.Option.{none-some, same_Some}
use Rattle.xn_model.specs.Images.{block_of, Reach, root, step}
use Rattle.xn_model.specs.Lives.{BlockState, Life, life_at, bytes_of, newest, current, durable_after}
use Rattle.xn_model.specs.Worlds.{World, types_now, types_on, Event, Client, Install, Begin, Land, Fail, Sync, FailSync, Finish, Crash, Reply, MayLeave, left, Step, IsEvent}
use Rattle.xn_model.specs.Rules.{Holds, IsOwnedBy, NamedIn}
use Rattle.xn_model.proofs.ForCallers.{Contains-head, Contains-tail, last_of, in_range, in_newest, left_may, left_installed, left_owned, step_keeps}
use Rattle.xn_history.specs.Histories.{History, Histories, last_told, since, newest_bytes, type_in, edited_block, dropped_blocks, histories_after}
use Rattle.xn_history.specs.Moments.{IsHistoryOf, AreHistoriesOf}
use Rattle.xn_history.specs.Promises.{StaysTold, Names, IsNamedChain, Spares}
use Rattle.xn_history.proofs.Turns.{matched, living, bare_last, current_is}
use Rattle.xn_history.proofs.Mounts.{reached_finds}
use Rattle.xn_history.proofs.Moments.{crash_lives, goes, turn_at, types_stay}

-- a history has a newest state where its life has one
newest_state : (l : Life) (x : History) → IsHistoryOf l x → (last : BlockState) → newest l ≡ Some last → (s : BlockState) × (last_or (last_told x) x.untold ≡ Some s)
newest_state l x of last e = go (last_or (last_told x) x.untold) refl
  where
    same : durable_after (last_or (last_told x) x.untold) ≡ durable_after (newest l)
    same = sym (bare_last (last_told x) x.untold) ∙ (λ i. durable_after (last_or (of.told i) (of.untold i)))

    go : (o : Option BlockState) → last_or (last_told x) x.untold ≡ o → (s : BlockState) × (last_or (last_told x) x.untold ≡ Some s)
    go None f = absurd (none-some _ (ap durable_after (sym f) ∙ (same ∙ ap durable_after e)))
    go (Some s) f = (s, f)

module _ (w : World) (h : Holds w) (hs : Histories) (known : AreHistoriesOf w.state.lives hs) where
  -- what a block names, its newest bytes name
  named_now : (a c : ℕ) (n : Names (types_now w) hs a c) → Contains ((types_now w).owned n.history.ty (newest_bytes n.history)) (c, type_in (hs c))
  named_now a c n =
      let l = living (life_at w.state.lives a) (hs a) (known a) n.history n.known in
      let linked = h.state.linked a l.0 l.1 in
      let s = newest_state l.0 n.history l.2 linked.last linked.is_last in
      subst (λ m. Contains ((types_now w).owned n.history.ty m) (c, type_in (hs c))) (sym (ap bytes_of s.1)) (n.names s.0 (last_of (last_told n.history) n.history.untold s.0 s.1))

  -- and its newest state
  pub named_newest : (a c : ℕ) (n : Names (types_now w) hs a c) (l : Life) → life_at w.state.lives a ≡ Some l → NamedIn (types_now w) l.ty (newest l) (c, type_in (hs c))
  named_newest a c n l alive =
      let k = living (life_at w.state.lives a) (hs a) (known a) n.history n.known in
      let same : k.0 ≡ l = same_Some k.0 l (sym k.1 ∙ alive) in
      let linked = h.state.linked a k.0 k.1 in
      let here : Contains ((types_now w).owned k.0.ty (current k.0)) (c, type_in (hs c)) =
      subst (λ t. Contains ((types_now w).owned t (current k.0)) (c, type_in (hs c))) k.2.ty (subst (λ m. Contains ((types_now w).owned n.history.ty m) (c, type_in (hs c))) (sym (current_is k.0 n.history k.2)) (named_now a c n)) in
      subst (λ (z : Life). NamedIn (types_now w) z.ty (newest z) (c, type_in (hs c))) same (in_newest (types_now w) w.state.lives a k.0 linked (c, type_in (hs c)) here)

  -- so it is the owner
  pub owned_by : (a c : ℕ) → Names (types_now w) hs a c → IsOwnedBy w.state.lives a c
  owned_by a c n =
      let l = living (life_at w.state.lives a) (hs a) (known a) n.history n.known in
      (h.state.linked a l.0 l.1).owned c (type_in (hs c)) (named_newest a c n l.0 l.1)

  -- an owned block that is reached goes on
  owned_goes : (e : Event) (r : Reply) (w' : World) → IsEvent e → Step w e r w' → (c a u : ℕ) → IsOwnedBy w.state.lives a c → ((image : List (List ℕ)) → MayLeave w image → Reach (types_on w image) (length image) (block_of image) c u) → (l : Life) × (life_at w'.state.lives c ≡ Some l)
  owned_goes (Client fs k) r w' few s c a u o reached = (goes w h hs known (Client fs k) r w' few s refl).survive c a o.life o.alive o.holds
  owned_goes (Install m) r w' few s c a u o reached = (goes w h hs known (Install m) r w' few s refl).survive c a o.life o.alive o.holds
  owned_goes (Begin b) r w' few s c a u o reached = (goes w h hs known (Begin b) r w' few s refl).survive c a o.life o.alive o.holds
  owned_goes (Land b) r w' few s c a u o reached = (goes w h hs known (Land b) r w' few s refl).survive c a o.life o.alive o.holds
  owned_goes (Fail b stays) r w' few s c a u o reached = (goes w h hs known (Fail b stays) r w' few s refl).survive c a o.life o.alive o.holds
  owned_goes (Finish b) r w' few s c a u o reached = (goes w h hs known (Finish b) r w' few s refl).survive c a o.life o.alive o.holds
  owned_goes (Sync b) r w' few s c a u o reached = (goes w h hs known (Sync b) r w' few s refl).survive c a o.life o.alive o.holds
  owned_goes (FailSync b) r w' few s c a u o reached = (goes w h hs known (FailSync b) r w' few s refl).survive c a o.life o.alive o.holds
  owned_goes (Crash kept) r w' few s c a u o reached = let l = (crash_lives w kept r w' s).all c u (reached (left w kept) (left_may w h kept)) in (l.0, l.1)

  -- each block of a chain is reached in every image that a crash may leave
  pub chain_reached : (image : List (List ℕ)) → MayLeave w image → (c : ℕ) (blocks : List ℕ) → IsNamedChain (types_now w) hs (c ∷ blocks) → Reach (types_on w image) (length image) (block_of image) c (type_in (hs c))
  chain_reached image may c [] zero =
      let r = h.state.lives_sound.root in
      let x = matched (life_at w.state.lives 0) (hs 0) (known 0) r.life r.alive in
      let ty : 0 ≡ type_in (hs 0) = sym (ap type_in x.1 ∙ (x.2.ty ∙ r.ty)) in
      subst (λ d. Reach (types_on w image) (length image) (block_of image) d (type_in (hs d))) (sym zero) (subst (λ t. Reach (types_on w image) (length image) (block_of image) 0 t) ty root)
  chain_reached image may c (a ∷ blocks) chain =
      let n : Names (types_now w) hs a c = chain.0 in
      let reached = chain_reached image may a blocks chain.1 in
      let f = reached_finds w h hs known image may a (type_in (hs a)) reached in
      let l = living (life_at w.state.lives a) (hs a) (known a) n.history n.known in
      let same : f.0 ≡ n.history = same_Some f.0 n.history (sym f.1 ∙ n.known) in
      let ty : n.history.ty ≡ type_in (hs a) = sym (ap type_in n.known) in
      let names : Contains ((types_now w).owned n.history.ty f.3.state.bytes) (c, type_in (hs c)) = n.names f.3.state (subst (λ (z : History). Contains (since z) f.3.state) same f.3.among) in
      step reached (subst (λ k. a < k) (sym (may.0 ∙ h.count)) (in_range (types_now w) w.state h.state a l.0 l.1))
      (left_installed w h image may a (type_in (hs a)) reached).0
      (subst (λ (o : List ℕ → List (ℕ × ℕ)). Contains (o (block_of image a)) (c, type_in (hs c))) (sym (left_owned w h image may a (type_in (hs a)) reached))
      (subst (λ t. Contains ((types_now w).owned t (block_of image a)) (c, type_in (hs c))) ty (subst (λ m. Contains ((types_now w).owned n.history.ty m) (c, type_in (hs c))) f.3.there names)))

  module _ (e : Event) (r : Reply) (w' : World) (few : IsEvent e) (s : Step w e r w') where
    abbrev hs' : Histories
    hs' = histories_after hs e r w'.state.lives

    pub chain_alive : (c : ℕ) (blocks : List ℕ) → IsNamedChain (types_now w) hs (c ∷ blocks) → (l : Life) × (life_at w'.state.lives c ≡ Some l)
    chain_alive c [] zero = let r' = (step_keeps w e r w' few h s).state.lives_sound.root in (r'.life, ap (life_at w'.state.lives) zero ∙ r'.alive)
    chain_alive c (a ∷ blocks) chain = owned_goes e r w' few s c a (type_in (hs c)) (owned_by a c chain.0) (λ image may. chain_reached image may c (a ∷ blocks) chain)

    -- a block of a chain has a history, which goes on
    pub chain_told : (c : ℕ) (blocks : List ℕ) → IsNamedChain (types_now w) hs (c ∷ blocks) → (x : History) → hs c ≡ Some x → StaysTold x (hs' c)
    chain_told c blocks chain x at =
        let l = chain_alive c blocks chain in
        let t = turn_at w h hs known e r w' few s c l.0 l.1 in
        let m = t.extends x at in
        record { now = t.history; is = t.is; fs = t.fs x at; ty = t.ty x at; more = m.0; longer = m.1 }

    pub chain_known : (c : ℕ) (blocks : List ℕ) → IsNamedChain (types_now w) hs (c ∷ blocks) → (x : History) × (hs c ≡ Some x)
    chain_known c [] zero =
        let root' = h.state.lives_sound.root in
        let x = matched (life_at w.state.lives c) (hs c) (known c) root'.life (ap (life_at w.state.lives) zero ∙ root'.alive) in
        (x.0, x.1)
    chain_known c (a ∷ blocks) chain = let o = owned_by a c chain.0 in let x = matched (life_at w.state.lives c) (hs c) (known c) o.life o.alive in (x.0, x.1)

    names_on : (a c : ℕ) → Names (types_now w) hs a c → ((image : List (List ℕ)) → MayLeave w image → Reach (types_on w image) (length image) (block_of image) a (type_in (hs a))) → (l : Life) → life_at w'.state.lives a ≡ Some l → type_in (hs' c) ≡ type_in (hs c) → (Contains (dropped_blocks hs e r) c → ⊥) → Names (types_now w') hs' a c
    names_on a c n reached l alive ty spared =
        let t = turn_at w h hs known e r w' few s a l alive in
        record {
          history = t.history;
          known = t.is;
          names = λ x i. go t.history (t.ty n.history n.known) x (t.states n.history n.known x i);
        }
      where
        go : (now : History) → now.ty ≡ n.history.ty → (x : BlockState) →
            Contains (since n.history) x ⊎ ((edited_block e r ≡ Some a) × ((d u : ℕ) → Contains ((types_now w).owned n.history.ty (newest_bytes n.history)) (d, u) → (Contains (dropped_blocks hs e r) d → ⊥) → Contains ((types_now w).owned n.history.ty x.bytes) (d, u))) →
            Contains ((types_now w').owned now.ty x.bytes) (c, type_in (hs' c))
        go now same x before =
            let here : Contains ((types_now w).owned n.history.ty x.bytes) (c, type_in (hs c)) = elim before [ inl old ↦ n.names x old | inr new ↦ new.1 c (type_in (hs c)) (named_now a c n) spared ] in
            let own : (types_now w').owned now.ty ≡ (types_now w).owned now.ty =
            subst (λ t. (types_now w').owned t ≡ (types_now w).owned t) (ap type_in n.known ∙ sym same) (types_stay w h hs known e r w' few s a (type_in (hs a)) reached) in
            subst (λ (o : List ℕ → List (ℕ × ℕ)). Contains (o x.bytes) (c, type_in (hs' c))) (sym own)
            (subst (λ k. Contains ((types_now w).owned k x.bytes) (c, type_in (hs' c))) (sym same) (subst (λ u. Contains ((types_now w).owned n.history.ty x.bytes) (c, u)) (sym ty) here))

    pub chain_on : (c : ℕ) (blocks : List ℕ) → IsNamedChain (types_now w) hs (c ∷ blocks) → Spares (c ∷ blocks) hs e r hs' → IsNamedChain (types_now w') hs' (c ∷ blocks)
    chain_on c [] zero spared = zero
    chain_on c (a ∷ blocks) chain spared =
        let l = chain_alive a blocks chain.1 in
        let x = chain_known c (a ∷ blocks) chain in
        let t = chain_told c (a ∷ blocks) chain x.0 x.1 in
        let ty : type_in (hs' c) ≡ type_in (hs c) = ap type_in t.is ∙ (t.ty ∙ sym (ap type_in x.1)) in
        (names_on a c chain.0 (λ image may. chain_reached image may a blocks chain.1) l.0 l.1 ty (spared c (Contains-head c (a ∷ blocks))), chain_on a blocks chain.1 (λ d i. spared d (Contains-tail c (a ∷ blocks) d i)))
