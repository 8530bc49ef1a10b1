-- What images hold of histories, and what steps leave of them.
use Rattle.std.proofs.Common.{List, slice_set, ◌+◌, ◌&&◌, true, Result, Ok, Err, ◌≡◌, ◌⊎◌, ℕ, Option, Some, None, refl, sym, ◌∙◌, ap, inl, inr, subst}
use Rattle.std.proofs.lemmas.Option.{none-some, same_Some}
use Rattle.xn_model.specs.Images.{block_of}
use Rattle.xn_model.specs.Lives.{BlockState, Life, StoreState, life_at, durable_after, on_disk, lowest_free}
use Rattle.xn_model.specs.Worlds.{World, types_now, Event, Client, Install, Begin, Land, Fail, Sync, FailSync, Finish, Crash, Reply, MayLeave, left, Step, IsEvent, Init, Started, Down, call, reply_and_world}
use Rattle.store_types.specs.declared.refusal.Refusal.{Refusal}
use Rattle.store_types.specs.declared.refusal.Refusal.TheVariants.{NoSpace}
use Rattle.xn_model.specs.Calls.{init_of, init_at, init_refusal, new_life}
use Rattle.xn_model.proofs.ForCallers.{left_may, given_ok, same_ok, never_ok, lowest_is}
use Rattle.std.proofs.lemmas.Bool.{cond_both}
use Rattle.xn_model.specs.Rules.{Holds}
use Rattle.xn_history.specs.Histories.{History, Histories, last_told, histories_after}
use Rattle.xn_history.specs.Moments.{AreHistoriesOf}
use Rattle.xn_history.specs.Promises.{IsReached, ImageHolds, StaysTold, IsForgotten, IsToldBy, IsDropped, IsLost, IsTold}
use Rattle.xn_history.proofs.Turns.{matched, living, unmatched}
use Rattle.xn_history.proofs.Flushes.{IsDroppedBefore}
use Rattle.xn_history.proofs.Steps.{Goes}
use Rattle.xn_history.proofs.Mounts.{reached_finds}
use Rattle.xn_history.proofs.Moments.{crash_lives, goes, turn_at, known_after}

abbrev started_block : ℕ → Reply → ℕ
started_block d (Started b entry) = b
started_block d r = d

inits_free : (state : StoreState) (fs t : ℕ) (m : List ℕ) (o : Option ℕ) (made : (ℕ × ℕ) × StoreState) → lowest_free state.lives ≡ o → init_at state fs t m o ≡ Ok made → life_at state.lives made.0.0 ≡ None
inits_free state fs t m None made at e = absurd (never_ok NoSpace made e)
inits_free state fs t m (Some b) made at e =
    let after : StoreState = record { lives = slice_set state.lives b (Some (new_life state.next (Some fs) t m)); next = state.next + 1 } in
    let block : b ≡ made.0.0 = ap (λ (x : (ℕ × ℕ) × StoreState). x.0.0) (same_ok ((b, state.next), after) made e) in
    ap (life_at state.lives) (sym block) ∙ (lowest_is state.lives b at).1

module _ (w : World) (h : Holds w) (hs : Histories) (known : AreHistoriesOf w.state.lives hs) where
  pub image_holds : (image : List (List ℕ)) → MayLeave w image → ImageHolds w image hs
  image_holds image may c u r =
      let x = reached_finds w h hs known image may c u r in
      record { history = x.0; known = x.1; ty = x.2; state = x.3.state; among = x.3.among; there = sym x.3.there }

  module _ (e : Event) (r : Reply) (w' : World) (few : IsEvent e) (s : Step w e r w') where
    -- a history that is there after it goes on
    goes_on : (c : ℕ) (x : History) → hs c ≡ Some x → (l : Life) → life_at w'.state.lives c ≡ Some l → StaysTold x (histories_after hs e r w'.state.lives c)
    goes_on c x at l alive =
        let t = turn_at w h hs known e r w' few s c l alive in
        let m = t.extends x at in
        record { now = t.history; is = t.is; fs = t.fs x at; ty = t.ty x at; more = m.0; longer = m.1 }

    -- the life of a history that ended has ended
    gone_at : (c : ℕ) → histories_after hs e r w'.state.lives c ≡ None → life_at w'.state.lives c ≡ None
    gone_at c none = go (life_at w'.state.lives c) refl
      where
        go : (o : Option Life) → life_at w'.state.lives c ≡ o → life_at w'.state.lives c ≡ None
        go None at = at
        go (Some l) at = let t = turn_at w h hs known e r w' few s c l at in absurd (none-some t.history (sym none ∙ t.is))

    -- why a history ended, where no crash happens
    ended_by : Goes w hs e (r, w') → (c : ℕ) (x : History) → hs c ≡ Some x → life_at w'.state.lives c ≡ None → IsForgotten c e r ⊎ (IsDropped hs c e r ⊎ IsLost w c e)
    ended_by g c x at gone =
        let l = living (life_at w.state.lives c) (hs c) (known c) x at in
        elim (g.ends c l.0 l.1 gone) [
          | inl forgotten ↦ inl forgotten
          | inr dropped ↦
              let d : IsDroppedBefore w.state.lives c = dropped.0 in
              let y = matched (life_at w.state.lives d.owner) (hs d.owner) (known d.owner) d.life d.alive in
              inr (inl (record { owner = d.owner; history = y.0; known = y.1; state = d.state; told = subst (λ xs. IsToldBy e r d.owner xs d.state) (sym y.2.untold) dropped.1; drops = d.drops }))
        ]

  lost : (kept : List ℕ) (r : Reply) (w' : World) → Step w (Crash kept) r w' → (c : ℕ) → life_at w'.state.lives c ≡ None → (u : ℕ) → IsReached w (left w kept) c u → ⊥
  lost kept r w' s c gone u reached = let l = (crash_lives w kept r w' s).all c u reached in none-some l.0 (sym gone ∙ l.1)

  why_ended : (e : Event) (r : Reply) (w' : World) → IsEvent e → Step w e r w' → (c : ℕ) (x : History) → hs c ≡ Some x → life_at w'.state.lives c ≡ None → IsForgotten c e r ⊎ (IsDropped hs c e r ⊎ IsLost w c e)
  why_ended (Client fs k) r w' few s c x at gone = ended_by (Client fs k) r w' few s (goes w h hs known (Client fs k) r w' few s refl) c x at gone
  why_ended (Install m) r w' few s c x at gone = ended_by (Install m) r w' few s (goes w h hs known (Install m) r w' few s refl) c x at gone
  why_ended (Begin b) r w' few s c x at gone = ended_by (Begin b) r w' few s (goes w h hs known (Begin b) r w' few s refl) c x at gone
  why_ended (Land b) r w' few s c x at gone = ended_by (Land b) r w' few s (goes w h hs known (Land b) r w' few s refl) c x at gone
  why_ended (Fail b stays) r w' few s c x at gone = ended_by (Fail b stays) r w' few s (goes w h hs known (Fail b stays) r w' few s refl) c x at gone
  why_ended (Finish b) r w' few s c x at gone = ended_by (Finish b) r w' few s (goes w h hs known (Finish b) r w' few s refl) c x at gone
  why_ended (Sync b) r w' few s c x at gone = ended_by (Sync b) r w' few s (goes w h hs known (Sync b) r w' few s refl) c x at gone
  why_ended (FailSync b) r w' few s c x at gone = ended_by (FailSync b) r w' few s (goes w h hs known (FailSync b) r w' few s refl) c x at gone
  why_ended (Crash kept) r w' few s c x at gone = inr (inr (kept, refl, lost kept r w' s c gone))

  -- what was told stays told, or the history ended for one of three reasons
  pub stays_told : (e : Event) (r : Reply) (w' : World) → IsEvent e → Step w e r w' → (c : ℕ) (x : History) → hs c ≡ Some x →
      StaysTold x (histories_after hs e r w'.state.lives c) ⊎ ((histories_after hs e r w'.state.lives c ≡ None) × (IsForgotten c e r ⊎ (IsDropped hs c e r ⊎ IsLost w c e)))
  stays_told e r w' few s c x at = go (life_at w'.state.lives c) refl
    where
      go : (o : Option Life) → life_at w'.state.lives c ≡ o →
          StaysTold x (histories_after hs e r w'.state.lives c) ⊎ ((histories_after hs e r w'.state.lives c ≡ None) × (IsForgotten c e r ⊎ (IsDropped hs c e r ⊎ IsLost w c e)))
      go (Some l) alive = inl (goes_on e r w' few s c x at l alive)
      go None gone = inr (none_after, why_ended e r w' few s c x at gone)
        where
          none_after : histories_after hs e r w'.state.lives c ≡ None
          none_after = unmatched (life_at w'.state.lives c) (histories_after hs e r w'.state.lives c) (known_after w h hs known e r w' few s c) gone

  -- a crash ends no life of a block that is reached in what it leaves, and no other block is alive after it
  pub crash_keeps : (kept : List ℕ) (r : Reply) (w' : World) → Step w (Crash kept) r w' → (c u : ℕ) → IsReached w (left w kept) c u →
      (x : History) × (hs c ≡ Some x) × StaysTold x (histories_after hs (Crash kept) r w'.state.lives c)
  crash_keeps kept r w' s c u reached =
      let x = reached_finds w h hs known (left w kept) (left_may w h kept) c u reached in
      let l = (crash_lives w kept r w' s).all c u reached in
      (x.0, x.1, goes_on (Crash kept) r w' tt s c x.0 x.1 l.0 l.1)

  pub crash_leaves : (kept : List ℕ) (r : Reply) (w' : World) → Step w (Crash kept) r w' → (c : ℕ) (x : History) → histories_after hs (Crash kept) r w'.state.lives c ≡ Some x → IsReached w (left w kept) c x.ty
  crash_leaves kept r w' s c x at =
      let l = living (life_at w'.state.lives c) (histories_after hs (Crash kept) r w'.state.lives c) (known_after w h hs known (Crash kept) r w' tt s c) x at in
      subst (λ t. IsReached w (left w kept) c t) (sym l.2.ty) ((crash_lives w kept r w' s).only c l.0 l.1).reached

  -- a life begins on a block that is free
  free_for : (fs t b entry : ℕ) (m : List ℕ) (made : Result ((ℕ × ℕ) × StoreState) Refusal) → init_of (types_now w) w.state fs t m ≡ made → Started b entry ≡ (reply_and_world {A = ℕ × ℕ} (λ made. Started made.0 made.1) w made).0 → hs b ≡ None
  free_for fs t b entry m (Ok made) e is =
      let given = given_ok (init_refusal (types_now w) w.state fs t m) (init_at w.state fs t m (lowest_free w.state.lives)) made e in
      let block : b ≡ made.0.0 = ap (started_block b) is in
      ap hs block ∙ unmatched (life_at w.state.lives made.0.0) (hs made.0.0) (known made.0.0) (inits_free w.state fs t m (lowest_free w.state.lives) made refl given)
  free_for fs t b entry m (Err refusal) e is = absurd cc

  pub begins_anew : (fs t b entry : ℕ) (m : List ℕ) (w' : World) → Step w (Client fs (Init t m)) (Started b entry) w' → hs b ≡ None
  begins_anew fs t b entry m w' s = elim s [
    | inl given ↦ cond_both {A = Reply × World} (w.down && true) (Down, w) (call w fs (Init t m)) (λ x. Started b entry ≡ x.0 → hs b ≡ None) (λ t e. absurd cc) (λ t' e. free_for fs t b entry m (init_of (types_now w) w.state fs t m) refl e) given.0
    | inr wants ↦ let e = wants.1.1.1.0 in absurd cc
  ]

  -- what it finds is told durable, and nothing else is left
  pub crash_finds : (kept : List ℕ) (r : Reply) (w' : World) → Step w (Crash kept) r w' → (c : ℕ) (x : History) → histories_after hs (Crash kept) r w'.state.lives c ≡ Some x → IsTold (histories_after hs (Crash kept) r w'.state.lives) c x.ty (block_of (left w kept) c)
  crash_finds kept r w' s c x at =
      let l = living (life_at w'.state.lives c) (histories_after hs (Crash kept) r w'.state.lives c) (known_after w h hs known (Crash kept) r w' tt s c) x at in
      let found = (crash_lives w kept r w' s).only c l.0 l.1 in
      let t = bare_from (last_told x) (on_disk (block_of (left w kept) c)) (l.2.told ∙ found.durable) in
      record { history = x; known = at; ty = refl; all = l.2.untold ∙ found.nothing; last = t.0; is_last = t.1; has = t.2 }
    where
      bare_from : (o : Option BlockState) (s : BlockState) → durable_after o ≡ Some s → (t : BlockState) × (o ≡ Some t) × (t.bytes ≡ s.bytes)
      bare_from None s e = absurd (none-some s e)
      bare_from (Some t) s e = (t, refl, ap (λ (z : BlockState). z.bytes) (same_Some (on_disk t.bytes) s e))
