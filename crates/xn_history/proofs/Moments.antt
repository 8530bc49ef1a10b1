-- Each step leaves histories that fit, and so does each run.
use Rattle.std.proofs.Common.{◌≡◌, false, ℕ, length, List, [], ◌∷◌, ◌++◌, Option, Some, None, refl, sym, ◌∙◌, ap, inl, inr, subst}
use Rattle.std.specs.Prelude.{option_to_list}
use Rattle.std.specs.List.{AllByRecursion, last_or}
use Rattle.xn_model.specs.Types.{Types}
use Rattle.xn_model.specs.Images.{Reach, block_of}
use Rattle.xn_model.specs.Lives.{Life, Lives, life_at, durable_after}
use Rattle.xn_model.specs.Mounts.{IsRecovered}
use Rattle.xn_model.specs.Worlds.{World, types_now, types_on, types_there, Event, Client, Install, Begin, Land, Fail, Sync, FailSync, Finish, Crash, Reply, mounted, crashed, left, MayLeave, is_crash, Step, AfterCrash, Run, IsEvent}
use Rattle.xn_model.specs.Rules.{Holds}
use Rattle.xn_model.proofs.ForCallers.{crash_sound, mount_holds, left_installed, left_may, left_owned, step_keeps, types_grow, types_mounted}
use Rattle.std.proofs.lemmas.Bool.{false≢true}
use Rattle.xn_history.specs.Histories.{Histories, heard, while_alive, found_with, first_histories, histories_after, edited_block, dropped_blocks}
use Rattle.xn_history.specs.Moments.{RunWhere, Anything, IsMoment, IsHistoryAt, AreHistoriesOf}
use Rattle.xn_history.proofs.Turns.{Turn}
use Rattle.xn_history.proofs.Steps.{Goes}
use Rattle.xn_history.proofs.Events.{goes_client, goes_installs, goes_begins, goes_lands, goes_fails, goes_syncs, goes_fails_sync, goes_finishes}
use Rattle.xn_history.proofs.Mounts.{crash_turn}

-- the lives that a crash leaves are recovered
pub crash_lives : (w : World) (kept : List ℕ) (r : Reply) (w' : World) → AfterCrash w kept r w' → IsRecovered (types_on w (left w kept)) (left w kept) w'.state.lives
crash_lives w kept r w' s = elim s.2 [
  | inl up ↦ subst (λ (v : World). IsRecovered (types_on w (left w kept)) (left w kept) v.state.lives) (sym up.1) s.1
  | inr down' ↦ subst (λ (v : World). IsRecovered (types_on w (left w kept)) (left w kept) v.state.lives) (sym down'.1) s.1
]

module _ (w : World) (h : Holds w) (hs : Histories) (known : AreHistoriesOf w.state.lives hs) where
  abbrev TurnAt : Event → Reply → World → Type 0
  TurnAt e r w' = (c : ℕ) (l : Life) → life_at w'.state.lives c ≡ Some l →
      Turn (types_now w) w.state.next (dropped_blocks hs e r) (edited_block e r ≡ Some c) (life_at w.state.lives c) (hs c) l (histories_after hs e r w'.state.lives c)

  -- the history is what was heard, where the block is alive
  alive_turn : (e : Event) (r : Reply) (w' : World) → Goes w hs e (r, w') → (c : ℕ) (l : Life) → life_at w'.state.lives c ≡ Some l →
      Turn (types_now w) w.state.next (dropped_blocks hs e r) (edited_block e r ≡ Some c) (life_at w.state.lives c) (hs c) l (while_alive (life_at w'.state.lives c) (heard hs e r c))
  alive_turn e r w' g c l at = subst (λ o. Turn (types_now w) w.state.next (dropped_blocks hs e r) (edited_block e r ≡ Some c) (life_at w.state.lives c) (hs c) l (while_alive o (heard hs e r c))) (sym at) (g.turns c l at)

  pub turn_at : (e : Event) (r : Reply) (w' : World) → IsEvent e → Step w e r w' → TurnAt e r w'
  turn_at (Client fs k) r w' few s c l at = alive_turn (Client fs k) r w' (goes_client w h hs known fs few k r w' s) c l at
  turn_at (Install m) r w' few s c l at = alive_turn (Install m) r w' (goes_installs w h hs known m few r w' s) c l at
  turn_at (Begin b) r w' few s c l at = alive_turn (Begin b) r w' (goes_begins w h hs known b r w' s) c l at
  turn_at (Land b) r w' few s c l at = alive_turn (Land b) r w' (goes_lands w h hs known b r w' s) c l at
  turn_at (Fail b stays) r w' few s c l at = alive_turn (Fail b stays) r w' (goes_fails w h hs known b stays r w' s) c l at
  turn_at (Sync b) r w' few s c l at = alive_turn (Sync b) r w' (goes_syncs w h hs known b r w' s) c l at
  turn_at (FailSync b) r w' few s c l at = alive_turn (FailSync b) r w' (goes_fails_sync w h hs known b r w' s) c l at
  turn_at (Finish b) r w' few s c l at = alive_turn (Finish b) r w' (goes_finishes w h hs known b r w' s) c l at
  turn_at (Crash kept) r w' few s c l at = subst (λ o. Turn (types_now w) w.state.next [] (None ≡ Some c) (life_at w.state.lives c) (hs c) l (found_with o (hs c))) (sym at)
      (crash_turn w h hs known (left w kept) (left_may w h kept) w'.state.lives (crash_lives w kept r w' s) w.state.next [] (None ≡ Some c) c l at)

  -- any event but a crash
  pub goes : (e : Event) (r : Reply) (w' : World) → IsEvent e → Step w e r w' → is_crash e ≡ false → Goes w hs e (r, w')
  goes (Client fs c) r w' few s up = goes_client w h hs known fs few c r w' s
  goes (Install m) r w' few s up = goes_installs w h hs known m few r w' s
  goes (Begin b) r w' few s up = goes_begins w h hs known b r w' s
  goes (Land b) r w' few s up = goes_lands w h hs known b r w' s
  goes (Fail b stays) r w' few s up = goes_fails w h hs known b stays r w' s
  goes (Sync b) r w' few s up = goes_syncs w h hs known b r w' s
  goes (FailSync b) r w' few s up = goes_fails_sync w h hs known b r w' s
  goes (Finish b) r w' few s up = goes_finishes w h hs known b r w' s
  goes (Crash kept) r w' few s up = absurd (false≢true (sym up))

  -- the types of blocks that every image reaches mean the same after it
  pub types_stay : (e : Event) (r : Reply) (w' : World) → IsEvent e → Step w e r w' → (a u : ℕ) → ((image : List (List ℕ)) → MayLeave w image → Reach (types_on w image) (length image) (block_of image) a u) →
      (types_now w').owned u ≡ (types_now w).owned u
  types_stay (Client fs c) r w' few s a u reached = (types_grow w (Client fs c) r w' few refl h s).owned u (left_installed w h w.image h.newest a u (reached w.image h.newest)).1
  types_stay (Install m) r w' few s a u reached = (types_grow w (Install m) r w' few refl h s).owned u (left_installed w h w.image h.newest a u (reached w.image h.newest)).1
  types_stay (Begin b) r w' few s a u reached = (types_grow w (Begin b) r w' few refl h s).owned u (left_installed w h w.image h.newest a u (reached w.image h.newest)).1
  types_stay (Land b) r w' few s a u reached = (types_grow w (Land b) r w' few refl h s).owned u (left_installed w h w.image h.newest a u (reached w.image h.newest)).1
  types_stay (Fail b stays) r w' few s a u reached = (types_grow w (Fail b stays) r w' few refl h s).owned u (left_installed w h w.image h.newest a u (reached w.image h.newest)).1
  types_stay (Sync b) r w' few s a u reached = (types_grow w (Sync b) r w' few refl h s).owned u (left_installed w h w.image h.newest a u (reached w.image h.newest)).1
  types_stay (FailSync b) r w' few s a u reached = (types_grow w (FailSync b) r w' few refl h s).owned u (left_installed w h w.image h.newest a u (reached w.image h.newest)).1
  types_stay (Finish b) r w' few s a u reached = (types_grow w (Finish b) r w' few refl h s).owned u (left_installed w h w.image h.newest a u (reached w.image h.newest)).1
  types_stay (Crash kept) r w' few s a u reached =
      let m = types_mounted (crashed w kept) s.0 (crash_sound w h kept) s.1 in
      let same : types_now w' ≡ types_on w (left w kept) = elim s.2 [ inl up ↦ ap types_now up.1 ∙ m | inr down' ↦ ap types_now down'.1 ∙ m ] in
      ap (λ (T : Types). T.owned u) same ∙ left_owned w h (left w kept) (left_may w h kept) a u (reached (left w kept) (left_may w h kept))

  -- a block that is free has none
  none_at : (e : Event) (r : Reply) (w' : World) (c : ℕ) → life_at w'.state.lives c ≡ None → histories_after hs e r w'.state.lives c ≡ None
  none_at (Crash kept) r w' c at = ap (λ o. found_with o (hs c)) at
  none_at (Client fs k) r w' c at = ap (λ o. while_alive o (heard hs (Client fs k) r c)) at
  none_at (Install m) r w' c at = ap (λ o. while_alive o (heard hs (Install m) r c)) at
  none_at (Begin b) r w' c at = ap (λ o. while_alive o (heard hs (Begin b) r c)) at
  none_at (Land b) r w' c at = ap (λ o. while_alive o (heard hs (Land b) r c)) at
  none_at (Fail b stays) r w' c at = ap (λ o. while_alive o (heard hs (Fail b stays) r c)) at
  none_at (Sync b) r w' c at = ap (λ o. while_alive o (heard hs (Sync b) r c)) at
  none_at (FailSync b) r w' c at = ap (λ o. while_alive o (heard hs (FailSync b) r c)) at
  none_at (Finish b) r w' c at = ap (λ o. while_alive o (heard hs (Finish b) r c)) at

  pub known_after : (e : Event) (r : Reply) (w' : World) → IsEvent e → Step w e r w' → AreHistoriesOf w'.state.lives (histories_after hs e r w'.state.lives)
  known_after e r w' few s c = go (life_at w'.state.lives c) refl
    where
      go : (o : Option Life) → life_at w'.state.lives c ≡ o → IsHistoryAt (life_at w'.state.lives c) (histories_after hs e r w'.state.lives c)
      go None at = subst (λ o. IsHistoryAt o (histories_after hs e r w'.state.lives c)) (sym at) (subst (λ x. IsHistoryAt None x) (sym (none_at e r w' c at)) tt)
      go (Some l) at =
          let t = turn_at e r w' few s c l at in
          subst (λ o. IsHistoryAt o (histories_after hs e r w'.state.lives c)) (sym at) (subst (λ x. IsHistoryAt (Some l) x) (sym t.is) t.of)

-- Runs

module _ (Passes : Histories → Event → Reply → Histories → Type 0) where
  pub run_knows : (w : World) (hs : Histories) (es : List Event) (rs : List Reply) (w' : World) (hs' : Histories) → AllByRecursion IsEvent es → Holds w → AreHistoriesOf w.state.lives hs →
      RunWhere Passes w hs es rs w' hs' → Holds w' × AreHistoriesOf w'.state.lives hs'
  run_knows w hs [] [] w' hs' each h known run = subst (λ (x : World × Histories). Holds x.0 × AreHistoriesOf x.0.state.lives x.1) (λ i. (sym run.0 i, sym run.1 i)) (h, known)
  run_knows w hs [] (r ∷ rs) w' hs' each h known run = absurd run
  run_knows w hs (e ∷ es) [] w' hs' each h known run = absurd run
  run_knows w hs (e ∷ es) (r ∷ rs) w' hs' each h known run =
      run_knows run.0 (histories_after hs e r run.0.state.lives) es rs w' hs' each.1 (step_keeps w e r run.0 each.0 h run.1) (known_after w h hs known e r run.0 each.0 run.1) run.3

  pub run_of : (w : World) (hs : Histories) (es : List Event) (rs : List Reply) (w' : World) (hs' : Histories) → RunWhere Passes w hs es rs w' hs' → Run w es rs w'
  run_of w hs [] [] w' hs' run = run.0
  run_of w hs [] (r ∷ rs) w' hs' run = absurd run
  run_of w hs (e ∷ es) [] w' hs' run = absurd run
  run_of w hs (e ∷ es) (r ∷ rs) w' hs' run = (run.0, run.1, run_of run.0 (histories_after hs e r run.0.state.lives) es rs w' hs' run.3)

pub run_heard : (w : World) (hs : Histories) (es : List Event) (rs : List Reply) (w' : World) → Run w es rs w' → (hs' : Histories) × RunWhere Anything w hs es rs w' hs'
run_heard w hs [] [] w' run = (hs, (run, refl))
run_heard w hs [] (r ∷ rs) w' run = absurd run
run_heard w hs (e ∷ es) [] w' run = absurd run
run_heard w hs (e ∷ es) (r ∷ rs) w' run = let more = run_heard run.0 (histories_after hs e r run.0.state.lives) es rs w' run.2 in (more.0, (run.0, run.1, tt, more.1))

-- The first histories

first_known : (T : Types) (image : List (List ℕ)) (lives : Lives) → IsRecovered T image lives → AreHistoriesOf lives (first_histories lives)
first_known T image lives r c = go (life_at lives c) refl
  where
    go : (o : Option Life) → life_at lives c ≡ o → IsHistoryAt o (found_with o None)
    go None at = tt
    go (Some l) at =
        let f = r.only c l at in
        record { fs = refl; ty = refl; untold = sym f.nothing; told = ap (λ o. durable_after (last_or None (option_to_list o))) f.durable ∙ sym f.durable }

-- Moments

-- what the store knows at a moment
pub moment_knows : (w : World) (hs : Histories) → IsMoment w hs → Holds w × AreHistoriesOf w.state.lives hs
moment_knows w hs m = run_knows Anything (mounted m.disk m.lives) (first_histories m.lives) m.events m.replies w hs m.each
    (mount_holds m.disk m.sound m.lives m.recovered) (first_known (types_there m.disk) m.disk.image m.lives m.recovered) m.run

each_both : (xs ys : List Event) → AllByRecursion IsEvent xs → AllByRecursion IsEvent ys → AllByRecursion IsEvent (xs ++ ys)
each_both [] ys p q = q
each_both (x ∷ xs) ys p q = (p.0, each_both xs ys p.1 q)

run_both : (u : World) (fs : Histories) (es : List Event) (rs : List Reply) (v : World) (gs : Histories) (es' : List Event) (rs' : List Reply) (w : World) (hs : Histories) →
    RunWhere Anything u fs es rs v gs → RunWhere Anything v gs es' rs' w hs → RunWhere Anything u fs (es ++ es') (rs ++ rs') w hs
run_both u fs [] [] v gs es' rs' w hs run more = subst (λ (x : World × Histories). RunWhere Anything x.0 x.1 es' rs' w hs) (λ i. (run.0 i, run.1 i)) more
run_both u fs [] (r ∷ rs) v gs es' rs' w hs run more = absurd run
run_both u fs (e ∷ es) [] v gs es' rs' w hs run more = absurd run
run_both u fs (e ∷ es) (r ∷ rs) v gs es' rs' w hs run more = (run.0, run.1, tt, run_both run.0 (histories_after fs e r run.0.state.lives) es rs v gs es' rs' w hs run.3 more)

-- a run from a moment leads to one
pub moment_after : (w : World) (hs : Histories) → IsMoment w hs → (es : List Event) (rs : List Reply) (w' : World) (hs' : Histories) → AllByRecursion IsEvent es → RunWhere Anything w hs es rs w' hs' → IsMoment w' hs'
moment_after w hs m es rs w' hs' each run = record {
  disk = m.disk;
  lives = m.lives;
  sound = m.sound;
  recovered = m.recovered;
  events = m.events ++ es;
  replies = m.replies ++ rs;
  each = each_both m.events es m.each each;
  run = run_both (mounted m.disk m.lives) (first_histories m.lives) m.events m.replies w hs es rs w' hs' m.run run;
}
