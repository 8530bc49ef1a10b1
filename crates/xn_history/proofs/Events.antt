-- What each event but a crash does, whichever free choice it takes.
use Rattle.std.proofs.Common.{◌≡◌, ℕ, ◌+◌, ◌<◌, ◌&&◌, Bool, not, List, length, refl, sym, ◌∙◌, ap, inl, inr, subst, arith}
use Rattle.std.proofs.lemmas.Bool.{cond_both}
use Rattle.std.proofs.lemmas.Option.{none-some}
use Rattle.store_types.specs.declared.refusal.Refusal.TheVariants.{NoMemory}
use Rattle.xn_model.specs.Calls.{init_of, propose_of, make_root_of, drop_root_of, install_of, forget_of}
use Rattle.xn_model.specs.Worlds.{World, types_now, Call, Init, Propose, MakeRoot, DropRoot, Forget, Read, Root, Kind, Tainted, Pending, Floor, FreeCount, Pick, Drain, Event, Client, Install, Begin, Land, Fail, Sync, FailSync, Finish, Reply, Started, Edited, Installed, Forgotten, Down, Refused, call, install, act_up, is_crash, AfterCall}
use Rattle.xn_model.specs.Rules.{Holds}
use Rattle.xn_history.specs.Histories.{Histories, heard}
use Rattle.xn_history.specs.Moments.{AreHistoriesOf}
use Rattle.xn_history.proofs.Calls.{propose_turns, make_root_turns, drop_root_turns, init_turns, forget_turns, forget_next}
use Rattle.xn_model.proofs.ForCallers.{installed_is}
use Rattle.xn_history.proofs.Installs.{install_turns, install_next, install_survives}
use Rattle.xn_history.proofs.Survivals.{propose_survives, make_root_survives, drop_root_survives, init_survives, forget_survives, forget_ends}
use Rattle.xn_history.proofs.Steps.{Goes, answered, goes_nowhere, goes_begin, goes_land, goes_fail, goes_sync, goes_fail_sync, goes_finish, unheard_down, unheard_refused}
use Rattle.xn_history.proofs.Drains.{goes_drain}

module _ (w : World) (h : Holds w) (hs : Histories) (known : AreHistoriesOf w.state.lives hs) where
  still : (fs : ℕ) (c : Call) (r : Reply) → heard hs (Client fs c) r ≡ hs → Goes w hs (Client fs c) (r, w)
  still fs c r quiet = goes_nowhere w h hs known (Client fs c) r w refl quiet

  goes_call : (fs : ℕ) → fs < 32 → (c : Call) → Goes w hs (Client fs c) (call w fs c)
  goes_call fs few (Init t m) = answered (Goes w hs (Client fs (Init t m))) (λ made. Started made.0 made.1) w (init_of (types_now w) w.state fs t m) (λ x. still fs (Init t m) (Refused x) refl)
      (λ x e. let r = init_turns (types_now w) w.state x.1 hs known fs t m x.0 e in record { turns = r.0; survive = λ c a l at owned. init_survives (types_now w) w.state x.1 fs t m x.0 e c l at; next = r.1; ends = λ c l at gone. let s = init_survives (types_now w) w.state x.1 fs t m x.0 e c l at in absurd (none-some s.0 (sym gone ∙ s.1)) })
  goes_call fs few (Propose b e) = answered (Goes w hs (Client fs (Propose b e))) Edited w (propose_of (types_now w) w.state fs b e) (λ x. still fs (Propose b e) (Refused x) refl)
      (λ x d. let r = propose_turns (types_now w) w.state x.1 h.state hs known fs b e x.0 d in record { turns = r.0; survive = λ c a l at owned. propose_survives (types_now w) w.state x.1 fs b e x.0 d c l at; next = r.1; ends = λ c l at gone. let s = propose_survives (types_now w) w.state x.1 fs b e x.0 d c l at in absurd (none-some s.0 (sym gone ∙ s.1)) })
  goes_call fs few (MakeRoot b) = answered (Goes w hs (Client fs (MakeRoot b))) Edited w (make_root_of w.state fs b) (λ x. still fs (MakeRoot b) (Refused x) refl)
      (λ x e. let r = make_root_turns (types_now w) w.state x.1 h.state hs known fs few b x.0 e in record { turns = r.0; survive = λ c a l at owned. make_root_survives w.state x.1 fs b x.0 e c l at; next = r.1; ends = λ c l at gone. let s = make_root_survives w.state x.1 fs b x.0 e c l at in absurd (none-some s.0 (sym gone ∙ s.1)) })
  goes_call fs few DropRoot = answered (Goes w hs (Client fs DropRoot)) Edited w (drop_root_of (types_now w) w.state fs) (λ x. still fs DropRoot (Refused x) refl)
      (λ x e. let r = drop_root_turns (types_now w) w.state x.1 h.state hs known fs few x.0 e in record { turns = r.0; survive = λ c a l at owned. drop_root_survives (types_now w) w.state x.1 fs x.0 e c l at; next = r.1; ends = λ c l at gone. let s = drop_root_survives (types_now w) w.state x.1 fs x.0 e c l at in absurd (none-some s.0 (sym gone ∙ s.1)) })
  goes_call fs few (Forget b) = answered (Goes w hs (Client fs (Forget b))) (λ done. Forgotten) w (forget_of (types_now w) w.state fs b) (λ x. still fs (Forget b) (Refused x) refl)
      (λ x e. record { turns = forget_turns (types_now w) w.state x.1 hs known fs b x.0 e; survive = forget_survives (types_now w) w.state x.1 fs b x.0 e; next = let same = forget_next (types_now w) w.state x.1 fs b x.0 e in omega arith; ends = λ c l at gone. inl (fs, ap (λ b. Client fs (Forget b)) (forget_ends (types_now w) w.state x.1 fs b x.0 e c l at gone), refl) })
  goes_call fs few (Read b) = still fs (Read b) (call w fs (Read b)).0 refl
  goes_call fs few Root = still fs Root (call w fs Root).0 refl
  goes_call fs few (Kind b) = still fs (Kind b) (call w fs (Kind b)).0 refl
  goes_call fs few (Tainted b) = still fs (Tainted b) (call w fs (Tainted b)).0 refl
  goes_call fs few Pending = still fs Pending (call w fs Pending).0 refl
  goes_call fs few Floor = still fs Floor (call w fs Floor).0 refl
  goes_call fs few FreeCount = still fs FreeCount (call w fs FreeCount).0 refl
  goes_call fs few Pick = still fs Pick (call w fs Pick).0 refl
  goes_call fs few Drain = goes_drain w h hs known fs

  goes_install : (m : List ℕ) → length m ≡ 512 → Goes w hs (Install m) (install w m)
  goes_install m whole = answered (Goes w hs (Install m)) (λ made. Installed made.0 made.1 made.2 (made.2 + 1)) w (install_of w.language w.state m) (λ x. goes_nowhere w h hs known (Install m) (Refused x) w refl refl) (λ x e.
      let i = installed_is w.language w.state m x.0 x.1 e in
      let survives = install_survives w.language w.state x.1 h.state hs known m whole x.0 i in
      record {
        turns = install_turns w.language w.state x.1 h.state hs known m whole x.0 i;
        survive = λ c a l at owned. survives c l at;
        next = install_next w.language w.state x.1 h.state hs known m whole x.0 i;
        ends = λ c l at gone. let s = survives c l at in absurd (none-some s.0 (sym gone ∙ s.1));
      })

  goes_after : (e : Event) (r : Reply) (w' : World) → heard hs e Down ≡ hs → heard hs e (Refused NoMemory) ≡ hs → Goes w hs e (act_up w e) → AfterCall w e r w' → Goes w hs e (r, w')
  goes_after e r w' down refused done s = elim s [
    | inl given ↦ subst (Goes w hs e) (λ i. (sym given.0 i, sym given.1 i)) (cond_both {A = Reply × World} (w.down && not (is_crash e)) (Down, w) (act_up w e) (Goes w hs e) (λ t. goes_nowhere w h hs known e Down w refl down) (λ t. done))
    | inr wants ↦ subst (Goes w hs e) (λ i. (sym wants.1.1.1.0 i, sym wants.1.1.1.1 i)) (goes_nowhere w h hs known e (Refused NoMemory) w refl refused)
  ]

  pub goes_client : (fs : ℕ) → fs < 32 → (c : Call) (r : Reply) (w' : World) → AfterCall w (Client fs c) r w' → Goes w hs (Client fs c) (r, w')
  goes_client fs few c r w' s = goes_after (Client fs c) r w' (unheard_down hs fs c) (unheard_refused hs fs c NoMemory) (goes_call fs few c) s

  pub goes_installs : (m : List ℕ) → length m ≡ 512 → (r : Reply) (w' : World) → AfterCall w (Install m) r w' → Goes w hs (Install m) (r, w')
  goes_installs m whole r w' s = goes_after (Install m) r w' refl refl (goes_install m whole) s

  pub goes_begins : (b : ℕ) (r : Reply) (w' : World) → AfterCall w (Begin b) r w' → Goes w hs (Begin b) (r, w')
  goes_begins b r w' s = goes_after (Begin b) r w' refl refl (goes_begin w h hs known b) s

  pub goes_lands : (b : ℕ) (r : Reply) (w' : World) → AfterCall w (Land b) r w' → Goes w hs (Land b) (r, w')
  goes_lands b r w' s = goes_after (Land b) r w' refl refl (goes_land w h hs known b) s

  pub goes_fails : (b : ℕ) (stays : Bool) (r : Reply) (w' : World) → AfterCall w (Fail b stays) r w' → Goes w hs (Fail b stays) (r, w')
  goes_fails b stays r w' s = goes_after (Fail b stays) r w' refl refl (goes_fail w h hs known b stays) s

  pub goes_syncs : (b : ℕ) (r : Reply) (w' : World) → AfterCall w (Sync b) r w' → Goes w hs (Sync b) (r, w')
  goes_syncs b r w' s = goes_after (Sync b) r w' refl refl (goes_sync w h hs known b) s

  pub goes_fails_sync : (b : ℕ) (r : Reply) (w' : World) → AfterCall w (FailSync b) r w' → Goes w hs (FailSync b) (r, w')
  goes_fails_sync b r w' s = goes_after (FailSync b) r w' refl refl (goes_fail_sync w h hs known b) s

  pub goes_finishes : (b : ℕ) (r : Reply) (w' : World) → AfterCall w (Finish b) r w' → Goes w hs (Finish b) (r, w')
  goes_finishes b r w' s = goes_after (Finish b) r w' refl refl (goes_finish w h hs known b) s
