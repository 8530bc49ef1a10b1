-- What other file systems do leaves a block alone.
use Rattle.std.proofs.Common.{◌≡◌, ◌⊎◌, ◌≢◌, ℕ, List, [], ◌∷◌, Some, refl, sym, ◌∙◌, ap, inl, inr, subst}
use Rattle.std.specs.Prelude.{Contains}
use Rattle.std.specs.List.{AllByRecursion}
use Rattle.std.proofs.lemmas.Bool.{cases_eq, eqb-false}
use Rattle.std.proofs.lemmas.Option.{none-some, same_Some}
use Rattle.xn_model.specs.Lives.{life_at}
use Rattle.xn_model.specs.Worlds.{World, types_now, Call, Init, Propose, MakeRoot, DropRoot, Forget, Read, Root, Kind, Tainted, Pending, Floor, FreeCount, Pick, Drain, Event, Client, Install, Begin, Land, Fail, Sync, FailSync, Finish, Crash, Reply, Edited, Installed, Step, Run, IsEvent}
use Rattle.xn_model.specs.Rules.{Holds, IsInFileSystem, NamedIn}
use Rattle.xn_model.proofs.ForCallers.{of_life, Contains-none, Contains-cons, last_of, step_keeps, fresh_owned}
use Rattle.xn_history.specs.Histories.{History, Histories, type_in, edited_block, dropped_blocks, histories_after}
use Rattle.xn_history.specs.Moments.{RunWhere, AreHistoriesOf}
use Rattle.xn_history.specs.Promises.{Names, IsNamedChain, LeavesAlone, IsNoEditBy}
use Rattle.xn_history.proofs.Turns.{living}
use Rattle.xn_history.proofs.Moments.{known_after}
use Rattle.xn_history.proofs.Chains.{owned_by, named_newest, chain_told, chain_on}
use Rattle.xn_history.proofs.Systems.{IsOwnCall, own_step}

module _ (w : World) (h : Holds w) (hs : Histories) (known : AreHistoriesOf w.state.lives hs) where
  -- block 0 is nobody's
  not_root : (fs c : ℕ) → IsInFileSystem w.state.lives (Some fs) c → c ≢ 0
  not_root fs c i zero =
      let r = h.state.lives_sound.root in
      none-some fs (sym r.nobody ∙ of_life i r.life (ap (life_at w.state.lives) zero ∙ r.alive))

  one_system : (fs g c : ℕ) → IsInFileSystem w.state.lives (Some fs) c → IsInFileSystem w.state.lives (Some g) c → g ≡ fs
  one_system fs g c i j = same_Some g fs (sym (of_life j i.life i.alive) ∙ i.holds)

  -- an owner is of the same file system
  owner_system : (fs a c : ℕ) → Names (types_now w) hs a c → a ≢ 0 → IsInFileSystem w.state.lives (Some fs) c → IsInFileSystem w.state.lives (Some fs) a
  owner_system fs a c n ne i =
      let l = living (life_at w.state.lives a) (hs a) (known a) n.history n.known in
      let linked = h.state.linked a l.0 l.1 in
      let named = named_newest w h hs known a c n l.0 l.1 in
      let in' = (h.state.lives_sound.each a l.0 l.1).same_system linked.last c (type_in (hs c)) ne (last_of l.0.durable l.0.pending linked.last linked.is_last)
      (subst (λ o. NamedIn (types_now w) l.0.ty o (c, type_in (hs c))) linked.is_last named) in
      record { life = l.0; alive = l.1; holds = sym in'.holds ∙ of_life i in'.life in'.alive }

  -- so each block of a chain but block 0 is
  chain_system : (fs c : ℕ) (blocks : List ℕ) → IsNamedChain (types_now w) hs (c ∷ blocks) → IsInFileSystem w.state.lives (Some fs) c → (d : ℕ) → Contains (c ∷ blocks) d → (d ≡ 0) ⊎ IsInFileSystem w.state.lives (Some fs) d
  chain_system fs c [] chain i d among = elim (Contains-cons c [] d among) [ inl same ↦ inl (sym same ∙ chain) | inr none ↦ absurd (Contains-none d none) ]
  chain_system fs c (a ∷ blocks) chain i d among = elim (Contains-cons c (a ∷ blocks) d among) [
    | inl same ↦ inr (subst (IsInFileSystem w.state.lives (Some fs)) same i)
    | inr later ↦ elim (cases_eq a 0) [
      | inl zero ↦ inl (only_root a blocks zero chain.1 d later)
      | inr ne ↦ chain_system fs a blocks chain.1 (owner_system fs a c chain.0 ne i) d later
    ]
  ]
    where
      only_root : (a : ℕ) (blocks : List ℕ) → a ≡ 0 → IsNamedChain (types_now w) hs (a ∷ blocks) → (d : ℕ) → Contains (a ∷ blocks) d → d ≡ 0
      only_root a [] zero chain d among = elim (Contains-cons a [] d among) [ inl same ↦ sym same ∙ zero | inr none ↦ absurd (Contains-none d none) ]
      only_root a (b ∷ blocks) zero chain d among =
          let r = h.state.lives_sound.root in
          absurd (fresh_owned b (sym r.unowned ∙ of_life (owned_by w h hs known b a chain.0) r.life (ap (life_at w.state.lives) zero ∙ r.alive)))

  module _ (fs b : ℕ) (blocks : List ℕ) (chain : IsNamedChain (types_now w) hs (b ∷ blocks)) (mine : IsInFileSystem w.state.lives (Some fs) b) where
    -- a call of another file system
    foreign : (g : ℕ) (c : Call) (r : Reply) (hs' : Histories) → g ≢ fs → IsOwnCall w h hs known g c r → LeavesAlone b (b ∷ blocks) hs (Client g c) r hs'
    foreign g c r hs' other own = (
      λ e. other (one_system fs g b mine (own.edits b e (not_root fs b mine))),
      λ d i dropped. elim (chain_system fs b blocks chain mine d i) [
        | inl zero ↦ not_root g d (own.drops d dropped) zero
        | inr in' ↦ other (one_system fs g d in' (own.drops d dropped))
      ],
    )

    -- a call that edits and drops nothing but block 0
    harmless : (e : Event) (r : Reply) (hs' : Histories) → dropped_blocks hs e r ≡ [] → (edited_block e r ≡ Some b → b ≡ 0) → LeavesAlone b (b ∷ blocks) hs e r hs'
    harmless e r hs' drops edits = (λ e. not_root fs b mine (edits e), λ d i dropped. Contains-none d (subst (λ ds. Contains ds d) drops dropped))

    root_edit : (g x : ℕ) (r : Reply) → edited_block (Client g (MakeRoot x)) r ≡ Some b → b ≡ 0
    root_edit g x (Edited n) e = sym (same_Some 0 b e)
    root_edit g x r e = absurd (none-some b e)

    install_edit : (m : List ℕ) (r : Reply) → edited_block (Install m) r ≡ Some b → b ≡ 0
    install_edit m (Installed t c first second) e = sym (same_Some 0 b e)
    install_edit m r e = absurd (none-some b e)

    pub left_alone : (e : Event) (r : Reply) (w' : World) (hs' : Histories) → IsEvent e → IsNoEditBy fs e → Step w e r w' → LeavesAlone b (b ∷ blocks) hs e r hs'
    left_alone (Client g (Propose c e)) r w' hs' few none s = foreign g (Propose c e) r hs' (eqb-false g fs none) (own_step w h hs known g few (Propose c e) r w' s)
    left_alone (Client g DropRoot) r w' hs' few none s = foreign g DropRoot r hs' (eqb-false g fs none) (own_step w h hs known g few DropRoot r w' s)
    left_alone (Client g (MakeRoot c)) r w' hs' few none s = harmless (Client g (MakeRoot c)) r hs' refl (root_edit g c r)
    left_alone (Client g (Init t m)) r w' hs' few none s = harmless (Client g (Init t m)) r hs' refl (λ e. absurd (none-some b e))
    left_alone (Client g (Forget c)) r w' hs' few none s = harmless (Client g (Forget c)) r hs' refl (λ e. absurd (none-some b e))
    left_alone (Client g (Read c)) r w' hs' few none s = harmless (Client g (Read c)) r hs' refl (λ e. absurd (none-some b e))
    left_alone (Client g Root) r w' hs' few none s = harmless (Client g Root) r hs' refl (λ e. absurd (none-some b e))
    left_alone (Client g (Kind c)) r w' hs' few none s = harmless (Client g (Kind c)) r hs' refl (λ e. absurd (none-some b e))
    left_alone (Client g (Tainted c)) r w' hs' few none s = harmless (Client g (Tainted c)) r hs' refl (λ e. absurd (none-some b e))
    left_alone (Client g Pending) r w' hs' few none s = harmless (Client g Pending) r hs' refl (λ e. absurd (none-some b e))
    left_alone (Client g Floor) r w' hs' few none s = harmless (Client g Floor) r hs' refl (λ e. absurd (none-some b e))
    left_alone (Client g FreeCount) r w' hs' few none s = harmless (Client g FreeCount) r hs' refl (λ e. absurd (none-some b e))
    left_alone (Client g Pick) r w' hs' few none s = harmless (Client g Pick) r hs' refl (λ e. absurd (none-some b e))
    left_alone (Client g Drain) r w' hs' few none s = harmless (Client g Drain) r hs' refl (λ e. absurd (none-some b e))
    left_alone (Install m) r w' hs' few none s = harmless (Install m) r hs' refl (install_edit m r)
    left_alone (Begin c) r w' hs' few none s = harmless (Begin c) r hs' refl (λ e. absurd (none-some b e))
    left_alone (Land c) r w' hs' few none s = harmless (Land c) r hs' refl (λ e. absurd (none-some b e))
    left_alone (Fail c stays) r w' hs' few none s = harmless (Fail c stays) r hs' refl (λ e. absurd (none-some b e))
    left_alone (Finish c) r w' hs' few none s = harmless (Finish c) r hs' refl (λ e. absurd (none-some b e))
    left_alone (Sync c) r w' hs' few none s = harmless (Sync c) r hs' refl (λ e. absurd (none-some b e))
    left_alone (FailSync c) r w' hs' few none s = harmless (FailSync c) r hs' refl (λ e. absurd (none-some b e))
    left_alone (Crash kept) r w' hs' few none s = harmless (Crash kept) r hs' refl (λ e. absurd (none-some b e))

-- A run without an edit by the block's file system leaves it alone.
pub run_leaves_alone : (fs b : ℕ) (blocks : List ℕ) (w : World) (hs : Histories) (es : List Event) (rs : List Reply) (w' : World) → AllByRecursion IsEvent es → AllByRecursion (IsNoEditBy fs) es → Holds w → AreHistoriesOf w.state.lives hs →
    IsNamedChain (types_now w) hs (b ∷ blocks) → (x : History) → hs b ≡ Some x → x.fs ≡ Some fs → Run w es rs w' → (hs' : Histories) × RunWhere (LeavesAlone b (b ∷ blocks)) w hs es rs w' hs'
run_leaves_alone fs b blocks w hs [] [] w' each none h known chain x at mine run = (hs, (run, refl))
run_leaves_alone fs b blocks w hs [] (r ∷ rs) w' each none h known chain x at mine run = absurd run
run_leaves_alone fs b blocks w hs (e ∷ es) [] w' each none h known chain x at mine run = absurd run
run_leaves_alone fs b blocks w hs (e ∷ es) (r ∷ rs) w' each none h known chain x at mine run =
    let l = living (life_at w.state.lives b) (hs b) (known b) x at in
    let next = histories_after hs e r run.0.state.lives in
    let alone = left_alone w h hs known fs b blocks chain (record { life = l.0; alive = l.1; holds = sym l.2.fs ∙ mine }) e r run.0 next each.0 none.0 run.1 in
    let told = chain_told w h hs known e r run.0 each.0 run.1 b blocks chain x at in
    let more = run_leaves_alone fs b blocks run.0 next es rs w' each.1 none.1 (step_keeps w e r run.0 each.0 h run.1) (known_after w h hs known e r run.0 each.0 run.1)
    (chain_on w h hs known e r run.0 each.0 run.1 b blocks chain alone.1) told.now told.is (told.fs ∙ mine) run.2 in
    (more.0, (run.0, run.1, alone, more.1))
