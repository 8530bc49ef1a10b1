-- Once all is told durable: after a drain, and after a finish that counted all.
use Rattle.std.proofs.Common.{◌≡◌, ℕ, zero, suc, ◌<◌, ◌≤◌, cond, List, [], ◌∷◌, ◌++◌, length, take, drop, Option, Some, None, refl, sym, ◌∙◌, ap, inl, inr, subst, arith}
use Rattle.std.specs.Prelude.{Contains, option_to_list, option_map}
use Rattle.std.specs.List.{AllByRecursion, last_or}
use Rattle.std.proofs.lemmas.Bool.{eq-eqb}
use Rattle.std.proofs.lemmas.Option.{none-some, same_Some}
use Rattle.xn_model.specs.Images.{block_of, Reach, root, step}
use Rattle.xn_model.specs.Lives.{BlockState, Life, life_at, bytes_of}
use Rattle.xn_model.specs.Worlds.{World, MayLeave, types_now, types_on, types_there, Event, Client, Drain, Finish, Reply, Drained, Finished, Step, Run, IsEvent}
use Rattle.xn_model.specs.Rules.{Holds, IsInFileSystem}
use Rattle.xn_model.proofs.ForCallers.{Contains-none, Contains-cons, left_owned, step_keeps}
use Rattle.xn_history.specs.Histories.{History, Histories, last_told, since, newest_bytes, type_in, telling, telling_all, while_alive, heard, histories_after}
use Rattle.xn_history.specs.Moments.{RunWhere, AreHistoriesOf}
use Rattle.xn_history.specs.Promises.{EveryImageHas, Names, IsNamedChain, LeavesAlone, IsTold, IsNoEditBy}
use Rattle.xn_history.proofs.Turns.{matched, last_append}
use Rattle.xn_history.proofs.Mounts.{reached_finds}
use Rattle.xn_history.proofs.Moments.{known_after}
use Rattle.xn_history.proofs.Chains.{chain_alive, chain_on}
use Rattle.xn_history.proofs.Edits.{has_bytes, survives}
use Rattle.xn_history.proofs.Others.{run_leaves_alone}

only : (o : Option BlockState) (s : BlockState) → Contains (option_to_list o ++ []) s → o ≡ Some s
only None s i = absurd (Contains-none s i)
only (Some t) s i = elim (Contains-cons t [] s i) [ inl e ↦ ap Some e | inr none ↦ absurd (Contains-none s none) ]

-- Where all is told, the reached blocks are attached

module _ (w : World) (h : Holds w) (hs : Histories) (known : AreHistoriesOf w.state.lives hs) (all : (c : ℕ) (x : History) → hs c ≡ Some x → x.untold ≡ []) (image : List (List ℕ)) (may : MayLeave w image) where
  -- the one state since the last told
  last_is : (c : ℕ) (x : History) → hs c ≡ Some x → (s : BlockState) → Contains (since x) s → last_told x ≡ Some s
  last_is c x at s i = only (last_told x) s (subst (λ xs. Contains (option_to_list (last_told x) ++ xs) s) (all c x at) i)

  pub told_of : (c u : ℕ) → Reach (types_on w image) (length image) (block_of image) c u → IsTold hs c u (block_of image c)
  told_of c u r =
      let x = reached_finds w h hs known image may c u r in
      record { history = x.0; known = x.1; ty = x.2; all = all c x.0 x.1; last = x.3.state; is_last = last_is c x.0 x.1 x.3.state x.3.among; has = x.3.there }

  names_of : (b t c u : ℕ) → Reach (types_on w image) (length image) (block_of image) b t → Reach (types_on w image) (length image) (block_of image) c u → Contains ((types_now w).owned t (block_of image b)) (c, u) → Names (types_now w) hs b c
  names_of b t c u r q names =
      let x = reached_finds w h hs known image may b t r in
      let y = reached_finds w h hs known image may c u q in
      let ty : type_in (hs c) ≡ u = ap type_in y.1 ∙ y.2 in
      record {
        history = x.0;
        known = x.1;
        names = λ s i.
            let same : x.3.state ≡ s = same_Some x.3.state s (sym (last_is b x.0 x.1 x.3.state x.3.among) ∙ last_is b x.0 x.1 s i) in
            let bytes : block_of image b ≡ s.bytes = sym x.3.there ∙ ap (λ (z : BlockState). z.bytes) same in
            subst (λ v. Contains ((types_now w).owned x.0.ty s.bytes) (c, v)) (sym ty) (subst (λ v. Contains ((types_now w).owned v s.bytes) (c, u)) (sym x.2) (subst (λ m. Contains ((types_now w).owned t m) (c, u)) bytes names));
      }

  pub chain_of : (c u : ℕ) → Reach (types_on w image) (length image) (block_of image) c u → (owners : List ℕ) × IsNamedChain (types_now w) hs (c ∷ owners)
  chain_of c u root = ([], refl)
  chain_of c u (step {b} {t} r lt inst names) = let more = chain_of b t r in (b ∷ more.0, (names_of b t c u r (step r lt inst names) (subst (λ (o : List ℕ → List (ℕ × ℕ)). Contains (o (block_of image b)) (c, u)) (left_owned w h image may b t r) names), more.1))

-- A drain

pub all_drained : (o : Option Life) (p : Option History) (x : History) → while_alive o (option_map telling_all p) ≡ Some x → x.untold ≡ []
all_drained None p x e = absurd (none-some x e)
all_drained (Some l) None x e = absurd (none-some x e)
all_drained (Some l) (Some y) x e = ap (λ (z : History). z.untold) (sym (same_Some (telling_all y) x e))

pub drained_survive : (w : World) → Holds w → (hs : Histories) → AreHistoriesOf w.state.lives hs → (g n : ℕ) (w' : World) → g < 32 → Step w (Client g Drain) (Drained n) w' →
    (fs c u : ℕ) → Reach (types_there w') (length w'.image) (block_of w'.image) c u → IsInFileSystem w'.state.lives (Some fs) c →
    (es : List Event) (rs : List Reply) (after : World) → AllByRecursion IsEvent es → AllByRecursion (IsNoEditBy fs) es → Run w' es rs after →
    EveryImageHas after c u (block_of w'.image c)
drained_survive w h hs known g n w' few s fs c u reached mine es rs after each none run =
    let e = Client g Drain in
    let hs1 = histories_after hs e (Drained n) w'.state.lives in
    let h1 = step_keeps w e (Drained n) w' few h s in
    let known1 = known_after w h hs known e (Drained n) w' few s in
    let all : (c : ℕ) (x : History) → hs1 c ≡ Some x → x.untold ≡ [] = λ c x at. all_drained (life_at w'.state.lives c) (hs c) x at in
    let told = told_of w' h1 hs1 known1 all w'.image h1.newest c u reached in
    let chain = chain_of w' h1 hs1 known1 all w'.image h1.newest c u reached in
    let x = matched (life_at w'.state.lives c) (hs1 c) (known1 c) mine.life mine.alive in
    let alone = run_leaves_alone fs c chain.0 w' hs1 es rs after each none h1 known1 chain.1 x.0 x.1 (x.2.fs ∙ mine.holds) run in
    survives c u chain.0 (block_of w'.image c) w' hs1 es rs after alone.0 each h1 known1 chain.1 (has_bytes hs1 c u (block_of w'.image c) told) alone.1

-- A finish

drop_all : {A : Type 0} (k : ℕ) (xs : List A) → length xs ≤ k → drop k xs ≡ []
drop_all zero [] le = refl
drop_all zero (x ∷ xs) le = absurd (omega arith)
drop_all (suc k) [] le = refl
drop_all (suc k) (x ∷ xs) le = drop_all k xs (omega arith)

take_all : {A : Type 0} (k : ℕ) (xs : List A) → length xs ≤ k → take k xs ≡ xs
take_all zero [] le = refl
take_all zero (x ∷ xs) le = absurd (omega arith)
take_all (suc k) [] le = refl
take_all (suc k) (x ∷ xs) le = ap (λ ys. x ∷ ys) (take_all k xs (omega arith))

finished_bytes : (k : ℕ) (x : History) → length x.untold ≤ k → (s : BlockState) → Contains (since (telling k x)) s → s.bytes ≡ newest_bytes x
finished_bytes k x le s i =
    let last : last_or None (x.told ++ take k x.untold) ≡ Some s = only (last_or None (x.told ++ take k x.untold)) s (subst (λ xs. Contains (option_to_list (last_or None (x.told ++ take k x.untold)) ++ xs) s) (drop_all k x.untold le) i) in
    let newest : last_or (last_told x) x.untold ≡ Some s = ap (last_or (last_told x)) (sym (take_all k x.untold le)) ∙ (sym (last_append None x.told (take k x.untold)) ∙ last) in
    ap bytes_of (sym newest)

pub finished_survive : (w : World) → Holds w → (hs : Histories) → AreHistoriesOf w.state.lives hs → (b k freed : ℕ) (w' : World) → Step w (Finish b) (Finished k freed) w' →
    (x : History) → hs b ≡ Some x → length x.untold ≤ k → (owners : List ℕ) → IsNamedChain (types_now w) hs (b ∷ owners) →
    (es : List Event) (rs : List Reply) (after : World) (hs' : Histories) → AllByRecursion IsEvent es → RunWhere (LeavesAlone b (b ∷ owners)) w' (histories_after hs (Finish b) (Finished k freed) w'.state.lives) es rs after hs' →
    EveryImageHas after b x.ty (newest_bytes x)
finished_survive w h hs known b k freed w' s x at le owners chain es rs after hs' each run =
    let e = Finish b in
    let r = Finished k freed in
    let hs1 = histories_after hs e r w'.state.lives in
    let h1 = step_keeps w e r w' tt h s in
    let known1 = known_after w h hs known e r w' tt s in
    let chain1 = chain_on w h hs known e r w' tt s b owners chain (λ d i dropped. Contains-none d dropped) in
    let l = chain_alive w h hs known e r w' tt s b owners chain in
    let is : hs1 b ≡ Some (telling k x) = ap (λ o. while_alive o (heard hs e r b)) l.1 ∙ (ap (λ t. cond t (option_map (telling k) (hs b)) (hs b)) (eq-eqb b b refl) ∙ ap (option_map (telling k)) at) in
    survives b x.ty owners (newest_bytes x) w' hs1 es rs after hs' each h1 known1 chain1 (record { history = telling k x; known = is; ty = refl; each = λ t i. finished_bytes k x le t i }) run
