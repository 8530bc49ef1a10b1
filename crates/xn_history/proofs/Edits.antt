-- Edits that were told durable survive.
use Rattle.std.proofs.Common.{◌≡◌, ℕ, List, [], ◌∷◌, ◌++◌, Option, Some, refl, sym, ◌∙◌, ap, inl, inr, subst}
use Rattle.std.specs.Prelude.{Contains, option_to_list}
use Rattle.std.specs.List.{AllByRecursion}
use Rattle.std.proofs.lemmas.Option.{same_Some}
use Rattle.xn_model.specs.Images.{block_of}
use Rattle.xn_model.specs.Lives.{BlockState}
use Rattle.xn_model.specs.Worlds.{World, MayLeave, types_now, Event, Reply, Step, IsEvent}
use Rattle.xn_model.specs.Rules.{Holds}
use Rattle.xn_model.proofs.ForCallers.{Contains-none, Contains-cons, step_keeps}
use Rattle.xn_history.specs.Histories.{History, Histories, last_told, since, type_in, histories_after}
use Rattle.xn_history.specs.Moments.{RunWhere, AreHistoriesOf}
use Rattle.xn_history.specs.Promises.{IsReached, EveryImageHas, HoldsAccepted, StaysTold, LivesOn, IsNamedChain, Spares, LeavesAlone, IsTold}
use Rattle.xn_history.proofs.Turns.{append_nil}
use Rattle.xn_history.proofs.Mounts.{reached_finds}
use Rattle.xn_history.proofs.Moments.{turn_at, known_after, run_knows}
use Rattle.xn_history.proofs.Laws.{image_holds, stays_told}
use Rattle.xn_history.proofs.Chains.{chain_reached, chain_alive, chain_told, chain_on}

told_both : (x : History) (o p : Option History) → (one : StaysTold x o) → ((z : History) → o ≡ Some z → StaysTold z p) → StaysTold x p
told_both x o p one more =
    let two = more one.now one.is in
    record { now = two.now; is = two.is; fs = two.fs ∙ one.fs; ty = two.ty ∙ one.ty; more = one.more ++ two.more; longer = two.longer ∙ (ap (λ xs. xs ++ two.more) one.longer ∙ joined x.told one.more two.more) }
  where
    joined : (xs ys zs : List BlockState) → (xs ++ ys) ++ zs ≡ xs ++ (ys ++ zs)
    joined [] ys zs = refl
    joined (x ∷ xs) ys zs = ap (λ vs. x ∷ vs) (joined xs ys zs)

-- A chain that is spared stays a chain, and its first block goes on.
pub chain_runs : (c : ℕ) (blocks : List ℕ) (w : World) (hs : Histories) (es : List Event) (rs : List Reply) (w' : World) (hs' : Histories) → AllByRecursion IsEvent es → Holds w → AreHistoriesOf w.state.lives hs →
    IsNamedChain (types_now w) hs (c ∷ blocks) → (x : History) → hs c ≡ Some x → RunWhere (Spares (c ∷ blocks)) w hs es rs w' hs' → StaysTold x (hs' c) × IsNamedChain (types_now w') hs' (c ∷ blocks)
chain_runs c blocks w hs [] [] w' hs' each h known chain x at run = (
  record { now = x; is = ap (λ (f : Histories). f c) run.1 ∙ at; fs = refl; ty = refl; more = []; longer = sym (append_nil x.told) },
  subst (λ (v : World × Histories). IsNamedChain (types_now v.0) v.1 (c ∷ blocks)) (λ i. (sym run.0 i, sym run.1 i)) chain,
)
chain_runs c blocks w hs [] (r ∷ rs) w' hs' each h known chain x at run = absurd run
chain_runs c blocks w hs (e ∷ es) [] w' hs' each h known chain x at run = absurd run
chain_runs c blocks w hs (e ∷ es) (r ∷ rs) w' hs' each h known chain x at run =
    let one = chain_told w h hs known e r run.0 each.0 run.1 c blocks chain x at in
    let more = chain_runs c blocks run.0 (histories_after hs e r run.0.state.lives) es rs w' hs' each.1 (step_keeps w e r run.0 each.0 h run.1) (known_after w h hs known e r run.0 each.0 run.1)
    (chain_on w h hs known e r run.0 each.0 run.1 c blocks chain run.2) one.now one.is run.3 in
    (told_both x (histories_after hs e r run.0.state.lives c) (hs' c) one (λ z is. subst (λ y. StaysTold y (hs' c)) (same_Some one.now z (sym one.is ∙ is)) more.0), more.1)

-- What was told stays told while the life goes on.
pub stays_told_on : (c : ℕ) (w : World) (hs : Histories) (es : List Event) (rs : List Reply) (w' : World) (hs' : Histories) → AllByRecursion IsEvent es → Holds w → AreHistoriesOf w.state.lives hs →
    RunWhere (LivesOn c) w hs es rs w' hs' → (x : History) → hs c ≡ Some x → StaysTold x (hs' c)
stays_told_on c w hs [] [] w' hs' each h known run x at = record { now = x; is = ap (λ (f : Histories). f c) run.1 ∙ at; fs = refl; ty = refl; more = []; longer = sym (append_nil x.told) }
stays_told_on c w hs [] (r ∷ rs) w' hs' each h known run x at = absurd run
stays_told_on c w hs (e ∷ es) [] w' hs' each h known run x at = absurd run
stays_told_on c w hs (e ∷ es) (r ∷ rs) w' hs' each h known run x at =
    let next = histories_after hs e r run.0.state.lives in
    let one : StaysTold x (next c) = elim (stays_told w h hs known e r run.0 each.0 run.1 c x at) [ inl on ↦ on | inr ended ↦ absurd (run.2 ended.0) ] in
    told_both x (next c) (hs' c) one (λ z is. stays_told_on c run.0 next es rs w' hs' each.1 (step_keeps w e r run.0 each.0 h run.1) (known_after w h hs known e r run.0 each.0 run.1) run.3 z is)

-- Each state of block b, of type u, from the last told one on has these bytes.
pub record HasBytes (hs : Histories) (b u : ℕ) (m : List ℕ) : Type 0 where
  pub history : History
  pub known : hs b ≡ Some history
  pub ty : history.ty ≡ u
  pub each : (s : BlockState) → Contains (since history) s → s.bytes ≡ m

pub has_bytes : (hs : Histories) (b u : ℕ) (m : List ℕ) → IsTold hs b u m → HasBytes hs b u m
has_bytes hs b u m t = record {
  history = t.history;
  known = t.known;
  ty = t.ty;
  each = λ s i. elim (Contains-cons t.last [] s (subst (λ o. Contains (option_to_list o ++ []) s) t.is_last (subst (λ xs. Contains (option_to_list (last_told t.history) ++ xs) s) t.all i))) [
    | inl same ↦ ap (λ (z : BlockState). z.bytes) (sym same) ∙ t.has
    | inr none ↦ absurd (Contains-none s none)
  ];
}

bytes_on : (w : World) (h : Holds w) (hs : Histories) (known : AreHistoriesOf w.state.lives hs) (e : Event) (r : Reply) (w' : World) (few : IsEvent e) (s : Step w e r w') (b u : ℕ) (blocks : List ℕ) (m : List ℕ) →
    IsNamedChain (types_now w) hs (b ∷ blocks) → HasBytes hs b u m → LeavesAlone b (b ∷ blocks) hs e r (histories_after hs e r w'.state.lives) → HasBytes (histories_after hs e r w'.state.lives) b u m
bytes_on w h hs known e r w' few s b u blocks m chain has alone =
    let l = chain_alive w h hs known e r w' few s b blocks chain in
    let t = turn_at w h hs known e r w' few s b l.0 l.1 in
    record {
      history = t.history;
      known = t.is;
      ty = t.ty has.history has.known ∙ has.ty;
      each = λ x i. elim (t.states has.history has.known x i) [ inl old ↦ has.each x old | inr new ↦ absurd (alone.0 new.0) ];
    }

pub bytes_run : (b u : ℕ) (blocks : List ℕ) (m : List ℕ) (w : World) (hs : Histories) (es : List Event) (rs : List Reply) (w' : World) (hs' : Histories) → AllByRecursion IsEvent es → Holds w → AreHistoriesOf w.state.lives hs →
    IsNamedChain (types_now w) hs (b ∷ blocks) → HasBytes hs b u m → RunWhere (LeavesAlone b (b ∷ blocks)) w hs es rs w' hs' → HasBytes hs' b u m × IsNamedChain (types_now w') hs' (b ∷ blocks)
bytes_run b u blocks m w hs [] [] w' hs' each h known chain has run =
    subst (λ (v : World × Histories). HasBytes v.1 b u m × IsNamedChain (types_now v.0) v.1 (b ∷ blocks)) (λ i. (sym run.0 i, sym run.1 i)) (has, chain)
bytes_run b u blocks m w hs [] (r ∷ rs) w' hs' each h known chain has run = absurd run
bytes_run b u blocks m w hs (e ∷ es) [] w' hs' each h known chain has run = absurd run
bytes_run b u blocks m w hs (e ∷ es) (r ∷ rs) w' hs' each h known chain has run =
    bytes_run b u blocks m run.0 (histories_after hs e r run.0.state.lives) es rs w' hs' each.1 (step_keeps w e r run.0 each.0 h run.1) (known_after w h hs known e r run.0 each.0 run.1)
    (chain_on w h hs known e r run.0 each.0 run.1 b blocks chain run.2.1) (bytes_on w h hs known e r run.0 each.0 run.1 b u blocks m chain has run.2) run.3

-- so every image that a crash may leave has them
pub survives : (b u : ℕ) (blocks : List ℕ) (m : List ℕ) (w : World) (hs : Histories) (es : List Event) (rs : List Reply) (w' : World) (hs' : Histories) → AllByRecursion IsEvent es → Holds w → AreHistoriesOf w.state.lives hs →
    IsNamedChain (types_now w) hs (b ∷ blocks) → HasBytes hs b u m → RunWhere (LeavesAlone b (b ∷ blocks)) w hs es rs w' hs' →
    EveryImageHas w' b u m
survives b u blocks m w hs es rs w' hs' each h known chain has run image may =
    let now = bytes_run b u blocks m w hs es rs w' hs' each h known chain has run in
    let both = run_knows (LeavesAlone b (b ∷ blocks)) w hs es rs w' hs' each h known run in
    let reached = chain_reached w' both.0 hs' both.1 image may b blocks now.1 in
    let f = reached_finds w' both.0 hs' both.1 image may b (type_in (hs' b)) reached in
    let same : f.0 ≡ now.0.history = same_Some f.0 now.0.history (sym f.1 ∙ now.0.known) in
    (sym f.3.there ∙ now.0.each f.3.state (subst (λ (z : History). Contains (since z) f.3.state) same f.3.among), subst (λ t. IsReached w' image b t) (ap type_in now.0.known ∙ now.0.ty) reached)

-- no image misses a state of a spared block that was told
pub held_on : (c : ℕ) (blocks : List ℕ) (w : World) (hs : Histories) (es : List Event) (rs : List Reply) (w' : World) (hs' : Histories) → AllByRecursion IsEvent es → Holds w → AreHistoriesOf w.state.lives hs →
    IsNamedChain (types_now w) hs (c ∷ blocks) → (x : History) → hs c ≡ Some x → RunWhere (Spares (c ∷ blocks)) w hs es rs w' hs' →
    (image : List (List ℕ)) → MayLeave w' image → IsReached w' image c x.ty × HoldsAccepted (block_of image) hs' c x.ty
held_on c blocks w hs es rs w' hs' each h known chain x at run image may =
    let now = chain_runs c blocks w hs es rs w' hs' each h known chain x at run in
    let both = run_knows (Spares (c ∷ blocks)) w hs es rs w' hs' each h known run in
    let ty : type_in (hs' c) ≡ x.ty = ap type_in now.0.is ∙ now.0.ty in
    let reached : IsReached w' image c x.ty = subst (IsReached w' image c) ty (chain_reached w' both.0 hs' both.1 image may c blocks now.1) in
    (reached, image_holds w' both.0 hs' both.1 image may c x.ty reached)
