-- What a client reads after a drain survives.
use Rattle.std.proofs.Common.{◌≡◌, ℕ, ◌<◌, ◌&&◌, true, List, [], length, Some, Result, Ok, Err, refl, sym, ◌∙◌, ap, inl, inr, subst}
use Rattle.std.specs.List.{AllByRecursion, last_or}
use Rattle.std.proofs.lemmas.Bool.{cond_both, false≢true}
use Rattle.std.proofs.lemmas.Option.{same_Some}
use Rattle.xn_model.specs.Images.{block_of, Reach}
use Rattle.xn_model.specs.Lives.{Life, life_at, bytes_of, current}
use Rattle.store_types.specs.declared.refusal.Refusal.{Refusal}
use Rattle.xn_model.specs.Results.{result_and_then, result_map}
use Rattle.xn_model.specs.Calls.{own_life}
use Rattle.xn_model.specs.Worlds.{World, types_there, Event, Client, Read, Drain, Reply, Bytes, Drained, Down, call, reply_alone, Step, Run, IsEvent}
use Rattle.xn_model.specs.Rules.{Holds}
use Rattle.xn_model.proofs.ForCallers.{step_keeps, IsOwn, own_then, same_ok}
use Rattle.xn_history.specs.Histories.{History, Histories, last_told, histories_after}
use Rattle.xn_history.specs.Moments.{AreHistoriesOf}
use Rattle.xn_history.specs.Promises.{EveryImageHas, IsNoEditBy}
use Rattle.xn_history.proofs.Turns.{matched, current_is}
use Rattle.xn_history.proofs.Moments.{known_after}
use Rattle.xn_history.proofs.Tellings.{all_drained, told_of, drained_survive}

-- the block is the file system's own, and these are its newest bytes
pub record IsRead (w : World) (fs b : ℕ) (bytes : List ℕ) : Type 0 where
  pub life : Life
  pub own : IsOwn w.state.lives fs b life
  pub newest : bytes ≡ current life

read_from : (w : World) (fs b : ℕ) (m : List ℕ) (o : Result Life Refusal) → own_life w.state fs b ≡ o → Bytes m ≡ reply_alone Bytes (result_map current o) → IsRead w fs b m
read_from w fs b m (Ok l) e is =
    let own = own_then w.state fs b (λ l. Ok l) l (ap (result_and_then (λ l. Ok l)) e) in
    record { life = own.0; own = own.1; newest = bytes_in_reply m (current l) is ∙ ap current (sym (same_ok own.0 l own.2)) }
  where
    bytes_in_reply : (xs ys : List ℕ) → Bytes xs ≡ Bytes ys → xs ≡ ys
    bytes_in_reply xs ys e = cc
read_from w fs b m (Err refusal) e is = absurd cc

pub read_is : (w : World) (fs b : ℕ) (m : List ℕ) (w' : World) → Step w (Client fs (Read b)) (Bytes m) w' → IsRead w fs b m × (w' ≡ w)
read_is w fs b m w' s = elim s [
  | inl given ↦ cond_both {A = Reply × World} (w.down && true) (Down, w) (call w fs (Read b)) (λ x. Bytes m ≡ x.0 → w' ≡ x.1 → IsRead w fs b m × (w' ≡ w)) (λ t e f. absurd cc) (λ t e f. (read_from w fs b m (own_life w.state fs b) refl e, f)) given.0 given.1
  | inr wants ↦ absurd (false≢true wants.0)
]

pub read_survives : (w : World) → Holds w → (hs : Histories) → AreHistoriesOf w.state.lives hs → (g n : ℕ) (drained : World) → g < 32 → Step w (Client g Drain) (Drained n) drained →
    (fs c u : ℕ) (m : List ℕ) (read : World) → Step drained (Client fs (Read c)) (Bytes m) read → Reach (types_there drained) (length drained.image) (block_of drained.image) c u →
    (es : List Event) (rs : List Reply) (after : World) → AllByRecursion IsEvent es → AllByRecursion (IsNoEditBy fs) es → Run read es rs after →
    EveryImageHas after c u m
read_survives w h hs known g n drained few s fs c u m read answer reached es rs after each none run =
    let e = Client g Drain in
    let hs1 = histories_after hs e (Drained n) drained.state.lives in
    let h1 = step_keeps w e (Drained n) drained few h s in
    let known1 = known_after w h hs known e (Drained n) drained few s in
    let all : (c : ℕ) (x : History) → hs1 c ≡ Some x → x.untold ≡ [] = λ c x at. all_drained (life_at drained.state.lives c) (hs c) x at in
    let told = told_of drained h1 hs1 known1 all drained.image h1.newest c u reached in
    let r = read_is drained fs c m read answer in
    let own = r.0.own in
    let x = matched (life_at drained.state.lives c) (hs1 c) (known1 c) r.0.life own.alive in
    let same : told.history ≡ x.0 = same_Some told.history x.0 (sym told.known ∙ x.1) in
    let newest : current r.0.life ≡ told.last.bytes = current_is r.0.life x.0 x.2
    ∙ (ap (λ (z : History). bytes_of (last_or (last_told z) z.untold)) (sym same) ∙ (ap (λ xs. bytes_of (last_or (last_told told.history) xs)) told.all ∙ ap bytes_of told.is_last)) in
    let bytes : block_of drained.image c ≡ m = sym told.has ∙ (sym newest ∙ sym r.0.newest) in
    let done = drained_survive w h hs known g n drained few s fs c u reached (record { life = r.0.life; alive = own.alive; holds = own.mine }) es rs after each none (subst (λ v. Run v es rs after) r.1 run) in
    λ image may. ((done image may).0 ∙ bytes, (done image may).1)
