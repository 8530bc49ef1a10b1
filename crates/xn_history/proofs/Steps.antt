-- What each event but a crash does to blocks and histories.
use Rattle.std.proofs.Common.{◌≡◌, ◌⊎◌, ℕ, ◌≤◌, Bool, true, false, Option, Some, None, refl, sym, ◌∙◌, ap, inr, subst, Result, Ok, Err, arith}
use Rattle.std.proofs.lemmas.Option.{none-some}
use Rattle.xn_model.specs.Images.{block_of}
use Rattle.xn_model.specs.Lives.{Life, StoreState, life_at}
use Rattle.store_types.specs.declared.refusal.Refusal.{Refusal}
use Rattle.store_types.specs.declared.refusal.Refusal.TheVariants.{NotSynced}
use Rattle.std.specs.Prelude.{cond, is_some}
use Rattle.std.proofs.lemmas.Bool.{cond_both}
use Rattle.xn_model.specs.Calls.{begun_of, settled_of}
use Rattle.xn_model.specs.Worlds.{World, types_now, Call, Forget, Pick, Event, Client, Begin, Land, Fail, Sync, FailSync, Finish, Reply, Forgotten, Begun, Landed, Synced, Fault, Finished, NoTicket, Down, Refused, reply_and_world, begin, begun_count, write, with_ticket, land, fail, sync, fail_sync, settle_bytes, given_at, read_back, finish}
use Rattle.xn_model.specs.Rules.{Holds}
use Rattle.xn_history.specs.Histories.{Histories, heard, heard_call, edited_block, dropped_blocks}
use Rattle.xn_model.proofs.ForCallers.{Contains-take}
use Rattle.xn_history.specs.Promises.{IsToldBy}
use Rattle.xn_history.specs.Moments.{AreHistoriesOf}
use Rattle.xn_history.proofs.Calls.{Turns, none_change}
use Rattle.xn_history.proofs.Survivals.{Survive, none_ends}
use Rattle.xn_history.proofs.Flushes.{IsDroppedBefore, begun_life, begin_lives, settled_ends, begin_flushes, begin_turns, settles, settled_flushes, settled_turns}

-- What a reply and the world after it are to histories
pub record Goes (w : World) (hs : Histories) (e : Event) (x : Reply × World) : Type 0 where
  pub turns : Turns (types_now w) w.state.next (dropped_blocks hs e x.0) (edited_block e x.0) w.state.lives hs x.1.state.lives (heard hs e x.0)
  pub survive : Survive w.state.lives x.1.state.lives
  pub next : w.state.next ≤ x.1.state.next
  pub ends : (c : ℕ) (l : Life) → life_at w.state.lives c ≡ Some l → life_at x.1.state.lives c ≡ None → ((fs : ℕ) × (e ≡ Client fs (Forget c)) × (x.0 ≡ Forgotten)) ⊎ ((d : IsDroppedBefore w.state.lives c) × IsToldBy e x.0 d.owner d.life.pending d.state)

pub answered : {A : Type 0} (P : Reply × World → Type 0) (reply : A → Reply) (w : World) (r : Result (A × StoreState) Refusal) → ((refusal : Refusal) → P (Refused refusal, w)) → ((given : A × StoreState) → r ≡ Ok given → P (reply given.0, record w { state = given.1 })) → P (reply_and_world reply w r)
answered P reply w (Ok given) p q = q given refl
answered P reply w (Err refusal) p q = p refusal

pub ticketed : (P : Reply × World → Type 0) (w : World) (o : Option ℕ) (go : ℕ → Reply × World) → P (NoTicket, w) → ((k : ℕ) → P (go k)) → P (with_ticket w o go)
ticketed P w None go p q = p
ticketed P w (Some k) go p q = q k

-- Replies that tell nothing

pub unheard_down : (hs : Histories) (fs : ℕ) (c : Call) → heard_call hs fs c Down ≡ hs
unheard_down hs fs Pick = refl
unheard_down hs fs c = refl

pub unheard_refused : (hs : Histories) (fs : ℕ) (c : Call) (x : Refusal) → heard_call hs fs c (Refused x) ≡ hs
unheard_refused hs fs Pick x = refl
unheard_refused hs fs c x = refl

module _ (w : World) (h : Holds w) (hs : Histories) (known : AreHistoriesOf w.state.lives hs) where
  -- nothing happens
  pub goes_nowhere : (e : Event) (r : Reply) (v : World) → v.state ≡ w.state → heard hs e r ≡ hs → Goes w hs e (r, v)
  goes_nowhere e r v same quiet = record {
    turns = subst (λ gs. Turns (types_now w) w.state.next (dropped_blocks hs e r) (edited_block e r) w.state.lives hs v.state.lives gs) (sym quiet)
        (subst (λ (x : StoreState). Turns (types_now w) w.state.next (dropped_blocks hs e r) (edited_block e r) w.state.lives hs x.lives hs) (sym same) (none_change (types_now w) w.state.next (dropped_blocks hs e r) (edited_block e r) w.state.lives hs known));
    survive = subst (λ (x : StoreState). Survive w.state.lives x.lives) (sym same) (none_ends w.state.lives);
    next = let e : v.state.next ≡ w.state.next = ap (λ (x : StoreState). x.next) same in omega arith;
    ends = λ c l at gone. absurd (none-some l (sym (ap (λ (x : StoreState). life_at x.lives c) (sym same) ∙ gone) ∙ at));
  }

  pub goes_begin : (b : ℕ) → Goes w hs (Begin b) (begin w b)
  goes_begin b = answered (Goes w hs (Begin b)) (λ begun. Begun begun.1) w (begun_of w.state b) (λ x. goes_nowhere (Begin b) (Refused x) w refl refl) (λ given e. record {
    turns = begin_turns (types_now w) w.state given.1 hs known b given.0 e;
    survive = λ c a l at owned. let r = (begin_flushes w.state given.1 b given.0 e).forth c a l at owned in (r.0, r.1);
    next = let same = (begun_life w.state given.1 b given.0 e).2 in omega arith;
    ends = λ c l at gone. let r = begin_lives w.state given.1 b given.0 e c l at in absurd (none-some r.0 (sym gone ∙ r.1));
  })

  pub goes_land : (b : ℕ) → Goes w hs (Land b) (land w b)
  goes_land b = ticketed (Goes w hs (Land b)) w (begun_count (life_at w.state.lives b)) (λ k. (Landed, write w b k true)) (goes_nowhere (Land b) NoTicket w refl refl) (λ k. goes_nowhere (Land b) Landed (write w b k true) refl refl)

  pub goes_fail : (b : ℕ) (stays : Bool) → Goes w hs (Fail b stays) (fail w b stays)
  goes_fail b true = ticketed (Goes w hs (Fail b true)) w (begun_count (life_at w.state.lives b)) (λ k. (Fault, write w b k true)) (goes_nowhere (Fail b true) NoTicket w refl refl) (λ k. goes_nowhere (Fail b true) Fault (write w b k true) refl refl)
  goes_fail b false = ticketed (Goes w hs (Fail b false)) w (begun_count (life_at w.state.lives b)) (λ k. (Fault, write w b k false)) (goes_nowhere (Fail b false) NoTicket w refl refl) (λ k. goes_nowhere (Fail b false) Fault (write w b k false) refl refl)

  pub goes_sync : (b : ℕ) → Goes w hs (Sync b) (sync w b)
  goes_sync b = ticketed (Goes w hs (Sync b)) w (begun_count (life_at w.state.lives b)) (λ k. (Synced, settle_bytes w b)) (goes_nowhere (Sync b) NoTicket w refl refl) (λ k. goes_nowhere (Sync b) Synced (settle_bytes w b) refl refl)

  pub goes_fail_sync : (b : ℕ) → Goes w hs (FailSync b) (fail_sync w b)
  goes_fail_sync b = ticketed (Goes w hs (FailSync b)) w (begun_count (life_at w.state.lives b)) (λ k. (Fault, w)) (goes_nowhere (FailSync b) NoTicket w refl refl) (λ k. goes_nowhere (FailSync b) Fault w refl refl)

  pub goes_finish : (b : ℕ) → Goes w hs (Finish b) (finish w b)
  goes_finish b = ticketed (Goes w hs (Finish b)) w (begun_count (life_at w.state.lives b)) (λ k. cond (is_some (given_at w.given b)) (Refused NotSynced, w) (read_back w b)) (goes_nowhere (Finish b) NoTicket w refl refl)
      (λ k. cond_both {A = Reply × World} (is_some (given_at w.given b)) (Refused NotSynced, w) (read_back w b) (Goes w hs (Finish b)) (λ t. goes_nowhere (Finish b) (Refused NotSynced) w refl refl)
      (λ t. answered (Goes w hs (Finish b)) (λ done. Finished done.0 done.1) w (settled_of w.state b (block_of w.image b)) (λ x. goes_nowhere (Finish b) (Refused x) w refl refl) (λ given e.
      let s = settles (types_now w) w.state given.1 b (block_of w.image b) given.0 e in
      record {
        turns = settled_turns (types_now w) w.state given.1 hs known b given.0.0 s;
        survive = λ c a l at owned. let r = (settled_flushes (types_now w) w.state given.1 h.state b given.0.0 s).forth c a l at owned in (r.0, r.1);
        next = let same = s.next in omega arith;
        ends = λ c l at gone.
            let d = settled_ends (types_now w) w.state given.1 b given.0.0 s c l at gone in
            inr (record { owner = b; life = s.life; alive = s.alive; state = d.0; pending = Contains-take given.0.0 s.life.pending d.0 d.1; drops = d.2 }, (refl, d.1));
      })))
