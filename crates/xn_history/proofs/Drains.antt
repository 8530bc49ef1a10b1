-- What a drain does to blocks and histories.
use Rattle.std.proofs.Common.{◌≡◌, ℕ, zero, suc, ◌+◌, true, false, cond, List, [], ◌∷◌, length, Option, Some, None, refl, sym, ◌∙◌, ap, inl, inr, arith}
use Rattle.std.specs.Prelude.{option_map, is_some}
use Rattle.std.specs.List.{last_or, list_any}
use Rattle.std.proofs.lemmas.Bool.{cond_both, cases_Bool, or_left, or_right, false≢true}
use Rattle.std.proofs.lemmas.Option.{none-some, same_Some}
use Rattle.xn_model.specs.Images.{block_of}
use Rattle.xn_model.specs.Lives.{BlockState, Life, Lives, life_at, newest, durable_after, alive_and}
use Rattle.store_types.specs.declared.refusal.Refusal.TheVariants.{InFlight, NotSynced}
use Rattle.xn_model.specs.Calls.{begun_of, settled_of, pick_of}
use Rattle.xn_model.specs.Worlds.{World, types_now, Drain, Client, Reply, Begun, Landed, Synced, Finished, Drained, Refused, begin, begun_count, write, settle_bytes, given_at, read_back, land, sync, finish, write_out, drain_for, drain, all_pending}
use Rattle.xn_model.specs.Rules.{Holds, IsIdle}
use Rattle.xn_model.proofs.ForCallers.{begin_keeps, land_keeps, sync_keeps, write_out_keeps, drain_ends, none_from}
use Rattle.xn_history.specs.Histories.{Histories, last_told, telling_all}
use Rattle.xn_history.specs.Moments.{AreHistoriesOf}
use Rattle.xn_history.proofs.Turns as turn
use Rattle.xn_history.proofs.Turns.{Turn, placed, matched, bare_twice}
use Rattle.xn_history.proofs.Calls.{Turns}
use Rattle.xn_history.proofs.Flushes.{Flushes, flushes_none, flushes_both, begun_life, begin_flushes, settles, settled_flushes}
use Rattle.xn_history.proofs.Steps.{Goes, answered, ticketed, goes_nowhere}

-- A drain

abbrev Moves : World → World → Type 0
Moves w v = Flushes w.state.lives v.state.lives × (w.state.next ≡ v.state.next)

begin_moves : (w : World) (b : ℕ) → Moves w (begin w b).1
begin_moves w b = answered (λ x. Moves w x.1) (λ begun. Begun begun.1) w (begun_of w.state b) (λ x. (flushes_none w.state.lives, refl)) (λ given e. (begin_flushes w.state given.1 b given.0 e, (begun_life w.state given.1 b given.0 e).2))

land_moves : (w : World) (b : ℕ) → Moves w (land w b).1
land_moves w b = ticketed (λ x. Moves w x.1) w (begun_count (life_at w.state.lives b)) (λ k. (Landed, write w b k true)) (flushes_none w.state.lives, refl) (λ k. (flushes_none w.state.lives, refl))

sync_moves : (w : World) (b : ℕ) → Moves w (sync w b).1
sync_moves w b = ticketed (λ x. Moves w x.1) w (begun_count (life_at w.state.lives b)) (λ k. (Synced, settle_bytes w b)) (flushes_none w.state.lives, refl) (λ k. (flushes_none w.state.lives, refl))

finish_moves : (w : World) → Holds w → (b : ℕ) → Moves w (finish w b).1
finish_moves w h b = ticketed (λ x. Moves w x.1) w (begun_count (life_at w.state.lives b)) (λ k. cond (is_some (given_at w.given b)) (Refused NotSynced, w) (read_back w b)) (flushes_none w.state.lives, refl)
    (λ k. cond_both {A = Reply × World} (is_some (given_at w.given b)) (Refused NotSynced, w) (read_back w b) (λ x. Moves w x.1) (λ t. (flushes_none w.state.lives, refl))
    (λ t. answered (λ x. Moves w x.1) (λ done. Finished done.0 done.1) w (settled_of w.state b (block_of w.image b)) (λ x. (flushes_none w.state.lives, refl)) (λ given e.
    let s = settles (types_now w) w.state given.1 b (block_of w.image b) given.0 e in
    (settled_flushes (types_now w) w.state given.1 h.state b given.0.0 s, s.next))))

moves_both : (u v w : World) → Moves u v → Moves v w → Moves u w
moves_both u v w f g = (flushes_both u.state.lives v.state.lives w.state.lives f.0 g.0, f.1 ∙ g.1)

write_out_moves : (w : World) → Holds w → (b : ℕ) → Moves w (write_out w b)
write_out_moves w h b =
    let one = (begin w b).1 in
    let two = (land one b).1 in
    let three = (sync two b).1 in
    moves_both w one (finish three b).1 (begin_moves w b) (moves_both one two (finish three b).1 (land_moves one b)
    (moves_both two three (finish three b).1 (sync_moves two b) (finish_moves three (sync_keeps two (land_keeps one (begin_keeps w h b) b) b) b)))

drain_for_moves : (n writes : ℕ) (w : World) → Holds w → Moves w (drain_for n writes w).1
drain_for_moves zero writes w h = (flushes_none w.state.lives, refl)
drain_for_moves (suc n) writes w h = go (pick_of w.state) (λ b. moves_both w (write_out w b) (drain_for n (writes + 1) (write_out w b)).1 (write_out_moves w h b) (drain_for_moves n (writes + 1) (write_out w b) (write_out_keeps w h b)))
  where
    go : (o : Option ℕ) → ((b : ℕ) → Moves w (drain_for n (writes + 1) (write_out w b)).1) → Moves w (elim o as (λ x. ℕ × World) [ None ↦ (writes, w) | Some b ↦ drain_for n (writes + 1) (write_out w b) ]).1
    go None more = (flushes_none w.state.lives, refl)
    go (Some b) more = more b

-- With nothing pending left, all is told durable

empty_from : (xs : List BlockState) → length xs ≡ 0 → xs ≡ []
empty_from [] e = refl
empty_from (x ∷ xs) e = absurd (omega arith)

nothing_pending : (lives : Lives) → all_pending lives ≡ 0 → (c : ℕ) (l : Life) → life_at lives c ≡ Some l → l.pending ≡ []
nothing_pending [] e c l at = absurd (none-some l at)
nothing_pending (None ∷ os) e zero l at = absurd (none-some l at)
nothing_pending (Some m ∷ os) e zero l at = let same : m ≡ l = same_Some m l at in ap (λ (x : Life). x.pending) (sym same) ∙ empty_from m.pending (omega arith)
nothing_pending (o ∷ os) e (suc c) l at = nothing_pending os (omega arith) c l at

idle_from : (lives : Lives) → list_any (alive_and (λ l. is_some l.begun)) lives ≡ false → IsIdle lives
idle_from [] e b l at = absurd (none-some l at)
idle_from (None ∷ os) e zero l at = absurd (none-some l at)
idle_from (Some m ∷ os) e zero l at = none_from l.begun (elim (cases_Bool (is_some l.begun)) [
  | inl some ↦
      let same : m ≡ l = same_Some m l at in
      absurd (false≢true (sym e ∙ or_left (is_some m.begun) (list_any (alive_and (λ x. is_some x.begun)) os) (ap (λ (x : Life). is_some x.begun) same ∙ some)))
  | inr none ↦ none
])
idle_from (o ∷ os) e (suc b) l at = idle_from os (elim (cases_Bool (list_any (alive_and (λ x. is_some x.begun)) os)) [
  | inl some ↦ absurd (false≢true (sym e ∙ or_right (alive_and (λ x. is_some x.begun) o) (list_any (alive_and (λ x. is_some x.begun)) os) some))
  | inr none ↦ none
]) b l at

module _ (w : World) (h : Holds w) (hs : Histories) (known : AreHistoriesOf w.state.lives hs) where
  all_told : (new : Lives) → Flushes w.state.lives new → all_pending new ≡ 0 → Turns (types_now w) w.state.next [] None w.state.lives hs new (λ c. option_map telling_all (hs c))
  all_told new f none c l' at =
      let r = f.back c l' at in
      let x = matched (life_at w.state.lives c) (hs c) (known c) r.0 r.1 in
      let nothing : l'.pending ≡ [] = nothing_pending new none c l' at in
      let was : r.0.durable ≡ durable_after r.0.durable = sym x.2.told ∙ (sym (bare_twice (last_told x.0)) ∙ ap durable_after x.2.told) in
      let now : l'.durable ≡ durable_after (newest r.0) = r.2.bare was ∙ (ap (λ xs. durable_after (last_or l'.durable xs)) (sym nothing) ∙ r.2.newest_stays) in
      placed (λ o x. Turn (types_now w) w.state.next [] (None ≡ Some c) o x l' (option_map telling_all x)) (life_at w.state.lives c) (hs c) r.0 x.0 r.1 x.1
      (turn.tells_all (types_now w) w.state.next [] (None ≡ Some c) r.0 l' x.0 x.2 r.2.fs r.2.ty nothing now)

  pub goes_drain : (fs : ℕ) → Goes w hs (Client fs Drain) (drain w)
  goes_drain fs =
      let busy = list_any (alive_and (λ l. is_some l.begun)) w.state.lives in
      let r = drain_for (all_pending w.state.lives) 0 w in
      cond_both {A = Reply × World} busy (Refused InFlight, w) (Drained r.0, r.1) (Goes w hs (Client fs Drain)) (λ t. goes_nowhere w h hs known (Client fs Drain) (Refused InFlight) w refl refl) (λ t.
      let m = drain_for_moves (all_pending w.state.lives) 0 w h in
      let done : drain w ≡ (Drained r.0, r.1) = ap (λ t. cond {A = Reply × World} t (Refused InFlight, w) (Drained r.0, r.1)) t in
      let none : all_pending r.1.state.lives ≡ 0 = ap (λ (x : Reply × World). all_pending x.1.state.lives) (sym done) ∙ (drain_ends w h (idle_from w.state.lives t)).3 in
      record {
        turns = all_told r.1.state.lives m.0 none;
        survive = λ c a l at owned. let s = m.0.forth c a l at owned in (s.0, s.1);
        next = let same = m.1 in omega arith;
        ends = λ c l at gone. let d = m.0.ends c l at gone in inr (d, d.pending);
      })
