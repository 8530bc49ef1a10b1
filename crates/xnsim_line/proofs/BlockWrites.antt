-- What events write, and what drains do round by round.
use Rattle.std.proofs.Common.{◌≡◌, ◌≤◌, ◌<◌, ◌+◌, ◌-◌, ℕ, zero, suc, Bool, true, false, Option, None, Some, Result, Ok, Err, refl, sym, ◌∙◌, ap, inl, inr, arith}
use Rattle.std.specs.Prelude.{◌⊎◌, cond, is_some, not, ◌&&◌}
use Rattle.std.proofs.lemmas.Bool.{cond_both, false≢true}
use Rattle.std.proofs.lemmas.Option.{none-some}
use Rattle.store_types.specs.declared.refusal.Refusal.{Refusal}
use Rattle.store_types.specs.declared.refusal.Refusal.TheVariants.{InFlight, NoMemory, NotSynced}
use Rattle.xn_model.specs.Images.{block_of}
use Rattle.xn_model.specs.Lives.{Life, StoreState, life_at, alive_and}
use Rattle.xn_model.specs.Calls.{init_of, propose_of, make_root_of, drop_root_of, forget_of, install_of, read_of, kind_of, begun_of, settled_of, pick_of}
use Rattle.xn_model.specs.Rules.{Holds}
use Rattle.xn_model.specs.Worlds as model
use Rattle.xn_model.specs.Worlds.{World, Step, act, act_up, begun_count, reply_and_world, reply_alone, with_ticket, asks_memory, is_crash, AfterCall, all_pending, drain_for, given_at, install, read_back, types_now, write_out}
use Rattle.xn_model.proofs.ForCallers.{drain_ends, none_picked}
use Rattle.xn_kernel.proofs.ForCallers.{idle_from}
use Rattle.world.specs.Worlds.{is_any_in_flight}
use Rattle.xnsim_line.specs.Stops.{writes_of, writes_by, is_drain, is_failed_sync, is_write}

-- one write, or none
abbrev pub one_if : Bool → ℕ
one_if x = cond x 1 0

-- What an event writes that is no drain

of_result : {A : Type 0} (reply : A → model.Reply) (w : World) (r : Result (A × StoreState) Refusal) → ((x : A) → writes_of (reply x) ≡ 0) → writes_of (reply_and_world reply w r).0 ≡ 0
of_result reply w (Ok given) none = none given.0
of_result reply w (Err refusal) none = refl

of_answer : {A : Type 0} (reply : A → model.Reply) (r : Result A Refusal) → ((x : A) → writes_of (reply x) ≡ 0) → writes_of (reply_alone reply r) ≡ 0
of_answer reply (Ok x) none = none x
of_answer reply (Err refusal) none = refl

call_counts : (w : World) (fs : ℕ) (c : model.Call) → is_drain (model.Client fs c) ≡ false → writes_of (model.call w fs c).0 ≡ 0
call_counts w fs (model.Init t m) other = of_result (λ made. model.Started made.0 made.1) w (init_of (types_now w) w.state fs t m) (λ x. refl)
call_counts w fs (model.Propose b e) other = of_result model.Edited w (propose_of (types_now w) w.state fs b e) (λ x. refl)
call_counts w fs (model.MakeRoot b) other = of_result model.Edited w (make_root_of w.state fs b) (λ x. refl)
call_counts w fs model.DropRoot other = of_result model.Edited w (drop_root_of (types_now w) w.state fs) (λ x. refl)
call_counts w fs (model.Forget b) other = of_result (λ done. model.Forgotten) w (forget_of (types_now w) w.state fs b) (λ x. refl)
call_counts w fs (model.Read b) other = of_answer model.Bytes (read_of w.state fs b) (λ x. refl)
call_counts w fs model.Root other = refl
call_counts w fs (model.Kind b) other = of_answer model.KindIs (kind_of w.state fs b) (λ x. refl)
call_counts w fs (model.Tainted b) other = refl
call_counts w fs model.Pending other = refl
call_counts w fs model.Floor other = refl
call_counts w fs model.FreeCount other = refl
call_counts w fs model.Pick other = refl
call_counts w fs model.Drain other = absurd (false≢true (sym other))

ticket_counts : (w : World) (g : Option ℕ) (go : ℕ → model.Reply × World) → ((k : ℕ) → writes_of (go k).0 ≡ 1) → writes_of (with_ticket w g go).0 ≡ one_if (is_some g)
ticket_counts w None go each = refl
ticket_counts w (Some k) go each = each k

write_counts : (w : World) (o : Option Life) (go : ℕ → model.Reply × World) → ((k : ℕ) → writes_of (go k).0 ≡ 1) →
    writes_of (with_ticket w (begun_count o) go).0 ≡ one_if (alive_and (λ l. is_some l.begun) o)
write_counts w None go each = refl
write_counts w (Some l) go each = ticket_counts w l.begun go each

no_write : (w : World) (g : Option ℕ) (go : ℕ → model.Reply × World) → ((k : ℕ) → writes_of (go k).0 ≡ 0) → writes_of (with_ticket w g go).0 ≡ 0
no_write w None go each = refl
no_write w (Some k) go each = each k

up_or_down : (w : World) (d : Bool) (p : model.Reply × World) (n : ℕ) → writes_of p.0 ≡ n → writes_of (cond d (model.Down, w) p).0 ≤ n
up_or_down w true p n counts = omega arith
up_or_down w false p n counts = omega (arith, counts)

event_counts : (w : World) (e : model.Event) → is_drain e ≡ false → writes_by e (act w e).0 ≤ one_if (is_write w e)
event_counts w (model.Client fs c) other = up_or_down w (w.down && true) (model.call w fs c) 0 (call_counts w fs c other)
event_counts w (model.Install m) other =
    up_or_down w (w.down && true) (install w m) 0 (of_result (λ made. model.Installed made.0 made.1 made.2 (made.2 + 1)) w (install_of w.language w.state m) (λ y. refl))
event_counts w (model.Begin b) other = up_or_down w (w.down && true) (model.begin w b) 0 (of_result (λ begun. model.Begun begun.1) w (begun_of w.state b) (λ y. refl))
event_counts w (model.Land b) other = up_or_down w (w.down && true) (model.land w b) _ (write_counts w (life_at w.state.lives b) _ (λ k. refl))
event_counts w (model.Fail b stays) other = up_or_down w (w.down && true) (model.fail w b stays) _ (write_counts w (life_at w.state.lives b) _ (λ k. refl))
event_counts w (model.Sync b) other = up_or_down w (w.down && true) (model.sync w b) 0 (no_write w (begun_count (life_at w.state.lives b)) _ (λ k. refl))
event_counts w (model.FailSync b) other = omega arith
event_counts w (model.Finish b) other =
    up_or_down w (w.down && true) (model.finish w b) 0
    (no_write w (begun_count (life_at w.state.lives b)) _ (λ k. cond_both {A = model.Reply × World} (is_some (given_at w.given b)) (model.Refused NotSynced, w) (read_back w b) (λ x. writes_of x.0 ≡ 0)
    (λ t. refl) (λ t. of_result (λ done. model.Finished done.0 done.1) w (settled_of w.state b (block_of w.image b)) (λ y. refl))))
event_counts w (model.Crash kept) other = up_or_down w (w.down && false) (model.crash w kept) 0 refl

no_memory_counts : (e : model.Event) → writes_by e (model.Refused NoMemory) ≡ 0
no_memory_counts e = cond_both (is_failed_sync e) 0 0 (λ n. n ≡ 0) (λ t. refl) (λ t. refl)

after_counts : (w : World) (e : model.Event) (r : model.Reply) (w' : World) → AfterCall w e r w' → is_drain e ≡ false → writes_by e r ≤ one_if (is_write w e)
after_counts w e r w' (inl same) other = let few = event_counts w e other in let it = ap (writes_by e) same.0 in omega (arith, few, it)
after_counts w e r w' (inr memory) other = let none = ap (writes_by e) memory.1.1.1.0 ∙ no_memory_counts e in omega (arith, none)

-- an event that is no drain writes at most one block, and none where it is no write
pub step_counts : (w : World) (e : model.Event) (r : model.Reply) (w' : World) → Step w e r w' → is_drain e ≡ false → writes_by e r ≤ one_if (is_write w e)
step_counts w (model.Client fs c) r w' step other = after_counts w (model.Client fs c) r w' step other
step_counts w (model.Install m) r w' step other = after_counts w (model.Install m) r w' step other
step_counts w (model.Begin b) r w' step other = after_counts w (model.Begin b) r w' step other
step_counts w (model.Land b) r w' step other = after_counts w (model.Land b) r w' step other
step_counts w (model.Fail b stays) r w' step other = after_counts w (model.Fail b stays) r w' step other
step_counts w (model.Sync b) r w' step other = after_counts w (model.Sync b) r w' step other
step_counts w (model.FailSync b) r w' step other = after_counts w (model.FailSync b) r w' step other
step_counts w (model.Finish b) r w' step other = after_counts w (model.Finish b) r w' step other
step_counts w (model.Crash kept) r w' step other = elim step.2 [
  | inl mounted ↦ let none = ap writes_of mounted.0 in omega (arith, none)
  | inr down ↦ let none = ap writes_of down.0 in omega (arith, none)
]

-- Drains that are refused

-- One round of a drain

-- what an event does that asks for no memory, while the world is up
acts : (w : World) (e : model.Event) (r : model.Reply) (w' : World) → AfterCall w e r w' → asks_memory e ≡ false → w.down ≡ false → is_crash e ≡ false → (r ≡ (act_up w e).0) × (w' ≡ (act_up w e).1)
acts w e r w' (inr memory) asks up other = absurd (false≢true (sym asks ∙ memory.0))
acts w e r w' (inl same) asks up other =
    let is : act w e ≡ act_up w e = ap (λ d. cond {A = model.Reply × World} (d && not (is_crash e)) (model.Down, w) (act_up w e)) up in
    (same.0 ∙ ap (λ (p : model.Reply × World). p.0) is, same.1 ∙ ap (λ (p : model.Reply × World). p.1) is)

down_result : {A : Type 0} (reply : A → model.Reply) (w : World) (r : Result (A × StoreState) Refusal) → (reply_and_world reply w r).1.down ≡ w.down
down_result reply w (Ok given) = refl
down_result reply w (Err refusal) = refl

down_ticket : (w : World) (g : Option ℕ) (go : ℕ → model.Reply × World) → ((k : ℕ) → (go k).1.down ≡ w.down) → (with_ticket w g go).1.down ≡ w.down
down_ticket w None go each = refl
down_ticket w (Some k) go each = each k

-- begin, land, sync and finish write a block out
pub wrote : (w w1 w2 w3 w4 : World) (b : ℕ) (r1 r2 r3 r4 : model.Reply) → w.down ≡ false → Step w (model.Begin b) r1 w1 → Step w1 (model.Land b) r2 w2 → Step w2 (model.Sync b) r3 w3 →
    Step w3 (model.Finish b) r4 w4 → (w4 ≡ write_out w b) × (w4.down ≡ false)
wrote w w1 w2 w3 w4 b r1 r2 r3 r4 up begins lands syncs finishes =
    let one = (acts w (model.Begin b) r1 w1 begins refl up refl).1 in
    let up1 : w1.down ≡ false = ap (λ (v : World). v.down) one ∙ (down_result (λ begun. model.Begun begun.1) w (begun_of w.state b) ∙ up) in
    let two = (acts w1 (model.Land b) r2 w2 lands refl up1 refl).1 in
    let up2 : w2.down ≡ false = ap (λ (v : World). v.down) two ∙ (down_ticket w1 (begun_count (life_at w1.state.lives b)) _ (λ k. refl) ∙ up1) in
    let three = (acts w2 (model.Sync b) r3 w3 syncs refl up2 refl).1 in
    let up3 : w3.down ≡ false = ap (λ (v : World). v.down) three ∙ (down_ticket w2 (begun_count (life_at w2.state.lives b)) _ (λ k. refl) ∙ up2) in
    let four = (acts w3 (model.Finish b) r4 w4 finishes refl up3 refl).1 in
    let up4 : w4.down ≡ false = ap (λ (v : World). v.down) four ∙ (down_ticket w3 (begun_count (life_at w3.state.lives b)) _
    (λ k. cond_both {A = model.Reply × World} (is_some (given_at w3.given b)) (model.Refused NotSynced, w3) (read_back w3 b) (λ x. x.1.down ≡ w3.down)
    (λ t. refl) (λ t. down_result (λ done. model.Finished done.0 done.1) w3 (settled_of w3.state b (block_of w3.image b)))) ∙ up3) in
    (four ∙ (ap (λ v. (model.finish v b).1) three ∙ (ap (λ v. (model.finish (model.sync v b).1 b).1) two ∙ ap (λ v. (model.finish (model.sync (model.land v b).1 b).1 b).1) one)), up4)

-- what is picked
pub picks : (w : World) (fs : ℕ) (r : model.Reply) (w' : World) → w.down ≡ false → Step w (model.Client fs model.Pick) r w' → (r ≡ model.Picked (pick_of w.state)) × (w' ≡ w)
picks w fs r w' up step = acts w (model.Client fs model.Pick) r w' step refl up refl

-- Rounds

pub none_left : (fuel writes : ℕ) (w : World) → pick_of w.state ≡ None → drain_for fuel writes w ≡ (writes, w)
none_left zero writes w none = refl
none_left (suc fuel) writes w none = ap (λ o. elim o as (λ _. ℕ × World) [ None ↦ (writes, w) | Some b ↦ drain_for fuel (writes + 1) (write_out w b) ]) none

some_left : (fuel writes : ℕ) (w : World) (b : ℕ) → pick_of w.state ≡ Some b → drain_for (suc fuel) writes w ≡ drain_for fuel (writes + 1) (write_out w b)
some_left fuel writes w b some = ap (λ o. elim o as (λ _. ℕ × World) [ None ↦ (writes, w) | Some c ↦ drain_for fuel (writes + 1) (write_out w c) ]) some

-- one round of so many
pub one_round : (n k : ℕ) (w : World) (b : ℕ) → k < n → pick_of w.state ≡ Some b → drain_for (n - k) k w ≡ drain_for (n - (k + 1)) (k + 1) (write_out w b)
one_round n k w b more some =
    let rest : n - k ≡ suc (n - (k + 1)) = omega (arith, more) in
    ap (λ fuel. drain_for fuel k w) rest ∙ some_left (n - (k + 1)) k w b some

pick_cases : (o : Option ℕ) → (o ≡ None) ⊎ ((b : ℕ) × (o ≡ Some b))
pick_cases None = inl refl
pick_cases (Some b) = inr (b, refl)

-- where a block is still picked, all rounds were done
pub all_done : (n k : ℕ) (w : World) (m : ℕ) (after : World) (b : ℕ) → drain_for n k w ≡ (m, after) → pick_of after.state ≡ Some b → m ≡ k + n
all_done zero k w m after b e some = let same : k ≡ m = ap (λ (p : ℕ × World). p.0) e in omega (arith, same)
all_done (suc n) k w m after b e some = elim (pick_cases (pick_of w.state)) [
  | inl none ↦
      let same : w ≡ after = ap (λ (p : ℕ × World). p.1) (sym (none_left (suc n) k w none) ∙ e) in
      absurd (none-some b (sym none ∙ (ap (λ (v : World). pick_of v.state) same ∙ some)))
  | inr picked ↦ let rest = all_done n (k + 1) (write_out w picked.0) m after b (sym (some_left n k w picked.0 picked.1) ∙ e) some in omega (arith, rest)
]

-- a drain that picks nothing any more ends as one with more rounds
same_end : (n f k : ℕ) (w : World) → pick_of (drain_for n k w).1.state ≡ None → pick_of (drain_for f k w).1.state ≡ None → drain_for n k w ≡ drain_for f k w
same_end zero f k w p q = sym (none_left f k w p)
same_end (suc n) zero k w p q = none_left (suc n) k w q
same_end (suc n) (suc f) k w p q = elim (pick_cases (pick_of w.state)) [
  | inl none ↦ none_left (suc n) k w none ∙ sym (none_left (suc f) k w none)
  | inr picked ↦
      let first = some_left n k w picked.0 picked.1 in
      let second = some_left f k w picked.0 picked.1 in
      first
      ∙ (same_end n f (k + 1) (write_out w picked.0) (sym (ap (λ (r : ℕ × World). pick_of r.1.state) first) ∙ p) (sym (ap (λ (r : ℕ × World). pick_of r.1.state) second) ∙ q)
      ∙ sym second)
]

-- a drain with nothing left to pick is a client's
pub whole_drain : (w : World) (fs n m : ℕ) (after : World) → Holds w → w.down ≡ false → is_any_in_flight w.state ≡ false → drain_for n 0 w ≡ (m, after) → pick_of after.state ≡ None →
    Step w (model.Client fs model.Drain) (model.Drained m) after
whole_drain w fs n m after holds up calm rounds none =
    let fuel = all_pending w.state.lives in
    let ends = drain_ends w holds (idle_from w.state.lives calm) in
    let go : act w (model.Client fs model.Drain) ≡ (model.Drained (drain_for fuel 0 w).0, (drain_for fuel 0 w).1) =
    ap (λ d. cond {A = model.Reply × World} (d && true) (model.Down, w) (model.drain w)) up
    ∙ ap (λ x. cond {A = model.Reply × World} x (model.Refused InFlight, w) (model.Drained (drain_for fuel 0 w).0, (drain_for fuel 0 w).1)) calm in
    let last : pick_of (model.drain w).1.state ≡ None = none_picked (model.drain w).1.state ends.3 in
    let done : (model.drain w).1 ≡ (drain_for fuel 0 w).1 =
    ap (λ x. (cond {A = model.Reply × World} x (model.Refused InFlight, w) (model.Drained (drain_for fuel 0 w).0, (drain_for fuel 0 w).1)).1) calm in
    let same : drain_for fuel 0 w ≡ (m, after) =
    sym (same_end n fuel 0 w (ap (λ (p : ℕ × World). pick_of p.1.state) rounds ∙ none) (sym (ap (λ (v : World). pick_of v.state) done) ∙ last)) ∙ rounds in
    let acted : act w (model.Client fs model.Drain) ≡ (model.Drained m, after) = go ∙ ap (λ (p : ℕ × World). (model.Drained p.0, p.1)) same in
    inl (sym (ap (λ (p : model.Reply × World). p.0) acted), sym (ap (λ (p : model.Reply × World). p.1) acted))
