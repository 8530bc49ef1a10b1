-- Each call leaves no word above its file system's floor.
use Rattle.std.proofs.Common.{◌≡◌, ◌⊎◌, ℕ, zero, suc, Bool, true, false, List, [], Option, Some, None, Result, Ok, Err, refl, ap, ⊎_elim, arith}
use Rattle.std.specs.Prelude.{IsTrue, OnErr, IfOk, IfErr, IsErrAnd}
use Rattle.xn_model.specs.Types.{Types}
use Rattle.xn_model.specs.Lives.{StoreState}
use Rattle.store_types.specs.declared.refusal.Refusal.{Refusal}
use Rattle.xn_model.specs.Results.{Gives, GivesExactly, result_map}
use Rattle.xn_model.specs.Calls.{Edit, init_of, propose_of, make_root_of, drop_root_of, forget_of, begun_of, settled_of}
use Rattle.xn_state.specs.declared.call.Call.{Call}
use Rattle.xn_state.specs.declared.call.Call.TheVariants.{Init, Propose, MakeRoot, DropRoot, Forget, Read, Root, Kind, Tainted, Pending, Floor, Free, Pick, Drain}
use Rattle.xn_state.specs.declared.answer.Answer.{Answer}
use Rattle.xn_state.specs.Answers.{StateAnswers}
use Rattle.xn_kernel.specs.Kernels.{KernelValue, TicketValue, result_map_err}
use Rattle.xn_kernel.specs.Drains.{Reads, WriteRelation, Round, Rounds, StopsAtDevice, Refuses}
use Rattle.disk.specs.declared.lane.DeviceFault.{DeviceFault}
use Rattle.xn_kernel.specs.Flushes.{WriteEnds, FlushRefuses, Wave, Waves, wave_room, kernel_with_begun}
use Rattle.shared.specs.Floors.{FloorsRise}
use Rattle.shared.specs.Hubs.{NoWordAbove}
use Rattle.shared.proofs.Floors.{init_rises, propose_rises, make_root_rises, drop_root_rises, forget_rises, begun_rises, settled_rises, rises_by, rises_on, begun_ok_rises, settled_ok_rises}

pub below : (words : List ℕ) (old new : StoreState) → NoWordAbove words old → FloorsRise old new → NoWordAbove words new
below words old new h rise fs = omega (arith, h fs, rise fs)

answers_rise : (T : Types) (old new : StoreState) (fs : ℕ) (call : Call) (a : Answer) → StateAnswers T old fs call new a → FloorsRise old new
answers_rise T old new fs (Init ty bytes) a h = init_rises T old new fs ty bytes h.0 h.2
answers_rise T old new fs (Propose b edit) a h = propose_rises T old new fs b edit h.0 h.2
answers_rise T old new fs (MakeRoot b) a h = make_root_rises old new fs b h.0 h.2
answers_rise T old new fs DropRoot a h = drop_root_rises T old new fs h.0 h.2
answers_rise T old new fs (Forget b) a h = forget_rises T old new fs b h.0 h.2
answers_rise T old new fs (Read b) a h = rises_by old new h.1
answers_rise T old new fs Root a h = rises_by old new h.1
answers_rise T old new fs (Kind b) a h = rises_by old new h.1
answers_rise T old new fs (Tainted b) a h = rises_by old new h.1
answers_rise T old new fs Pending a h = rises_by old new h.1
answers_rise T old new fs Floor a h = rises_by old new h.1
answers_rise T old new fs Free a h = rises_by old new h.1
answers_rise T old new fs Pick a h = rises_by old new h.1
answers_rise T old new fs Drain a h = absurd h

pub call_below : (words : List ℕ) (T : Types) (old new : StoreState) (fs : ℕ) (call : Call) (a : Answer) → NoWordAbove words old → StateAnswers T old fs call new a → NoWordAbove words new
call_below words T old new fs call a h answers = below words old new h (answers_rise T old new fs call a answers)

pub init_below : (words : List ℕ) (T : Types) (old new : StoreState) (fs t : ℕ) (bytes : List ℕ) (r : Result (ℕ × ℕ) Refusal) → NoWordAbove words old → Gives (init_of T old fs t bytes) old new r → NoWordAbove words new
init_below words T old new fs t bytes r h gives = below words old new h (init_rises T old new fs t bytes r gives)

pub propose_below : (words : List ℕ) (T : Types) (old new : StoreState) (fs b : ℕ) (edit : Edit) (r : Result ℕ Refusal) → NoWordAbove words old → Gives (propose_of T old fs b edit) old new r → NoWordAbove words new
propose_below words T old new fs b edit r h gives = below words old new h (propose_rises T old new fs b edit r gives)

pub make_root_below : (words : List ℕ) (old new : StoreState) (fs b : ℕ) (r : Result ℕ Refusal) → NoWordAbove words old → Gives (make_root_of old fs b) old new r → NoWordAbove words new
make_root_below words old new fs b r h gives = below words old new h (make_root_rises old new fs b r gives)

pub drop_root_below : (words : List ℕ) (T : Types) (old new : StoreState) (fs : ℕ) (r : Result ℕ Refusal) → NoWordAbove words old → Gives (drop_root_of T old fs) old new r → NoWordAbove words new
drop_root_below words T old new fs r h gives = below words old new h (drop_root_rises T old new fs r gives)

pub forget_below : (words : List ℕ) (T : Types) (old new : StoreState) (fs b : ℕ) (r : Result (Unit {0}) Refusal) → NoWordAbove words old → GivesExactly (forget_of T old fs b) old new r → NoWordAbove words new
forget_below words T old new fs b r h gives = below words old new h (forget_rises T old new fs b r gives)

pub begun_below : (words : List ℕ) (old new : StoreState) (b : ℕ) (r : Result (List ℕ × ℕ) Refusal) → NoWordAbove words old → GivesExactly (begun_of old b) old new r → NoWordAbove words new
begun_below words old new b r h gives = below words old new h (begun_rises old new b r gives)

-- The finish of a write

pub finish_rises : {L A B : Type 0} (old new : KernelValue L) (mine unsynced : Bool) (b : ℕ) (bytes : List ℕ) (result : Result A B) (counts : A → ℕ × ℕ) (refusal : B → Refusal) (Foreign Unsynced Fault : B → Type 0) →
    (mine ≡ false → IsErrAnd result Foreign) →
    (IsTrue mine → IsTrue unsynced → IsErrAnd result Unsynced) →
    (IsTrue mine → unsynced ≡ false → GivesExactly (settled_of old.state b bytes) old.state new.state (result_map counts (result_map_err refusal result)) ⊎ IsErrAnd result Fault) →
    OnErr result (new ≡ old) → FloorsRise old.state new.state
finish_rises old new mine unsynced b bytes (Err back) counts refusal Foreign Unsynced Fault foreign refused ours same = rises_by old.state new.state (ap (λ k. k.state) same)
finish_rises old new true true b bytes (Ok landed) counts refusal Foreign Unsynced Fault foreign refused ours same = absurd (refused refl refl)
finish_rises old new true false b bytes (Ok landed) counts refusal Foreign Unsynced Fault foreign refused ours same =
    ⊎_elim (λ gives. settled_rises old.state new.state b bytes (Ok (counts landed)) gives) (λ fault. absurd fault) (ours refl refl)
finish_rises old new false unsynced b bytes (Ok landed) counts refusal Foreign Unsynced Fault foreign refused ours same = absurd (foreign refl)

-- A drain

module _ {L : Type 0} (bytes : L → List ℕ) (faults : L → ℕ) (writes : WriteRelation L) (syncs reads : Reads L) where
  round_rises : (old new : KernelValue L) → Round bytes faults writes syncs reads old new → FloorsRise old.state new.state
  round_rises old new r =
      let one = begun_ok_rises old.state r.begun r.ticket.block (r.ticket.bytes, r.ticket.count) r.written.begins in
      let two = settled_ok_rises r.begun r.store r.ticket.block r.ticket.bytes (r.ticket.count, r.freed) r.settles in
      let three = rises_by r.store new.state (ap (λ k. k.state) r.next) in
      rises_on old.state r.begun new.state one (rises_on r.begun r.store new.state two three)

  rounds_rise : (n : ℕ) (old new : KernelValue L) → Rounds bytes faults writes syncs reads n old new → FloorsRise old.state new.state
  rounds_rise zero old new e = rises_by old.state new.state (ap (λ k. k.state) e)
  rounds_rise (suc n) old new r = rises_on old.state r.0.state new.state (round_rises old r.0 r.1) (rounds_rise n r.0 new r.2)

  -- a write is begun, and stays so
  begins_then : (old begun new : StoreState) (b : ℕ) (what : List ℕ × ℕ) → begun_of old b ≡ Ok (what, begun) → new ≡ begun → FloorsRise old new
  begins_then old begun new b what begins next = rises_on old begun new (begun_ok_rises old begun b what begins) (rises_by begun new next)

  stops_rise : (old new : KernelValue L) (ticket : Option (TicketValue L)) (refusal : Refusal) → StopsAtDevice bytes faults writes syncs reads old ticket refusal new → FloorsRise old.state new.state
  stops_rise old new None refusal s =
      let u = s.1 in
      let one = begun_ok_rises old.state u.begun u.ticket.block (u.ticket.bytes, u.ticket.count) u.written.begins in
      let two = settled_ok_rises u.begun u.store u.ticket.block (bytes u.settled) (0, 0) u.settles in
      let three = rises_by u.store new.state (ap (λ k. k.state) u.next) in
      rises_on old.state u.begun new.state one (rises_on u.begun u.store new.state two three)
  stops_rise old new (Some back) refusal s = ⊎_elim
      (λ u. begins_then old.state u.begun new.state u.ticket.block (u.ticket.bytes, u.ticket.count) u.written.begins (ap (λ k. k.state) u.next))
      (λ u. begins_then old.state u.begun new.state u.ticket.block (u.ticket.bytes, u.ticket.count) u.written.begins (ap (λ k. k.state) u.next))
      s.1

  refuses_rise : (old new : KernelValue L) (n : ℕ) (ticket : Option (TicketValue L)) (refusal : Refusal) → Refuses bytes faults writes syncs reads old n ticket refusal new → FloorsRise old.state new.state
  refuses_rise old new n ticket refusal h = ⊎_elim
      (λ busy. rises_by old.state new.state (ap (λ k. k.state) busy.4))
      (λ s. rises_on old.state s.0.state new.state (rounds_rise n old s.0 s.1) (stops_rise s.0 new ticket refusal s.2))
      h

  pub drain_rises : {S : Type 0} (old new : KernelValue L) (result : Result ℕ S) (count : S → ℕ) (ticket : S → Option (TicketValue L)) (refusal : S → Refusal) →
      IfOk result (λ n. Rounds bytes faults writes syncs reads n old new) →
      IfErr result (λ stop. Refuses bytes faults writes syncs reads old (count stop) (ticket stop) (refusal stop) new) → FloorsRise old.state new.state
  drain_rises old new (Ok n) count ticket refusal ok err = rounds_rise n old new ok
  drain_rises old new (Err stop) count ticket refusal ok err = refuses_rise old new (count stop) (ticket stop) (refusal stop) err

  -- A flush

  ends_rise : (answer : Result (Unit {0}) DeviceFault) (home : L) (ticket : TicketValue L) (old : KernelValue L) (before : List (TicketValue L)) (is_durable : Bool) (new : KernelValue L) (after : List (TicketValue L)) →
      WriteEnds bytes faults syncs reads answer home ticket old before is_durable new after → FloorsRise old.state new.state
  ends_rise answer home ticket old before true new after e =
      let x = e.0 in
      rises_on old.state x.store new.state (settled_ok_rises old.state x.store ticket.block ticket.bytes (ticket.count, x.freed) x.settles) (rises_by x.store new.state (ap (λ k. k.state) x.next))
  ends_rise answer home ticket old before false new after e = ⊎_elim
      (λ kept.
      let x = kept.0 in
      rises_on old.state x.store new.state (settled_ok_rises old.state x.store ticket.block (bytes x.settled) (0, 0) x.settles) (rises_by x.store new.state (ap (λ k. k.state) x.next)))
      (λ stays. rises_by old.state new.state (ap (λ k. k.state) stays.2))
      e

  wave_rises : (n room durable : ℕ) (old : KernelValue L) (before : List (TicketValue L)) (new : KernelValue L) (after : List (TicketValue L)) →
      Wave bytes faults writes syncs reads n room durable old before new after → FloorsRise old.state new.state
  wave_rises zero room durable old before new after w = rises_by old.state new.state (ap (λ k. k.state) w.1)
  wave_rises (suc n) room durable old before new after w =
      let one = begun_ok_rises old.state w.begun w.ticket.block (w.ticket.bytes, w.ticket.count) w.written.begins in
      let two = wave_rises n w.left w.others (kernel_with_begun old w.ticket.block w.begun) before w.mid w.between w.rest in
      let three = ends_rise w.answer w.written.home w.ticket w.mid w.between w.is_durable new after w.ends in
      rises_on old.state w.begun new.state one (rises_on w.begun w.mid.state new.state two three)

  waves_rise : (n : ℕ) (old new : KernelValue L) → Waves bytes faults writes syncs reads n old new → FloorsRise old.state new.state
  waves_rise zero old new e = rises_by old.state new.state (ap (λ k. k.state) e)
  waves_rise (suc n) old new w =
      rises_on old.state w.0.state new.state (wave_rises w.1.blocks wave_room w.1.blocks old [] w.0 [] w.1.wave) (waves_rise n w.0 new w.2)

  flush_refuses_rise : (old new : KernelValue L) (n : ℕ) (tickets : List (TicketValue L)) (refusal : Refusal) → FlushRefuses bytes faults writes syncs reads old n tickets refusal new → FloorsRise old.state new.state
  flush_refuses_rise old new n tickets refusal h = ⊎_elim
      (λ busy. rises_by old.state new.state (ap (λ k. k.state) busy.4))
      (λ idle. ⊎_elim
      (λ wanting. rises_by old.state new.state (ap (λ k. k.state) wanting.3))
      (λ s. rises_on old.state s.0.state new.state (waves_rise n old s.0 s.1) (wave_rises s.2.blocks wave_room s.2.durable s.0 [] new tickets s.2.wave))
      idle.1)
      h

  pub flush_rises : {S : Type 0} (old new : KernelValue L) (result : Result ℕ S) (count : S → ℕ) (tickets : S → List (TicketValue L)) (refusal : S → Refusal) →
      IfOk result (λ n. Waves bytes faults writes syncs reads n old new) →
      IfErr result (λ stop. FlushRefuses bytes faults writes syncs reads old (count stop) (tickets stop) (refusal stop) new) → FloorsRise old.state new.state
  flush_rises old new (Ok n) count tickets refusal ok err = waves_rise n old new ok
  flush_rises old new (Err stop) count tickets refusal ok err = flush_refuses_rise old new (count stop) (tickets stop) (refusal stop) err
