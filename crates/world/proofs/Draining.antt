-- A drain of a world is the model's.
use Rattle.std.proofs.Common.{◌≡◌, ℕ, zero, suc, ◌+◌, ◌<◌, ◌≤◌, false, cond, List, [], ◌∷◌, length, Option, Some, None, Result, Ok, Err, refl, sym, ◌∙◌, ap, inl, inr, arith, subst, slice_set}
use Rattle.std.specs.Prelude.{is_some, option_map}
use Rattle.std.specs.List.{list_any}
use Rattle.std.proofs.lemmas.Bool.{cases_eq, false≢true, or_from}
use Rattle.std.proofs.lemmas.Option.{same_Some, slice_get_within}
use Rattle.std.proofs.lemmas.List.{length-set}
use Rattle.disk.specs.declared.lane.DeviceFault.{DeviceFault}
use Rattle.disk.specs.Mem.{MemoryLane, memory_read, memory_write, memory_sync, synced}
use Rattle.store_types.specs.declared.refusal.Refusal.{Refusal}
use Rattle.store_types.specs.declared.refusal.Refusal.TheVariants.{InFlight}
use Rattle.xn_model.specs.Lives.{Lives, life_at, alive_and}
use Rattle.xn_model.specs.Lanes.{FitLives}
use Rattle.xn_model.specs.Flights.{flight_of}
use Rattle.xn_model.specs.Calls.{pick_of, settled_of, bytes_at}
use Rattle.xn_model.specs.Worlds as model
use Rattle.xn_model.specs.Worlds.{World, Reply, Client, Drained, Refused, write_out, drain_for, all_pending, Step}
use Rattle.xn_model.specs.Rules.{Holds, IsIdle}
use Rattle.xn_model.proofs.ForCallers.{picked_life, wrote_out, none_picked, begun_keeps, write_out_keeps}
use Rattle.xn_model.proofs.ForCallers as lemmas
use Rattle.xn_state.specs.States.{own_types}
use Rattle.xn_kernel.specs.Kernels.{KernelValue, TicketValue}
use Rattle.xn_kernel.specs.Drains.{with_home, Round, Rounds, Unwritten, Unsynced, Unread, Refuses}
use Rattle.xn_kernel.proofs.ForCallers.{set_twice}
use Rattle.world.specs.Disks.{image_of, settled_image, given_to, IsCalm, IsAtRest}
use Rattle.world.specs.Worlds.{Tickets, world_of, IsWorld}
use Rattle.world.proofs.Images.{known_of-home, length-image_of}
use Rattle.world.proofs.Places.{place_at, place_at-same, place_at-other, full_place, full_get}

abbrev bytes : MemoryLane → List ℕ
bytes l = l.bytes

abbrev faults : MemoryLane → ℕ
faults l = l.faults

-- a lane that is told no failure answers Ok
calm_write : (home next : MemoryLane) (xs : List ℕ) (answer : Result (Unit {0}) DeviceFault) → IsCalm home → memory_write home xs answer next → next ≡ record home { bytes = xs; given = Some xs }
calm_write home next xs (Ok done) calm gives = gives.1
calm_write home next xs (Err fault) calm gives = absurd (false≢true (ap is_some (sym calm.0) ∙ gives.0))

calm_read : (lane next : MemoryLane) (fault : DeviceFault) → IsCalm lane → memory_read lane (Err fault) next → ⊥
calm_read lane next fault calm gives = false≢true (sym calm.1 ∙ gives.0)

calm_sync : (lane next : MemoryLane) (fault : DeviceFault) → IsCalm lane → memory_sync lane (Err fault) next → ⊥
calm_sync lane next fault calm gives = false≢true (sym calm.2 ∙ gives.0)

written_calm : (home next : MemoryLane) (xs : List ℕ) → IsCalm home → next ≡ record home { bytes = xs; given = Some xs } → IsCalm next
written_calm home next xs calm e = (ap (λ (l : MemoryLane). l.write_fault) e ∙ calm.0, ap (λ (l : MemoryLane). l.read_fault) e ∙ calm.1, ap (λ (l : MemoryLane). l.sync_fault) e ∙ calm.2)

synced_calm : (lane next : MemoryLane) → IsCalm lane → next ≡ synced lane → IsCalm next
synced_calm lane next calm e = (ap (λ (l : MemoryLane). l.write_fault) e ∙ calm.0, ap (λ (l : MemoryLane). l.read_fault) e ∙ calm.1, ap (λ (l : MemoryLane). l.sync_fault) e ∙ calm.2)

-- One round

module _ (kernel : KernelValue MemoryLane) (tickets : Tickets) (is : IsWorld kernel tickets) (next : KernelValue MemoryLane) (r : Round bytes faults memory_write memory_sync memory_read kernel next) where
  abbrev b : ℕ
  b = r.ticket.block

  abbrev home : MemoryLane
  home = r.written.home

  abbrev finished : KernelValue MemoryLane
  finished = with_home kernel b r.lane r.store

  calm_home : IsCalm home
  calm_home = (is.calm b home r.written.taken).0

  written_is : r.ticket.lane ≡ record home { bytes = r.ticket.bytes; given = Some r.ticket.bytes }
  written_is = calm_write home r.ticket.lane r.ticket.bytes r.answer calm_home r.written.gives

  lane_is : r.lane ≡ synced (record home { bytes = r.ticket.bytes; given = Some r.ticket.bytes })
  lane_is = r.gives.1 ∙ (r.synced.1 ∙ ap synced written_is)

  within_lanes : b < length kernel.lanes
  within_lanes = slice_get_within kernel.lanes b (Some home) r.written.taken

  finished_world : world_of finished tickets ≡ write_out (world_of kernel tickets) b
  finished_world =
      let within : b < length (image_of kernel.lanes tickets) = let lt = within_lanes in let long = length-image_of kernel.lanes tickets in omega arith in
      let out = wrote_out (world_of kernel tickets) b r.ticket.bytes r.ticket.count r.begun (r.ticket.count, r.freed) r.store r.written.begins r.settles within in
      let image = known_of-home (λ l. l.bytes) [] kernel.lanes tickets b home r.lane r.written.taken ∙ ap (slice_set (image_of kernel.lanes tickets) b) r.kept in
      let settled = known_of-home (λ l. l.settled) [] kernel.lanes tickets b home r.lane r.written.taken ∙ ap (slice_set (settled_image kernel.lanes tickets) b) (ap (λ (l : MemoryLane). l.settled) lane_is) in
      let given = known_of-home (λ l. l.given) None kernel.lanes tickets b home r.lane r.written.taken ∙ ap (slice_set (given_to kernel.lanes tickets) b) (ap (λ (l : MemoryLane). l.given) lane_is) in
      (λ i. record (world_of kernel tickets) { image = image i; settled = settled i; given = given i; state = r.store }) ∙ sym out

  finished_is_world : IsWorld finished tickets
  finished_is_world =
      let T = own_types kernel.state in
      let store = kernel.state in
      let picked = picked_life store b r.written.picked in
      let begins = begun_keeps T store is.holds.state b (r.ticket.bytes, r.ticket.count) r.begun r.written.begins in
      let started = lemmas.flights_begun store r.begun b (r.ticket.bytes, r.ticket.count) r.written.begins in
      let ended = lemmas.flights_settled T r.begun r.store b r.ticket.bytes (r.ticket.count, r.freed) begins.consistent r.settles in
      let away = lemmas.lanes_begun bytes kernel.lanes store r.begun b (r.ticket.bytes, r.ticket.count) r.written.begins is.fit in
      let back = lemmas.lanes_settled T bytes (slice_set kernel.lanes b None) r.begun r.store b r.lane (r.ticket.count, r.freed) begins.consistent (ap (settled_of r.begun b) r.kept ∙ r.settles) away in
      let idle : flight_of (life_at store.lives b) ≡ None = ap flight_of picked.1 ∙ ap (option_map {U = ℕ × List ℕ} (λ k. (k, bytes_at k picked.0))) picked.2 in
      record {
        holds = subst Holds (sym finished_world) (write_out_keeps (world_of kernel tickets) is.holds b);
        fit = subst (λ lanes. FitLives bytes lanes r.store.lives) (set_twice kernel.lanes b None (Some r.lane)) back;
        calm = λ c l at. elim (cases_eq c b) [
          | inl same ↦
              let it : r.lane ≡ l = same_Some r.lane l (sym (place_at-same kernel.lanes b (Some r.lane) within_lanes) ∙ (ap (place_at (slice_set kernel.lanes b (Some r.lane))) (sym same) ∙ full_place (slice_set kernel.lanes b (Some r.lane)) c l at)) in
              subst (λ x. IsCalm x × IsAtRest x) it (
                synced_calm (record home { bytes = r.ticket.bytes; given = Some r.ticket.bytes }) r.lane (written_calm home (record home { bytes = r.ticket.bytes; given = Some r.ticket.bytes }) r.ticket.bytes calm_home refl) lane_is,
                (ap (λ (l : MemoryLane). l.given) lane_is, ap (λ (l : MemoryLane). l.settled) lane_is ∙ sym (ap (λ (l : MemoryLane). l.bytes) lane_is)),
              )
          | inr other ↦ is.calm c l (full_get kernel.lanes c l (sym (place_at-other kernel.lanes b c (Some r.lane) other) ∙ full_place (slice_set kernel.lanes b (Some r.lane)) c l at))
        ];
        count = is.count ∙ sym (length-set kernel.lanes b (Some r.lane));
        flights = λ c. elim (cases_eq c b) [
          | inl same ↦ is.flights c ∙ (ap (λ n. flight_of (life_at store.lives n)) same ∙ (idle ∙ (sym ended.0 ∙ sym (ap (λ n. flight_of (life_at r.store.lives n)) same))))
          | inr other ↦ is.flights c ∙ (sym (started.1 c other) ∙ sym (ended.1 c other))
        ];
        mine = λ c t at. let m = is.mine c t at in record { kernel_is = m.kernel_is; block_is = m.block_is; calm = m.calm; unsynced = m.unsynced };
      }

  pub round_is_world : IsWorld next tickets
  round_is_world = subst (λ k. IsWorld k tickets) (sym r.next) finished_is_world

  pub round_writes_out : write_out (world_of kernel tickets) b ≡ world_of next tickets
  round_writes_out = sym finished_world ∙ ap (λ k. world_of k tickets) (sym r.next)

-- All rounds

module _ (tickets : Tickets) (next : KernelValue MemoryLane) where
  pub rounds_world : (n : ℕ) (kernel : KernelValue MemoryLane) → IsWorld kernel tickets → Rounds bytes faults memory_write memory_sync memory_read n kernel next → IsWorld next tickets
  rounds_world zero kernel is e = subst (λ k. IsWorld k tickets) (sym e) is
  rounds_world (suc n) kernel is rounds = rounds_world n rounds.0 (round_is_world kernel tickets is rounds.0 rounds.1) rounds.2

  none_left : (fuel writes : ℕ) (w : World) → pick_of w.state ≡ None → drain_for fuel writes w ≡ (writes, w)
  none_left zero writes w none = refl
  none_left (suc fuel) writes w none = ap (λ o. elim o as (λ _. ℕ × World) [ None ↦ (writes, w) | Some b ↦ drain_for fuel (writes + 1) (write_out w b) ]) none

  rounds_drain : (n fuel writes : ℕ) (kernel : KernelValue MemoryLane) → IsWorld kernel tickets → Rounds bytes faults memory_write memory_sync memory_read n kernel next → n ≤ fuel → pick_of next.state ≡ None →
      drain_for fuel writes (world_of kernel tickets) ≡ (writes + n, world_of next tickets)
  rounds_drain zero fuel writes kernel is e le none =
      let same : writes + 0 ≡ writes = omega arith in
      none_left fuel writes (world_of kernel tickets) (ap (λ (k : KernelValue MemoryLane). pick_of k.state) (sym e) ∙ none)
      ∙ (λ i. (sym same i, world_of (sym e i) tickets))
  rounds_drain (suc n) zero writes kernel is rounds le none = absurd (omega arith)
  rounds_drain (suc n) (suc fuel) writes kernel is rounds le none =
      let w = world_of kernel tickets in
      let next_is : writes + 1 + n ≡ writes + suc n = omega arith in
      let few : n ≤ fuel = omega arith in
      ap (λ o. elim o as (λ _. ℕ × World) [ None ↦ (writes, w) | Some b ↦ drain_for fuel (writes + 1) (write_out w b) ]) rounds.1.written.picked
      ∙ (ap (drain_for fuel (writes + 1)) (round_writes_out kernel tickets is rounds.0 rounds.1)
      ∙ (rounds_drain n fuel (writes + 1) rounds.0 (round_is_world kernel tickets is rounds.0 rounds.1) rounds.2 few none
      ∙ ap {A = ℕ} (λ m. (m, world_of next tickets)) next_is))

none_begun : (lives : Lives) → IsIdle lives → list_any (alive_and (λ l. is_some l.begun)) lives ≡ false
none_begun [] idle = refl
none_begun (None ∷ os) idle = none_begun os (λ b l e. idle (suc b) l e)
none_begun (Some l ∷ os) idle = or_from (is_some l.begun) (list_any (alive_and (λ x. is_some x.begun)) os) (ap is_some (idle 0 l refl)) (none_begun os (λ b m e. idle (suc b) m e))

module _ (kernel : KernelValue MemoryLane) (tickets : Tickets) (is : IsWorld kernel tickets) (fs : ℕ) (next : KernelValue MemoryLane) where
  told : (reply : Reply) (after : World) → model.drain (world_of kernel tickets) ≡ (reply, after) → Step (world_of kernel tickets) (Client fs model.Drain) reply after
  told reply after acts = inl (sym (ap (λ (x : Reply × World). x.0) acts), sym (ap (λ (x : Reply × World). x.1) acts))

  -- what a drain says of the number of its writes
  pub drain_step : (n : ℕ) → Rounds bytes faults memory_write memory_sync memory_read n kernel next → IsIdle kernel.state.lives → all_pending next.state.lives ≡ 0 → n ≤ all_pending kernel.state.lives →
      Step (world_of kernel tickets) (Client fs model.Drain) (Drained n) (world_of next tickets)
  drain_step n rounds idle done few =
      let w = world_of kernel tickets in
      let fuel = all_pending kernel.state.lives in
      let all : 0 + n ≡ n = omega arith in
      told (Drained n) (world_of next tickets)
      (ap (λ t. cond {A = Reply × World} t (Refused InFlight, w) (let r = drain_for fuel 0 w in (Drained r.0, r.1))) (none_begun kernel.state.lives idle)
      ∙ (ap (λ (r : ℕ × World). (Drained r.0, r.1)) (rounds_drain tickets next n fuel 0 kernel is rounds few (none_picked next.state done)) ∙ ap {A = ℕ} (λ m. (Drained m, world_of next tickets)) all))

  never_unwritten : (mid : KernelValue MemoryLane) → IsWorld mid tickets → Unwritten bytes faults memory_write memory_sync memory_read mid next → ⊥
  never_unwritten mid mid_is u = false≢true (ap is_some (sym (mid_is.calm u.ticket.block u.written.home u.written.taken).0.0) ∙ u.written.gives.0)

  never_unread : (mid : KernelValue MemoryLane) (back : TicketValue MemoryLane) → IsWorld mid tickets → Unread bytes faults memory_write memory_sync memory_read mid back next → ⊥
  never_unread mid back mid_is u =
      let calm = (mid_is.calm u.ticket.block u.written.home u.written.taken).0 in
      let lane = calm_write u.written.home u.ticket.lane u.ticket.bytes u.answer calm u.written.gives in
      calm_read u.settled back.lane u.fault (synced_calm u.ticket.lane u.settled (written_calm u.written.home u.ticket.lane u.ticket.bytes calm lane) u.synced.1) u.gives

  never_unsynced : (mid : KernelValue MemoryLane) (back : TicketValue MemoryLane) → IsWorld mid tickets → Unsynced bytes faults memory_write memory_sync memory_read mid back next → ⊥
  never_unsynced mid back mid_is u =
      let calm = (mid_is.calm u.ticket.block u.written.home u.written.taken).0 in
      let lane = calm_write u.written.home u.ticket.lane u.ticket.bytes u.answer calm u.written.gives in
      calm_sync u.ticket.lane back.lane u.fault (written_calm u.written.home u.ticket.lane u.ticket.bytes calm lane) u.gives

  -- and of its refusal, which comes only where a write is under way
  pub drain_refused : (n : ℕ) (ticket : Option (TicketValue MemoryLane)) (refusal : Refusal) → Refuses bytes faults memory_write memory_sync memory_read kernel n ticket refusal next →
      (ticket ≡ None) × Step (world_of kernel tickets) (Client fs model.Drain) (Refused refusal) (world_of next tickets) × IsWorld next tickets
  drain_refused n ticket refusal (inl h) =
      let w = world_of kernel tickets in
      let fuel = all_pending kernel.state.lives in (
        h.2,
        told (Refused refusal) (world_of next tickets)
            (ap (λ t. cond {A = Reply × World} t (Refused InFlight, w) (let r = drain_for fuel 0 w in (Drained r.0, r.1))) h.0
            ∙ (λ i. (Refused (sym h.3 i), world_of (sym h.4 i) tickets))),
        subst (λ k. IsWorld k tickets) (sym h.4) is,
      )
  drain_refused n None refusal (inr h) = absurd (never_unwritten h.0 (rounds_world tickets h.0 n kernel is h.1) h.2.1)
  drain_refused n (Some back) refusal (inr h) = absurd (elim h.2.1 [
    | inl unsynced ↦ never_unsynced h.0 back (rounds_world tickets h.0 n kernel is h.1) unsynced
    | inr unread ↦ never_unread h.0 back (rounds_world tickets h.0 n kernel is h.1) unread
  ])
