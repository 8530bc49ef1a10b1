-- What each event leaves is a world, and one step of the model.
use Rattle.std.proofs.Common.{◌≡◌, ℕ, ◌<◌, ◌+◌, List, [], Bool, true, false, length, Some, None, Result, Ok, Err, refl, sym, ◌∙◌, ap, inl, inr, ⊎_elim, subst, slice_get, slice_set, arith}
use Rattle.std.specs.Prelude.{◌&&◌, cond, is_some}
use Rattle.std.proofs.lemmas.Bool.{cases_eq, eq-eqb}
use Rattle.std.proofs.lemmas.Option.{same_Some, none-some, slice_get_within}
use Rattle.std.proofs.lemmas.List.{length-set}
use Rattle.disk.specs.Mem.{MemoryLane, write_failed, sync_failed, synced, bytes_after_fault, IsGivenAfterFault}
use Rattle.store_types.specs.declared.refusal.Refusal.{Refusal}
use Rattle.store_types.specs.declared.refusal.Refusal.TheVariants.{NotSynced}
use Rattle.xn_model.specs.Images.{block_of}
use Rattle.xn_model.specs.Lives.{StoreState, life_at}
use Rattle.xn_model.specs.Results.{Gives, GivesExactly, result_map}
use Rattle.xn_model.specs.Calls.{init_of, propose_of, make_root_of, drop_root_of, forget_of, install_of, begun_of, settled_of, settled_place, settled_after}
use Rattle.xn_model.specs.Worlds.{World, Event, Client, Install, Begin, Land, Fail, Sync, FailSync, Finish, Reply, Installed, Begun, Landed, Synced, Fault, Finished, NoTicket, Refused, act, is_refusal, reply_and_world, write, settle_bytes, given_at, read_back, with_ticket, begun_count, begun_bytes, AfterCall, Step}
use Rattle.templates.specs.Language.{language}
use Rattle.xn_model.specs.Lanes.{FitLives}
use Rattle.xn_model.specs.Flights.{flight_of, HaveSameFlights}
use Rattle.xn_state.specs.States.{own_types}
use Rattle.xn_state.specs.declared.call.Call.{Call}
use Rattle.xn_state.specs.declared.call.Call.TheVariants.{Init, Propose, MakeRoot, DropRoot, Forget, Drain}
use Rattle.xn_state.specs.declared.answer.Answer.{Answer}
use Rattle.xn_state.specs.Answers.{StateAnswers, call_of, reply_of_answer, told}
use Rattle.xn_state.proofs.ForCallers.{answers_step}
use Rattle.xn_model.specs.Rules.{Holds}
use Rattle.xn_model.proofs.ForCallers.{gives_keeps, gives_exactly_keeps, gives_exactly-ok, left_placed, none_from, none_open, step_keeps}
use Rattle.xn_model.proofs.ForCallers as lemmas
use Rattle.xn_kernel.specs.Kernels.{KernelValue, TicketValue, is_mine, is_in_flight}
use Rattle.world.specs.Disks.{image_of, settled_image, given_to, IsCalm, IsAtRest, ticket_at}
use Rattle.world.specs.Worlds.{Tickets, world_of, ticket_flight, IsTicketOf, IsWorld}
use Rattle.world.proofs.Images.{known_of-begun, known_of-landed, known_of-kept, known_of-finished, known_of-away, block_of-away}
use Rattle.world.proofs.Places.{place_at, place_at-same, place_at-other, full_place, full_get}
use Rattle.world.proofs.Flights.{IsFlying, flying, flying_count, flying_bytes, flying_test, not_flying, settled_well}
use Rattle.xn_kernel.proofs.ForCallers.{away_in_flight}

-- what is told of an installation
abbrev pub installed_reply : ℕ × ℕ × ℕ → Reply
installed_reply made = Installed made.0 made.1 made.2 (made.2 + 1)

module _ (kernel : KernelValue MemoryLane) (tickets : Tickets) (is : IsWorld kernel tickets) where
  now : World
  now = world_of kernel tickets

  -- the lives may change where lanes and writes stay
  new_state : (new : StoreState) → Holds (world_of (record kernel { state = new }) tickets) → FitLives (λ lane. lane.bytes) kernel.lanes new.lives → HaveSameFlights kernel.state.lives new.lives →
      IsWorld (record kernel { state = new }) tickets
  new_state new holds fit flights = record { holds = holds; fit = fit; calm = is.calm; count = is.count; flights = λ b. is.flights b ∙ sym (flights b); mine = λ b t e. let m = is.mine b t e in record { kernel_is = m.kernel_is; block_is = m.block_is; calm = m.calm; unsynced = m.unsynced } }

  -- A call of a client

  module _ (fs : ℕ) (call : Call) (answer : Answer) (new : StoreState) (answers : StateAnswers (own_types kernel.state) kernel.state fs call new answer) where
    pub call_step : Step (world_of kernel tickets) (Client fs (call_of call)) (reply_of_answer answer) (world_of (record kernel { state = new }) tickets)
    call_step = answers_step (world_of kernel tickets) new fs call answer refl answers

    fits : (call : Call) → StateAnswers (own_types kernel.state) kernel.state fs call new answer → FitLives (λ (l : MemoryLane). l.bytes) kernel.lanes new.lives
    fits (Init ty bytes) h = gives_keeps (λ s. FitLives (λ (l : MemoryLane). l.bytes) kernel.lanes s.lives) (init_of (own_types kernel.state) kernel.state fs ty bytes) kernel.state new h.0 h.2 is.fit (λ made e. lemmas.lanes_init (λ (l : MemoryLane). l.bytes) kernel.lanes (own_types kernel.state) kernel.state new fs ty bytes made e is.fit)
    fits (Propose b edit) h = gives_keeps (λ s. FitLives (λ (l : MemoryLane). l.bytes) kernel.lanes s.lives) (propose_of (own_types kernel.state) kernel.state fs b edit) kernel.state new h.0 h.2 is.fit (λ entry e. lemmas.lanes_propose (λ (l : MemoryLane). l.bytes) kernel.lanes (own_types kernel.state) kernel.state new fs b edit entry e is.fit)
    fits (MakeRoot b) h = gives_keeps (λ s. FitLives (λ (l : MemoryLane). l.bytes) kernel.lanes s.lives) (make_root_of kernel.state fs b) kernel.state new h.0 h.2 is.fit (λ entry e. lemmas.lanes_make_root (λ (l : MemoryLane). l.bytes) kernel.lanes kernel.state new fs b entry e is.fit)
    fits DropRoot h = gives_keeps (λ s. FitLives (λ (l : MemoryLane). l.bytes) kernel.lanes s.lives) (drop_root_of (own_types kernel.state) kernel.state fs) kernel.state new h.0 h.2 is.fit (λ entry e. lemmas.lanes_drop_root (λ (l : MemoryLane). l.bytes) kernel.lanes (own_types kernel.state) kernel.state new fs entry e is.fit)
    fits (Forget b) h = gives_exactly_keeps (λ s. FitLives (λ (l : MemoryLane). l.bytes) kernel.lanes s.lives) (forget_of (own_types kernel.state) kernel.state fs b) kernel.state new h.0 h.2 is.fit (λ done e. lemmas.lanes_forget (λ (l : MemoryLane). l.bytes) kernel.lanes (own_types kernel.state) kernel.state new fs b done e is.fit)
    fits Drain h = absurd h
    fits call h = subst (λ (s : StoreState). FitLives (λ (l : MemoryLane). l.bytes) kernel.lanes s.lives) (sym h.1) is.fit

    still : new ≡ kernel.state → HaveSameFlights kernel.state.lives new.lives
    still same = subst (λ (s : StoreState). HaveSameFlights kernel.state.lives s.lives) (sym same) (λ b. refl)

    flies_on : (call : Call) → StateAnswers (own_types kernel.state) kernel.state fs call new answer → HaveSameFlights kernel.state.lives new.lives
    flies_on (Init ty bytes) h = gives_keeps (λ s. HaveSameFlights kernel.state.lives s.lives) (init_of (own_types kernel.state) kernel.state fs ty bytes) kernel.state new h.0 h.2 (λ b. refl) (λ made e. lemmas.flights_init (own_types kernel.state) kernel.state new fs ty bytes made e)
    flies_on (Propose b edit) h = gives_keeps (λ s. HaveSameFlights kernel.state.lives s.lives) (propose_of (own_types kernel.state) kernel.state fs b edit) kernel.state new h.0 h.2 (λ b. refl) (λ entry e. lemmas.flights_propose (own_types kernel.state) kernel.state new is.holds.state fs b edit entry e)
    flies_on (MakeRoot b) h = gives_keeps (λ s. HaveSameFlights kernel.state.lives s.lives) (make_root_of kernel.state fs b) kernel.state new h.0 h.2 (λ b. refl) (λ entry e. lemmas.flights_make_root (own_types kernel.state) kernel.state new is.holds.state fs b entry e)
    flies_on DropRoot h = gives_keeps (λ s. HaveSameFlights kernel.state.lives s.lives) (drop_root_of (own_types kernel.state) kernel.state fs) kernel.state new h.0 h.2 (λ b. refl) (λ entry e. lemmas.flights_drop_root (own_types kernel.state) kernel.state new is.holds.state fs entry e)
    flies_on (Forget b) h = gives_exactly_keeps (λ s. HaveSameFlights kernel.state.lives s.lives) (forget_of (own_types kernel.state) kernel.state fs b) kernel.state new h.0 h.2 (λ b. refl) (λ done e. lemmas.flights_forget (own_types kernel.state) kernel.state new fs b done e)
    flies_on Drain h = absurd h
    flies_on call h = still h.1

    pub call_world : fs < 32 → IsWorld (record kernel { state = new }) tickets
    call_world few = new_state new
        (step_keeps (world_of kernel tickets) (Client fs (call_of call)) (reply_of_answer answer) (world_of (record kernel { state = new }) tickets) few is.holds call_step)
        (fits call answers) (flies_on call answers)

  -- A template is installed

  module _ (template : List ℕ) (whole : length template ≡ 512) (new : StoreState) (result : Result (ℕ × ℕ × ℕ) Refusal) (gives : Gives (install_of language kernel.state template) kernel.state new result) where
    pub install_step : Step (world_of kernel tickets) (Install template) (told installed_reply result) (world_of (record kernel { state = new }) tickets)
    install_step = given (install_of language kernel.state template) refl gives
      where
        given : (r : Result ((ℕ × ℕ × ℕ) × StoreState) Refusal) → install_of language kernel.state template ≡ r → Gives r kernel.state new result →
            AfterCall (world_of kernel tickets) (Install template) (told installed_reply result) (world_of (record kernel { state = new }) tickets)
        given (Ok (made, after)) is h =
            let acts : act (world_of kernel tickets) (Install template) ≡ (installed_reply made, record (world_of kernel tickets) { state = after }) = ap (reply_and_world installed_reply (world_of kernel tickets)) is in
            ⊎_elim
            (λ p. inl (ap (told installed_reply) p.0 ∙ sym (ap (λ (x : Reply × World). x.0) acts), ap (λ s. record (world_of kernel tickets) { state = s }) p.1 ∙ sym (ap (λ (x : Reply × World). x.1) acts)))
            (λ p. inr (refl, (ap (λ (x : Reply × World). is_refusal x.0) acts, (refl, (ap (told installed_reply) p.0, ap (λ s. record (world_of kernel tickets) { state = s }) p.1)))))
            h
        given (Err refusal) is h =
            let acts : act (world_of kernel tickets) (Install template) ≡ (Refused refusal, world_of kernel tickets) = ap (reply_and_world installed_reply (world_of kernel tickets)) is in
            inl (ap (told installed_reply) h.0 ∙ sym (ap (λ (x : Reply × World). x.0) acts), ap (λ s. record (world_of kernel tickets) { state = s }) h.1 ∙ sym (ap (λ (x : Reply × World). x.1) acts))

    pub install_world : IsWorld (record kernel { state = new }) tickets
    install_world = new_state new
        (step_keeps (world_of kernel tickets) (Install template) (told installed_reply result) (world_of (record kernel { state = new }) tickets) whole is.holds install_step)
        (gives_keeps (λ s. FitLives (λ (l : MemoryLane). l.bytes) kernel.lanes s.lives) (install_of language kernel.state template) kernel.state new result gives is.fit
        (λ made e. lemmas.lanes_install (λ (l : MemoryLane). l.bytes) kernel.lanes language kernel.state new template made e is.fit))
        (gives_keeps (λ s. HaveSameFlights kernel.state.lives s.lives) (install_of language kernel.state template) kernel.state new result gives (λ b. refl)
        (λ made e. lemmas.flights_install language kernel.state new template made is.holds.state whole e))

  -- A write begins

  module _ (b : ℕ) (given : List ℕ × ℕ) (new : StoreState) (begun : begun_of kernel.state b ≡ Ok (given, new)) (ticket : TicketValue MemoryLane) (carries : (given.0 ≡ ticket.bytes) × (given.1 ≡ ticket.count))
      (ours : (ticket.kernel ≡ kernel.id) × (ticket.block ≡ b)) (home : slice_get kernel.lanes b ≡ Some (Some ticket.lane)) (fresh : ticket.unsynced ≡ false) where
    abbrev begun_kernel : KernelValue MemoryLane
    begun_kernel = record kernel { lanes = slice_set kernel.lanes b None; state = new }

    abbrev begun_tickets : Tickets
    begun_tickets = slice_set tickets b (Some ticket)

    within : b < length tickets
    within = let lt = slice_get_within kernel.lanes b (Some ticket.lane) home in let long = is.count in omega arith

    begun_same : world_of begun_kernel begun_tickets ≡ record (world_of kernel tickets) { state = new }
    begun_same = λ i. record (world_of kernel tickets) {
      image = known_of-begun (λ l. l.bytes) [] kernel.lanes tickets b ticket is.count home i;
      settled = known_of-begun (λ l. l.settled) [] kernel.lanes tickets b ticket is.count home i;
      given = known_of-begun (λ l. l.given) None kernel.lanes tickets b ticket is.count home i;
      state = new;
    }

    pub begin_step : Step (world_of kernel tickets) (Begin b) (Begun ticket.count) (world_of begun_kernel begun_tickets)
    begin_step =
        let acts : act (world_of kernel tickets) (Begin b) ≡ (Begun given.1, record (world_of kernel tickets) { state = new }) = ap (reply_and_world (λ (x : List ℕ × ℕ). Begun x.1) (world_of kernel tickets)) begun in
        inl (ap Begun (sym carries.1) ∙ sym (ap (λ (x : Reply × World). x.0) acts), begun_same ∙ sym (ap (λ (x : Reply × World). x.1) acts))

    pub begin_world : IsWorld begun_kernel begun_tickets
    begin_world =
        let flights = lemmas.flights_begun kernel.state new b given begun in
        record {
          holds = step_keeps (world_of kernel tickets) (Begin b) (Begun ticket.count) (world_of begun_kernel begun_tickets) tt is.holds begin_step;
          fit = lemmas.lanes_begun (λ (l : MemoryLane). l.bytes) kernel.lanes kernel.state new b given begun is.fit;
          calm = λ c l at. elim (cases_eq c b) [
            | inl same ↦ absurd (none-some l (sym (place_at-same kernel.lanes b None (slice_get_within kernel.lanes b (Some ticket.lane) home)) ∙ (ap (place_at (slice_set kernel.lanes b None)) (sym same) ∙ full_place (slice_set kernel.lanes b None) c l at)))
            | inr other ↦ is.calm c l (full_get kernel.lanes c l (sym (place_at-other kernel.lanes b c None other) ∙ full_place (slice_set kernel.lanes b None) c l at))
          ];
          count = length-set tickets b (Some ticket) ∙ (is.count ∙ sym (length-set kernel.lanes b None));
          flights = λ c. elim (cases_eq c b) [
            | inl same ↦ ap (λ n. ticket_flight (ticket_at begun_tickets n)) same ∙ (ap ticket_flight (place_at-same tickets b (Some ticket) within)
                ∙ ((λ i. Some (sym carries.1 i, sym carries.0 i)) ∙ sym (ap (λ n. flight_of (life_at new.lives n)) same ∙ flights.0)))
            | inr other ↦ ap ticket_flight (place_at-other tickets b c (Some ticket) other) ∙ (is.flights c ∙ sym (flights.1 c other))
          ];
          mine = λ c t at. elim (cases_eq c b) [
            | inl same ↦
                let it : ticket ≡ t = same_Some ticket t (sym (place_at-same tickets b (Some ticket) within) ∙ (ap (ticket_at begun_tickets) (sym same) ∙ at)) in
                subst (λ x. IsTicketOf begun_kernel c x) it (record { kernel_is = ours.0; block_is = ours.1 ∙ sym same; calm = (is.calm b ticket.lane home).0; unsynced = fresh ∙ sym (ap is_some (is.calm b ticket.lane home).1.0) })
            | inr other ↦ let m = is.mine c t (sym (place_at-other tickets b c (Some ticket) other) ∙ at) in record { kernel_is = m.kernel_is; block_is = m.block_is; calm = m.calm; unsynced = m.unsynced }
          ];
        }

  -- A block without a ticket

  no_ticket : (b : ℕ) (go : ℕ → Reply × World) → ticket_at tickets b ≡ None → with_ticket (world_of kernel tickets) (begun_count (life_at kernel.state.lives b)) go ≡ (NoTicket, world_of kernel tickets)
  no_ticket b go none =
      let idle = not_flying (life_at kernel.state.lives b) (sym (is.flights b) ∙ ap ticket_flight none) in
      ap (λ o. with_ticket (world_of kernel tickets) o go) idle

  told_no_ticket : (e : Event) → act (world_of kernel tickets) e ≡ (NoTicket, world_of kernel tickets) → AfterCall (world_of kernel tickets) e NoTicket (world_of kernel tickets)
  told_no_ticket e acts = inl (sym (ap (λ (x : Reply × World). x.0) acts), sym (ap (λ (x : Reply × World). x.1) acts))

  -- what a finish with a ticket is
  abbrev finish_at : ℕ → Reply × World
  finish_at b = cond (is_some (given_at (given_to kernel.lanes tickets) b)) (Refused NotSynced, world_of kernel tickets) (read_back (world_of kernel tickets) b)

  pub land_without : (b : ℕ) → ticket_at tickets b ≡ None → Step (world_of kernel tickets) (Land b) NoTicket (world_of kernel tickets)
  land_without b none = told_no_ticket (Land b) (no_ticket b (λ k. (Landed, write (world_of kernel tickets) b k true)) none)

  pub fail_without : (b : ℕ) (stays : Bool) → ticket_at tickets b ≡ None → Step (world_of kernel tickets) (Fail b stays) NoTicket (world_of kernel tickets)
  fail_without b stays none = told_no_ticket (Fail b stays) (no_ticket b (λ k. (Fault, write (world_of kernel tickets) b k stays)) none)

  pub sync_without : (b : ℕ) → ticket_at tickets b ≡ None → Step (world_of kernel tickets) (Sync b) NoTicket (world_of kernel tickets)
  sync_without b none = told_no_ticket (Sync b) (no_ticket b (λ k. (Synced, settle_bytes (world_of kernel tickets) b)) none)

  pub fail_sync_without : (b : ℕ) → ticket_at tickets b ≡ None → Step (world_of kernel tickets) (FailSync b) NoTicket (world_of kernel tickets)
  fail_sync_without b none = told_no_ticket (FailSync b) (no_ticket b (λ k. (Fault, world_of kernel tickets)) none)

  pub finish_without : (b : ℕ) → ticket_at tickets b ≡ None → Step (world_of kernel tickets) (Finish b) NoTicket (world_of kernel tickets)
  finish_without b none = told_no_ticket (Finish b) (no_ticket b (λ k. finish_at b) none)

  -- A block with one

  module _ (b : ℕ) (ticket : TicketValue MemoryLane) (has : ticket_at tickets b ≡ Some ticket) where
    pub flies : IsFlying (life_at kernel.state.lives b) ticket.count ticket.bytes
    flies = flying (life_at kernel.state.lives b) ticket.count ticket.bytes (sym (is.flights b) ∙ ap ticket_flight has)

    pub away : slice_get kernel.lanes b ≡ Some None
    away = away_in_flight (λ (l : MemoryLane). l.bytes) kernel.lanes kernel.state b is.fit (flying_test kernel.state b ticket.count ticket.bytes flies)

    pub within_tickets : b < length tickets
    within_tickets = let lt = slice_get_within tickets b (Some ticket) (full_get tickets b ticket has) in lt

    held : (go : ℕ → Reply × World) → with_ticket (world_of kernel tickets) (begun_count (life_at kernel.state.lives b)) go ≡ go ticket.count
    held go = ap (λ o. with_ticket (world_of kernel tickets) o go) (flying_count (life_at kernel.state.lives b) ticket.count ticket.bytes flies)

    there : block_of (image_of kernel.lanes tickets) b ≡ ticket.lane.bytes
    there = block_of-away kernel.lanes tickets b ticket away has

    -- the ticket's lane changes

    lane_world : (lane' : MemoryLane) (unsynced : Bool) → IsCalm lane' → unsynced ≡ is_some lane'.given → Holds (world_of kernel (slice_set tickets b (Some (record ticket { lane = lane'; unsynced = unsynced })))) →
        IsWorld kernel (slice_set tickets b (Some (record ticket { lane = lane'; unsynced = unsynced })))
    lane_world lane' unsynced calm knows holds =
        let next : TicketValue MemoryLane = record ticket { lane = lane'; unsynced = unsynced } in
        let next_tickets : Tickets = slice_set tickets b (Some next) in
        record {
          holds = holds;
          fit = is.fit;
          calm = is.calm;
          count = length-set tickets b (Some next) ∙ is.count;
          flights = λ c. elim (cases_eq c b) [
            | inl same ↦ ap (λ n. ticket_flight (ticket_at next_tickets n)) same ∙ (ap ticket_flight (place_at-same tickets b (Some next) within_tickets)
                ∙ (sym (ap ticket_flight has) ∙ (is.flights b ∙ sym (ap (λ n. flight_of (life_at kernel.state.lives n)) same))))
            | inr other ↦ ap ticket_flight (place_at-other tickets b c (Some next) other) ∙ is.flights c
          ];
          mine = λ c t at. elim (cases_eq c b) [
            | inl same ↦
                let it : next ≡ t = same_Some next t (sym (place_at-same tickets b (Some next) within_tickets) ∙ (ap (ticket_at next_tickets) (sym same) ∙ at)) in
                let m = is.mine b ticket has in
                subst (λ x. IsTicketOf kernel c x) it (record { kernel_is = m.kernel_is; block_is = m.block_is ∙ sym same; calm = calm; unsynced = knows })
            | inr other ↦ is.mine c t (sym (place_at-other tickets b c (Some next) other) ∙ at)
          ];
        }

    -- The write is carried out

    module _ (lane' : MemoryLane) (written : lane' ≡ record ticket.lane { bytes = ticket.bytes; given = Some ticket.bytes }) where
      abbrev landed_ticket : TicketValue MemoryLane
      landed_ticket = record ticket { lane = lane'; unsynced = true }

      abbrev landed_tickets : Tickets
      landed_tickets = slice_set tickets b (Some landed_ticket)

      begun_is : begun_bytes ticket.count (life_at kernel.state.lives b) ≡ ticket.bytes
      begun_is = flying_bytes (life_at kernel.state.lives b) ticket.count ticket.bytes flies

      landed_image : image_of kernel.lanes landed_tickets ≡ slice_set (image_of kernel.lanes tickets) b (begun_bytes ticket.count (life_at kernel.state.lives b))
      landed_image = known_of-landed (λ l. l.bytes) [] kernel.lanes tickets b landed_ticket is.count away ∙ ap (slice_set (image_of kernel.lanes tickets) b) (ap (λ (l : MemoryLane). l.bytes) written ∙ sym begun_is)

      landed_settled : settled_image kernel.lanes landed_tickets ≡ settled_image kernel.lanes tickets
      landed_settled = known_of-kept (λ l. l.settled) [] kernel.lanes tickets b ticket landed_ticket is.count away has (ap (λ (l : MemoryLane). l.settled) written)

      landed_given : given_to kernel.lanes landed_tickets ≡ slice_set (given_to kernel.lanes tickets) b (Some (begun_bytes ticket.count (life_at kernel.state.lives b)))
      landed_given = known_of-landed (λ l. l.given) None kernel.lanes tickets b landed_ticket is.count away
          ∙ ap (slice_set (given_to kernel.lanes tickets) b) (ap (λ (l : MemoryLane). l.given) written ∙ ap (λ bytes. Some bytes) (sym begun_is))

      landed_same : world_of kernel landed_tickets ≡ write (world_of kernel tickets) b ticket.count true
      landed_same = λ i. record (world_of kernel tickets) { image = landed_image i; settled = landed_settled i; given = landed_given i }

      pub land_step : Step (world_of kernel tickets) (Land b) Landed (world_of kernel landed_tickets)
      land_step =
          let acts : act (world_of kernel tickets) (Land b) ≡ (Landed, write (world_of kernel tickets) b ticket.count true) = held (λ k. (Landed, write (world_of kernel tickets) b k true)) in
          inl (sym (ap (λ (x : Reply × World). x.0) acts), landed_same ∙ sym (ap (λ (x : Reply × World). x.1) acts))

      pub land_world : IsWorld kernel landed_tickets
      land_world =
          let m = is.mine b ticket has in
          lane_world lane' true (ap (λ (l : MemoryLane). l.write_fault) written ∙ m.calm.0, ap (λ (l : MemoryLane). l.read_fault) written ∙ m.calm.1, ap (λ (l : MemoryLane). l.sync_fault) written ∙ m.calm.2)
          (sym (ap (λ (l : MemoryLane). is_some l.given) written)) (step_keeps (world_of kernel tickets) (Land b) Landed (world_of kernel landed_tickets) tt is.holds land_step)

    -- The write fails

    module _ (lane' : MemoryLane) (stays : Bool) (failed : lane' ≡ write_failed (record ticket.lane { write_fault = Some stays }) ticket.bytes lane'.given)
        (gave : IsGivenAfterFault (Some stays) (record ticket.lane { write_fault = Some stays }) ticket.bytes lane'.given) where
      abbrev failed_ticket : TicketValue MemoryLane
      failed_ticket = record ticket { lane = lane'; unsynced = true }

      abbrev failed_tickets : Tickets
      failed_tickets = slice_set tickets b (Some failed_ticket)

      failed_bytes : begun_bytes ticket.count (life_at kernel.state.lives b) ≡ ticket.bytes
      failed_bytes = flying_bytes (life_at kernel.state.lives b) ticket.count ticket.bytes flies

      failed_image : (stays : Bool) → lane'.bytes ≡ bytes_after_fault (Some stays) ticket.lane.bytes ticket.bytes →
          image_of kernel.lanes failed_tickets ≡ cond stays (slice_set (image_of kernel.lanes tickets) b (begun_bytes ticket.count (life_at kernel.state.lives b))) (image_of kernel.lanes tickets)
      failed_image true e = known_of-landed (λ l. l.bytes) [] kernel.lanes tickets b failed_ticket is.count away ∙ ap (slice_set (image_of kernel.lanes tickets) b) (e ∙ sym failed_bytes)
      failed_image false e = known_of-kept (λ l. l.bytes) [] kernel.lanes tickets b ticket failed_ticket is.count away has e

      failed_settled : settled_image kernel.lanes failed_tickets ≡ settled_image kernel.lanes tickets
      failed_settled = known_of-kept (λ l. l.settled) [] kernel.lanes tickets b ticket failed_ticket is.count away has (ap (λ (l : MemoryLane). l.settled) failed)

      -- what an open write was given is what this one is given
      flight_bytes : (bytes : List ℕ) → ticket.lane.given ≡ Some bytes → bytes ≡ ticket.bytes
      flight_bytes bytes e =
          let flight = is.holds.unsynced b bytes (known_of-away (λ l. l.given) None kernel.lanes tickets b ticket away has ∙ e) in
          ap (λ (p : ℕ × List ℕ). p.1) (same_Some (flight.0, bytes) (ticket.count, ticket.bytes) (sym flight.1 ∙ (sym (is.flights b) ∙ ap ticket_flight has)))

      given_bytes : (stays : Bool) → IsGivenAfterFault (Some stays) (record ticket.lane { write_fault = Some stays }) ticket.bytes lane'.given → lane'.given ≡ Some ticket.bytes
      given_bytes true is = is
      given_bytes false (inl was) = was.1 ∙ (was.0 ∙ ap Some (flight_bytes ticket.lane.bytes was.0))
      given_bytes false (inr new) = new.1

      failed_given : given_to kernel.lanes failed_tickets ≡ slice_set (given_to kernel.lanes tickets) b (Some (begun_bytes ticket.count (life_at kernel.state.lives b)))
      failed_given = known_of-landed (λ l. l.given) None kernel.lanes tickets b failed_ticket is.count away
          ∙ ap (slice_set (given_to kernel.lanes tickets) b) (given_bytes stays gave ∙ ap (λ bytes. Some bytes) (sym failed_bytes))

      failed_same : world_of kernel failed_tickets ≡ write (world_of kernel tickets) b ticket.count stays
      failed_same = λ i. record (world_of kernel tickets) { image = failed_image stays (ap (λ (l : MemoryLane). l.bytes) failed) i; settled = failed_settled i; given = failed_given i }

      pub fail_step : Step (world_of kernel tickets) (Fail b stays) Fault (world_of kernel failed_tickets)
      fail_step =
          let acts : act (world_of kernel tickets) (Fail b stays) ≡ (Fault, write (world_of kernel tickets) b ticket.count stays) = held (λ k. (Fault, write (world_of kernel tickets) b k stays)) in
          inl (sym (ap (λ (x : Reply × World). x.0) acts), failed_same ∙ sym (ap (λ (x : Reply × World). x.1) acts))

      pub fail_world : IsWorld kernel failed_tickets
      fail_world =
          let m = is.mine b ticket has in
          lane_world lane' true (ap (λ (l : MemoryLane). l.write_fault) failed, ap (λ (l : MemoryLane). l.read_fault) failed ∙ m.calm.1, ap (λ (l : MemoryLane). l.sync_fault) failed ∙ m.calm.2)
          (sym (ap is_some (given_bytes stays gave))) (step_keeps (world_of kernel tickets) (Fail b stays) Fault (world_of kernel failed_tickets) tt is.holds fail_step)

    -- The block is synced

    module _ (lane' : MemoryLane) (done : lane' ≡ synced ticket.lane) where
      abbrev settled_ticket : TicketValue MemoryLane
      settled_ticket = record ticket { lane = lane'; unsynced = false }

      abbrev settled_tickets : Tickets
      settled_tickets = slice_set tickets b (Some settled_ticket)

      synced_image : image_of kernel.lanes settled_tickets ≡ image_of kernel.lanes tickets
      synced_image = known_of-kept (λ l. l.bytes) [] kernel.lanes tickets b ticket settled_ticket is.count away has (ap (λ (l : MemoryLane). l.bytes) done)

      synced_settled : settled_image kernel.lanes settled_tickets ≡ slice_set (settled_image kernel.lanes tickets) b (block_of (image_of kernel.lanes tickets) b)
      synced_settled = known_of-landed (λ l. l.settled) [] kernel.lanes tickets b settled_ticket is.count away ∙ ap (slice_set (settled_image kernel.lanes tickets) b) (ap (λ (l : MemoryLane). l.settled) done ∙ sym there)

      synced_given : given_to kernel.lanes settled_tickets ≡ slice_set (given_to kernel.lanes tickets) b None
      synced_given = known_of-landed (λ l. l.given) None kernel.lanes tickets b settled_ticket is.count away ∙ ap (slice_set (given_to kernel.lanes tickets) b) (ap (λ (l : MemoryLane). l.given) done)

      synced_same : world_of kernel settled_tickets ≡ settle_bytes (world_of kernel tickets) b
      synced_same = λ i. record (world_of kernel tickets) { image = synced_image i; settled = synced_settled i; given = synced_given i }

      pub sync_step : Step (world_of kernel tickets) (Sync b) Synced (world_of kernel settled_tickets)
      sync_step =
          let acts : act (world_of kernel tickets) (Sync b) ≡ (Synced, settle_bytes (world_of kernel tickets) b) = held (λ k. (Synced, settle_bytes (world_of kernel tickets) b)) in
          inl (sym (ap (λ (x : Reply × World). x.0) acts), synced_same ∙ sym (ap (λ (x : Reply × World). x.1) acts))

      pub sync_world : IsWorld kernel settled_tickets
      sync_world =
          let m = is.mine b ticket has in
          lane_world lane' false (ap (λ (l : MemoryLane). l.write_fault) done ∙ m.calm.0, ap (λ (l : MemoryLane). l.read_fault) done ∙ m.calm.1, ap (λ (l : MemoryLane). l.sync_fault) done ∙ m.calm.2)
          (sym (ap (λ (l : MemoryLane). is_some l.given) done)) (step_keeps (world_of kernel tickets) (Sync b) Synced (world_of kernel settled_tickets) tt is.holds sync_step)

    -- The sync fails

    module _ (lane' : MemoryLane) (fails : lane' ≡ sync_failed (record ticket.lane { sync_fault = true })) where
      abbrev unsettled_ticket : TicketValue MemoryLane
      unsettled_ticket = record ticket { lane = lane' }

      abbrev unsettled_tickets : Tickets
      unsettled_tickets = slice_set tickets b (Some unsettled_ticket)

      unsettled_same : world_of kernel unsettled_tickets ≡ world_of kernel tickets
      unsettled_same = λ i. record (world_of kernel tickets) {
        image = known_of-kept (λ l. l.bytes) [] kernel.lanes tickets b ticket unsettled_ticket is.count away has (ap (λ (l : MemoryLane). l.bytes) fails) i;
        settled = known_of-kept (λ l. l.settled) [] kernel.lanes tickets b ticket unsettled_ticket is.count away has (ap (λ (l : MemoryLane). l.settled) fails) i;
        given = known_of-kept (λ l. l.given) None kernel.lanes tickets b ticket unsettled_ticket is.count away has (ap (λ (l : MemoryLane). l.given) fails) i;
      }

      pub fail_sync_step : Step (world_of kernel tickets) (FailSync b) Fault (world_of kernel unsettled_tickets)
      fail_sync_step =
          let acts : act (world_of kernel tickets) (FailSync b) ≡ (Fault, world_of kernel tickets) = held (λ k. (Fault, world_of kernel tickets)) in
          inl (sym (ap (λ (x : Reply × World). x.0) acts), unsettled_same ∙ sym (ap (λ (x : Reply × World). x.1) acts))

      pub fail_sync_world : IsWorld kernel unsettled_tickets
      fail_sync_world =
          let m = is.mine b ticket has in
          lane_world lane' ticket.unsynced (ap (λ (l : MemoryLane). l.write_fault) fails ∙ m.calm.0, ap (λ (l : MemoryLane). l.read_fault) fails ∙ m.calm.1, ap (λ (l : MemoryLane). l.sync_fault) fails)
          (m.unsynced ∙ sym (ap (λ (l : MemoryLane). is_some l.given) fails)) (step_keeps (world_of kernel tickets) (FailSync b) Fault (world_of kernel unsettled_tickets) tt is.holds fail_sync_step)

    -- The block is read back

    given_is : given_at (given_to kernel.lanes tickets) b ≡ ticket.lane.given
    given_is = known_of-away (λ l. l.given) None kernel.lanes tickets b ticket away has

    -- with an open write it is not
    pub open_step : ticket.unsynced ≡ true → Step (world_of kernel tickets) (Finish b) (Refused NotSynced) (world_of kernel tickets)
    open_step unsynced =
        let some : is_some (given_at (given_to kernel.lanes tickets) b) ≡ true = ap is_some given_is ∙ (sym (is.mine b ticket has).unsynced ∙ unsynced) in
        let acts : act (world_of kernel tickets) (Finish b) ≡ (Refused NotSynced, world_of kernel tickets) =
        held (λ k. finish_at b) ∙ ap (λ t. cond {A = Reply × World} t (Refused NotSynced, world_of kernel tickets) (read_back (world_of kernel tickets) b)) some in
        inl (sym (ap (λ (x : Reply × World). x.0) acts), sym (ap (λ (x : Reply × World). x.1) acts))

    -- what it holds settles
    pub settles : (n : ℕ) × (settled_place ticket.lane.bytes (slice_get kernel.state.lives b) ≡ Ok n)
    settles =
        let r = settled_well (block_of (image_of kernel.lanes tickets)) kernel.state.lives b ticket.count ticket.bytes flies (λ l s alive durable. left_placed (world_of kernel tickets) is.holds (image_of kernel.lanes tickets) is.holds.newest b l s alive durable) (full_get kernel.state.lives b flies.life flies.alive) in
        (r.0, sym (ap (λ bytes. settled_place bytes (slice_get kernel.state.lives b)) there) ∙ r.1)

    pub is_ours : is_mine kernel ticket ≡ true
    is_ours =
        let m = is.mine b ticket has in
        (λ i. eq-eqb ticket.kernel kernel.id m.kernel_is i && is_in_flight kernel.state (m.block_is i)) ∙ flying_test kernel.state b ticket.count ticket.bytes flies

    pub block_is : ticket.block ≡ b
    block_is = (is.mine b ticket has).block_is

    pub calm_read : ticket.lane.read_fault ≡ false
    calm_read = (is.mine b ticket has).calm.1

    -- what the kernel says of the settling, at this block
    pub settled_at_block : (new : StoreState) (done : ℕ × ℕ) → GivesExactly (settled_of kernel.state ticket.block ticket.lane.bytes) kernel.state new (Ok done) → settled_of kernel.state b ticket.lane.bytes ≡ Ok (done, new)
    settled_at_block new done h = ap (λ c. settled_of kernel.state c ticket.lane.bytes) (sym block_is) ∙ gives_exactly-ok (settled_of kernel.state ticket.block ticket.lane.bytes) kernel.state new done h

    pub never_refused : (new : StoreState) (refusal : Refusal) → GivesExactly (settled_of kernel.state ticket.block ticket.lane.bytes) kernel.state new (Err refusal) → ⊥
    never_refused new refusal h =
        let given : settled_of kernel.state ticket.block ticket.lane.bytes ≡ Ok (settled_after kernel.state b settles.0) =
        ap (λ c. settled_of kernel.state c ticket.lane.bytes) block_is ∙ ap (result_map (settled_after kernel.state b)) settles.1 in
        given_never (settled_of kernel.state ticket.block ticket.lane.bytes) (settled_after kernel.state b settles.0) new refusal given h
      where
        given_never : (r : Result ((ℕ × ℕ) × StoreState) Refusal) (x : (ℕ × ℕ) × StoreState) (new : StoreState) (refusal : Refusal) → r ≡ Ok x → GivesExactly r kernel.state new (Err refusal) → ⊥
        given_never (Ok (answer, after)) x new refusal e h = cc
        given_never (Err first) x new refusal e h = cc

  -- without one it is

  module _ (b : ℕ) (ticket : TicketValue MemoryLane) (has : ticket_at tickets b ≡ Some ticket) (rests : ticket.unsynced ≡ false) where
    none_given : ticket.lane.given ≡ None
    none_given = none_from ticket.lane.given (sym (is.mine b ticket has).unsynced ∙ rests)

    lane_rests : IsAtRest ticket.lane
    lane_rests = (
      none_given,
      sym (known_of-away (λ l. l.settled) [] kernel.lanes tickets b ticket (away b ticket has) has)
          ∙ (none_open (world_of kernel tickets) is.holds b (given_is b ticket has ∙ none_given) ∙ there b ticket has),
    )

    module _ (lane' : MemoryLane) (read : lane' ≡ ticket.lane) (done : ℕ × ℕ) (new : StoreState) (settled : settled_of kernel.state b ticket.lane.bytes ≡ Ok (done, new)) where
      abbrev finished_kernel : KernelValue MemoryLane
      finished_kernel = record kernel { lanes = slice_set kernel.lanes b (Some lane'); state = new }

      abbrev finished_tickets : Tickets
      finished_tickets = slice_set tickets b None

      finished_same : world_of finished_kernel finished_tickets ≡ record (world_of kernel tickets) { state = new }
      finished_same = λ i. record (world_of kernel tickets) {
        image = known_of-finished (λ l. l.bytes) [] kernel.lanes tickets b lane' ticket is.count (away b ticket has) has (ap (λ (l : MemoryLane). l.bytes) read) i;
        settled = known_of-finished (λ l. l.settled) [] kernel.lanes tickets b lane' ticket is.count (away b ticket has) has (ap (λ (l : MemoryLane). l.settled) read) i;
        given = known_of-finished (λ l. l.given) None kernel.lanes tickets b lane' ticket is.count (away b ticket has) has (ap (λ (l : MemoryLane). l.given) read) i;
        state = new;
      }

      settled_there : settled_of kernel.state b (block_of (image_of kernel.lanes tickets) b) ≡ Ok (done, new)
      settled_there = ap (settled_of kernel.state b) (there b ticket has) ∙ settled

      pub finish_step : Step (world_of kernel tickets) (Finish b) (Finished done.0 done.1) (world_of finished_kernel finished_tickets)
      finish_step =
          let acts : act (world_of kernel tickets) (Finish b) ≡ (Finished done.0 done.1, record (world_of kernel tickets) { state = new }) =
          held b ticket has (λ k. finish_at b)
          ∙ ap (λ o. cond {A = Reply × World} (is_some o) (Refused NotSynced, world_of kernel tickets) (read_back (world_of kernel tickets) b)) (given_is b ticket has ∙ none_given)
          ∙ ap (reply_and_world (λ (x : ℕ × ℕ). Finished x.0 x.1) (world_of kernel tickets)) settled_there in
          inl (sym (ap (λ (x : Reply × World). x.0) acts), finished_same ∙ sym (ap (λ (x : Reply × World). x.1) acts))

      pub finish_world : IsWorld finished_kernel finished_tickets
      finish_world =
          let flights = lemmas.flights_settled (own_types kernel.state) kernel.state new b ticket.lane.bytes done is.holds.state settled in
          let same_bytes : lane'.bytes ≡ ticket.lane.bytes = ap (λ (l : MemoryLane). l.bytes) read in
          record {
            holds = step_keeps (world_of kernel tickets) (Finish b) (Finished done.0 done.1) (world_of finished_kernel finished_tickets) tt is.holds finish_step;
            fit = lemmas.lanes_settled (own_types kernel.state) (λ (l : MemoryLane). l.bytes) kernel.lanes kernel.state new b lane' done is.holds.state (ap (settled_of kernel.state b) same_bytes ∙ settled) is.fit;
            calm = λ c l at. elim (cases_eq c b) [
              | inl same ↦
                  let it : lane' ≡ l = same_Some lane' l (sym (place_at-same kernel.lanes b (Some lane') (slice_get_within kernel.lanes b None (away b ticket has))) ∙ (ap (place_at (slice_set kernel.lanes b (Some lane'))) (sym same) ∙ full_place (slice_set kernel.lanes b (Some lane')) c l at)) in
                  subst (λ x. IsCalm x × IsAtRest x) (sym read ∙ it) ((is.mine b ticket has).calm, lane_rests)
              | inr other ↦ is.calm c l (full_get kernel.lanes c l (sym (place_at-other kernel.lanes b c (Some lane') other) ∙ full_place (slice_set kernel.lanes b (Some lane')) c l at))
            ];
            count = length-set tickets b None ∙ (is.count ∙ sym (length-set kernel.lanes b (Some lane')));
            flights = λ c. elim (cases_eq c b) [
              | inl same ↦ ap (λ n. ticket_flight (ticket_at finished_tickets n)) same ∙ (ap ticket_flight (place_at-same tickets b None (within_tickets b ticket has)) ∙ sym (ap (λ n. flight_of (life_at new.lives n)) same ∙ flights.0))
              | inr other ↦ ap ticket_flight (place_at-other tickets b c None other) ∙ (is.flights c ∙ sym (flights.1 c other))
            ];
            mine = λ c t at. elim (cases_eq c b) [
              | inl same ↦ absurd (none-some t (sym (place_at-same tickets b None (within_tickets b ticket has)) ∙ (ap (ticket_at finished_tickets) (sym same) ∙ at)))
              | inr other ↦ let m = is.mine c t (sym (place_at-other tickets b c None other) ∙ at) in record { kernel_is = m.kernel_is; block_is = m.block_is; calm = m.calm; unsynced = m.unsynced }
            ];
          }
