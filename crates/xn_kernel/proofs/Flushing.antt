-- Waves of a flush.
use Rattle.std.proofs.Common.{◌≡◌, ℕ, zero, suc, ◌+◌, ◌<◌, ◌≤◌, Bool, true, false, cond, List, [], length, Option, Some, None, Result, Ok, Err, refl, sym, ◌∙◌, ap, inl, inr, ⊎_elim, arith, subst, slice_get, slice_set}
use Rattle.std.specs.Prelude.{◌⊎◌, ◌≢◌, ◌&&◌, is_some, option_map, IfSome, bytes_eq, nat_lt}
use Rattle.std.proofs.lemmas.Bool.{false≢true, cases_eq, eq-eqb, ltb-true, ltb-false}
use Rattle.std.proofs.lemmas.Slice.Eq.{bytes_eq-Decides}
use Rattle.std.proofs.lemmas.Option.{same_Some, none-some}
use Rattle.disk.specs.Lanes.{CountsOne}
use Rattle.disk.specs.declared.lane.DeviceFault.{DeviceFault}
use Rattle.store_types.specs.declared.refusal.Refusal.{Refusal}
use Rattle.store_types.specs.declared.refusal.Refusal.TheVariants.{Device}
use Rattle.xn_model.specs.Lives.{BlockState, Life, Lives, StoreState, life_at, alive_and, prefix_of, drops_of}
use Rattle.xn_model.specs.Results.{GivesExactly, result_map}
use Rattle.xn_model.specs.Calls.{bytes_at, first_pending, is_durable, pick_of, settled_count, settled_place, settled_after, settled_of}
use Rattle.xn_model.specs.Flights.{flight_of, HaveSameFlights, HaveSameFlightsBut}
use Rattle.xn_model.specs.Rules.{IsConsistent, IsIdle}
use Rattle.xn_model.specs.Worlds.{all_pending}
use Rattle.templates.specs.Language.{language}
use Rattle.xn_model.proofs.ForCallers.{map_ok, gives_exactly-ok, place_from, life_from, picked_life, begun_keeps, settled_keeps, begun_life_apart, begun_pending, settled_life_apart, settled_pending, flights_begun, flights_settled}
use Rattle.xn_state.specs.States.{own_types}
use Rattle.xn_kernel.specs.Kernels.{KernelValue, TicketValue, is_in_flight, is_mine}
use Rattle.xn_kernel.specs.Drains.{Reads, WriteRelation, with_home}
use Rattle.xn_kernel.specs.Flushes.{wave_room, kernel_with_begun, IsUnderWay, HoldsOneOf, EndsDurable, EndsOld, StaysUnread, WriteEnds, Wrote, WaveFirst, Wave, WholeWave, Waves}
use Rattle.xn_kernel.proofs.Keeping.{own_rules}
use Rattle.xn_kernel.proofs.Draining.{Began, began, choice, chosen, holds_durable, never_err}

-- What is read back of a write that is under way

module _ (state : StoreState) (b : ℕ) (l : Life) (count : ℕ) (alive : life_at state.lives b ≡ Some l) (begun : l.begun ≡ Some count) where
  choice_here : (read : List ℕ) → settled_place read (slice_get state.lives b) ≡ choice (bytes_eq read (bytes_at count l)) (is_durable read l.durable) count
  choice_here read = ap (settled_place read) (place_from state.lives b l alive) ∙ ap (settled_count l read) begun

  -- the begun bytes settle, and so do the durable ones
  settles_held : (read : List ℕ) → (read ≡ bytes_at count l) ⊎ IfSome l.durable (λ s. read ≡ s.bytes) → (n : ℕ) × (settled_of state b read ≡ Ok (settled_after state b n))
  settles_held read held = go (bytes_eq read (bytes_at count l)) refl (choice_here read)
    where
      durable : (o : Option BlockState) → IfSome o (λ s. read ≡ s.bytes) → is_durable read o ≡ true
      durable None h = refl
      durable (Some s) h = (bytes_eq-Decides read s.bytes).1 h

      go : (t : Bool) → bytes_eq read (bytes_at count l) ≡ t → settled_place read (slice_get state.lives b) ≡ choice t (is_durable read l.durable) count →
          (n : ℕ) × (settled_of state b read ≡ Ok (settled_after state b n))
      go true f e = (count, ap (result_map (settled_after state b)) e)
      go false f e = ⊎_elim
          (λ same. absurd (false≢true (sym f ∙ (bytes_eq-Decides read (bytes_at count l)).1 same)))
          (λ kept. (0, ap (result_map (settled_after state b)) (e ∙ ap (λ t. choice false t count) (durable l.durable kept))))
          held

  -- what a count of durable entries says
  says_held : (read : List ℕ) (durable freed : ℕ) (store : StoreState) → settled_of state b read ≡ Ok ((durable, freed), store) →
      ((read ≡ bytes_at count l) × (durable ≡ count)) ⊎ ((read ≢ bytes_at count l) × (durable ≡ 0) × (freed ≡ 0))
  says_held read durable freed store e =
      let m = map_ok (settled_after state b) (settled_place read (slice_get state.lives b)) ((durable, freed), store) e in
      let k : m.0 ≡ durable = ap (λ (p : (ℕ × ℕ) × StoreState). p.0.0) m.2 in
      ⊎_elim
      (λ p. inl ((bytes_eq-Decides read (bytes_at count l)).0 p.0, sym k ∙ sym p.1))
      (λ p. inr (
        λ same. false≢true (sym p.0 ∙ (bytes_eq-Decides read (bytes_at count l)).1 same),
        sym k ∙ sym p.1,
        sym (ap (λ (p : (ℕ × ℕ) × StoreState). p.0.1) m.2) ∙ (ap (λ n. length (drops_of (first_pending n (life_at state.lives b)))) (sym p.1) ∙ nothing (life_at state.lives b)),
      ))
      (chosen (bytes_eq read (bytes_at count l)) (is_durable read l.durable) count m.0 (sym (choice_here read) ∙ m.1))
    where
      nothing : (o : Option Life) → length (drops_of (first_pending 0 o)) ≡ 0
      nothing None = refl
      nothing (Some l) = refl

-- The end of a write

module _ {L : Type 0} (bytes : L → List ℕ) (faults : L → ℕ) (syncs reads : Reads L) (kernel : KernelValue L) (ticket : TicketValue L) (under : IsUnderWay bytes kernel ticket) where
  mine : is_mine kernel ticket ≡ true
  mine = (λ i. eq-eqb ticket.kernel kernel.id under.ours i && is_in_flight kernel.state ticket.block)
      ∙ (ap (alive_and (λ l. is_some l.begun)) under.alive ∙ ap is_some under.begun)

  module _ (settled : L) (synced : syncs ticket.lane (Ok tt) settled) (same : bytes settled ≡ bytes ticket.lane) where
    abbrev synced_ticket : TicketValue L
    synced_ticket = record ticket { lane = settled; unsynced = false }

    held_there : (bytes settled ≡ bytes_at ticket.count under.life) ⊎ IfSome under.life.durable (λ s. bytes settled ≡ s.bytes)
    held_there = ⊎_elim (λ new. inl (same ∙ (new ∙ under.carries))) (λ old. inr (held under.life.durable old)) under.held
      where
        held : (o : Option BlockState) → IfSome o (λ s. bytes ticket.lane ≡ s.bytes) → IfSome o (λ s. bytes settled ≡ s.bytes)
        held None h = h
        held (Some s) h = same ∙ h

    settles_there : (n : ℕ) × (settled_of kernel.state ticket.block (bytes settled) ≡ Ok (settled_after kernel.state ticket.block n))
    settles_there = settles_held kernel.state ticket.block under.life ticket.count under.alive under.begun (bytes settled) held_there

    -- what a finish says of a refusal
    abbrev Refused : TicketValue L → Type 0
    Refused given = (new : KernelValue L) (back : TicketValue L) (refusal : Refusal) →
        (is_mine kernel given ≡ true → given.unsynced ≡ false → GivesExactly (settled_of kernel.state given.block (bytes given.lane)) kernel.state new.state (Err refusal) ⊎ ((refusal ≡ Device) × CountsOne (faults given.lane) (faults back.lane))) →
        (refusal ≡ Device → (fault : DeviceFault) × reads given.lane (Err fault) back.lane) → back ≡ record given { lane = back.lane } → bytes back.lane ≡ bytes given.lane →
        StaysUnread bytes faults syncs reads ticket back

    pub stays_unread : (given : TicketValue L) → given ≡ synced_ticket → Refused given
    stays_unread given t = subst Refused (sym t) at_synced
      where
        at_synced : Refused synced_ticket
        at_synced new back refusal told unread rest kept = ⊎_elim
            (λ gives. absurd (never_err (settled_of kernel.state ticket.block (bytes settled)) (settled_after kernel.state ticket.block settles_there.0) kernel.state new.state refusal settles_there.1 gives))
            (λ device. let read = unread device.0 in
            record { settled = settled; synced = synced; fault = read.0; gives = read.1; counts = device.1; kept = kept ∙ same; rest = rest })
            (told mine refl)

    module _ (home : L) (read : reads settled (Ok tt) home) (kept : bytes home ≡ bytes settled) (durable freed : ℕ) (store : StoreState)
        (settles : settled_of kernel.state ticket.block (bytes settled) ≡ Ok ((durable, freed), store)) where
      abbrev left : KernelValue L
      left = with_home kernel ticket.block home store

      says : ((bytes settled ≡ bytes_at ticket.count under.life) × (durable ≡ ticket.count)) ⊎ ((bytes settled ≢ bytes_at ticket.count under.life) × (durable ≡ 0) × (freed ≡ 0))
      says = says_held kernel.state ticket.block under.life ticket.count under.alive under.begun (bytes settled) durable freed store settles

      -- the begun bytes are there
      ends_durable : 0 < durable → EndsDurable bytes syncs reads ticket kernel left
      ends_durable some = ⊎_elim
          (λ p. let there : bytes settled ≡ ticket.bytes = p.0 ∙ sym under.carries in
          record {
            settled = settled;
            synced = synced;
            there = there;
            lane = home;
            gives = read;
            kept = kept ∙ there;
            freed = freed;
            store = store;
            settles = ap (settled_of kernel.state ticket.block) (sym there) ∙ (settles ∙ ap (λ n. Ok ((n, freed), store)) p.1);
            next = refl;
          })
          (λ p. absurd (omega (arith, some, p.1)))
          says

      -- the old bytes are
      ends_old : durable ≡ 0 → (answer : Result (Unit {0}) DeviceFault) (before : L) → HoldsOneOf bytes answer before ticket → EndsOld bytes syncs reads answer before ticket kernel left
      ends_old none answer before holds = ⊎_elim
          (λ p. let some = under.some in absurd (omega (arith, none, p.1, some)))
          (λ p. ⊎_elim
          (λ new. absurd (p.0 (same ∙ (new ∙ under.carries))))
          (λ old. record {
            fault = old.1.0;
            failed = old.1.1;
            settled = settled;
            synced = synced;
            there = same ∙ old.0;
            lane = home;
            gives = read;
            kept = kept;
            store = store;
            settles = settles ∙ (λ i. Ok ((p.1 i, p.2 i), store));
            next = refl;
          })
          holds)
          says

    abbrev Done : TicketValue L → Type 0
    Done given = (new : KernelValue L) (durable freed : ℕ) →
        (is_mine kernel given ≡ true → given.unsynced ≡ false → GivesExactly (settled_of kernel.state given.block (bytes given.lane)) kernel.state new.state (Ok (durable, freed)) ⊎ ⊥) →
        (home : L) → bytes home ≡ bytes given.lane → reads given.lane (Ok tt) home →
        new ≡ record kernel { lanes = slice_set kernel.lanes given.block (Some home); state = new.state } →
        (0 < durable → EndsDurable bytes syncs reads ticket kernel new)
        × (durable ≡ 0 → (answer : Result (Unit {0}) DeviceFault) (before : L) → HoldsOneOf bytes answer before ticket → EndsOld bytes syncs reads answer before ticket kernel new)

    pub ends_finished : (given : TicketValue L) → given ≡ synced_ticket → Done given
    ends_finished given t = subst Done (sym t) at_synced
      where
        at_synced : Done synced_ticket
        at_synced new durable freed told home kept read next =
            let gives = ⊎_elim (λ g. g) (λ none. absurd none) (told mine refl) in
            let settles = gives_exactly-ok (settled_of kernel.state ticket.block (bytes settled)) kernel.state new.state (durable, freed) gives in (
              λ some. subst (λ k. EndsDurable bytes syncs reads ticket kernel k) (sym next) (ends_durable home read kept durable freed new.state settles some),
              λ none answer before holds. subst (λ k. EndsOld bytes syncs reads answer before ticket kernel k) (sym next) (ends_old home read kept durable freed new.state settles none answer before holds),
            )

-- so it ends one way or the other
pub ends_with : {L : Type 0} (bytes : L → List ℕ) (faults : L → ℕ) (syncs reads : Reads L) (kernel : KernelValue L) (ticket : TicketValue L) (durable : ℕ) (new : KernelValue L) (given_out : List (TicketValue L)) →
    (0 < durable → EndsDurable bytes syncs reads ticket kernel new)
    × (durable ≡ 0 → (answer : Result (Unit {0}) DeviceFault) (before : L) → HoldsOneOf bytes answer before ticket → EndsOld bytes syncs reads answer before ticket kernel new) →
    (answer : Result (Unit {0}) DeviceFault) (before : L) → HoldsOneOf bytes answer before ticket → WriteEnds bytes faults syncs reads answer before ticket kernel given_out (nat_lt 0 durable) new given_out
ends_with {L} bytes faults syncs reads kernel ticket durable new given_out done answer before holds = go (nat_lt 0 durable) refl
  where
    go : (t : Bool) → nat_lt 0 durable ≡ t → WriteEnds bytes faults syncs reads answer before ticket kernel given_out t new given_out
    go true e = (done.0 (ltb-true 0 durable e), refl)
    go false e = let none = ltb-false 0 durable e in inl (done.1 (omega arith) answer before holds, refl)

-- What the end of a write leaves

record EndKeeps {L : Type 0} (b : ℕ) (old new : KernelValue L) (before after : List (TicketValue L)) (is_durable : Bool) : Type 0 where
  id : new.id ≡ old.id
  rules : IsConsistent (own_types new.state) new.state
  apart : (c : ℕ) (l : Life) (k : ℕ) → c ≢ b → life_at old.state.lives c ≡ Some l → l.begun ≡ Some k → life_at new.state.lives c ≡ Some l
  pending : all_pending new.state.lives + cond is_durable 1 0 ≤ all_pending old.state.lives
  whole : is_durable ≡ true → (flight_of (life_at new.state.lives b) ≡ None) × HaveSameFlightsBut b old.state.lives new.state.lives × (after ≡ before)

module _ {L : Type 0} (bytes : L → List ℕ) (faults : L → ℕ) (writes : WriteRelation L) (syncs reads : Reads L) where
  settled_rules : (old store : StoreState) (b : ℕ) (m : List ℕ) (done : ℕ × ℕ) → IsConsistent (own_types old) old → settled_of old b m ≡ Ok (done, store) → IsConsistent (own_types store) store
  settled_rules old store b m done rules e =
      let kept = settled_keeps (own_types old) old rules b m done store e in
      subst (λ T. IsConsistent T store) (sym (kept.2 language)) kept.0

  module _ (answer : Result (Unit {0}) DeviceFault) (home : L) (ticket : TicketValue L) (some : 1 ≤ ticket.count) (old : KernelValue L) (before : List (TicketValue L)) (rules : IsConsistent (own_types old.state) old.state) where
    end_keeps : (is_durable : Bool) (new : KernelValue L) (after : List (TicketValue L)) → WriteEnds bytes faults syncs reads answer home ticket old before is_durable new after →
        EndKeeps ticket.block old new before after is_durable
    end_keeps true new after e =
        let d = e.0 in
        let T = own_types old.state in
        subst (λ (k : KernelValue L). EndKeeps ticket.block old k before after true) (sym d.next) (record {
          id = refl;
          rules = settled_rules old.state d.store ticket.block ticket.bytes (ticket.count, d.freed) rules d.settles;
          apart = λ c l k other alive begun. settled_life_apart T old.state d.store ticket.block ticket.bytes (ticket.count, d.freed) rules d.settles c l k other alive begun;
          pending = let less = settled_pending T old.state d.store ticket.block ticket.bytes (ticket.count, d.freed) rules d.settles in omega arith;
          whole = λ t. let f = flights_settled T old.state d.store ticket.block ticket.bytes (ticket.count, d.freed) rules d.settles in (f.0, f.1, e.1);
        })
    end_keeps false new after e = ⊎_elim
        (λ p. let d = p.0 in
        let T = own_types old.state in
        subst (λ (k : KernelValue L). EndKeeps ticket.block old k before after false) (sym d.next) (record {
          id = refl;
          rules = settled_rules old.state d.store ticket.block (bytes d.settled) (0, 0) rules d.settles;
          apart = λ c l k other alive begun. settled_life_apart T old.state d.store ticket.block (bytes d.settled) (0, 0) rules d.settles c l k other alive begun;
          pending = let less = settled_pending T old.state d.store ticket.block (bytes d.settled) (0, 0) rules d.settles in omega arith;
          whole = λ t. absurd (false≢true t);
        }))
        (λ p. subst (λ (k : KernelValue L). EndKeeps ticket.block old k before after false) (sym p.2) (record {
          id = refl;
          rules = rules;
          apart = λ c l k other alive begun. alive;
          pending = omega arith;
          whole = λ t. absurd (false≢true t);
        }))
        e

  -- What a wave leaves
  pub record WaveKeeps (n durable : ℕ) (old new : KernelValue L) (before after : List (TicketValue L)) : Type 0 where
    pub id : new.id ≡ old.id
    pub rules : IsConsistent (own_types new.state) new.state
    -- what was under way before it is as it was
    pub apart : (c : ℕ) (l : Life) (k : ℕ) → life_at old.state.lives c ≡ Some l → l.begun ≡ Some k → life_at new.state.lives c ≡ Some l
    pub pending : all_pending new.state.lives + durable ≤ all_pending old.state.lives
    pub few : durable ≤ n
    -- where all is durable nothing more is under way
    pub whole : durable ≡ n → HaveSameFlights old.state.lives new.state.lives × (after ≡ before)

  module _ (n room durable : ℕ) (old : KernelValue L) (before : List (TicketValue L)) (new : KernelValue L) (after : List (TicketValue L))
      (w : WaveFirst bytes faults writes syncs reads (Wave bytes faults writes syncs reads n) room durable old before new after)
      (ih : WaveKeeps n w.others (kernel_with_begun old w.ticket.block w.begun) w.mid before w.between) where
    abbrev b : ℕ
    b = w.ticket.block

    abbrev given : List ℕ × ℕ
    given = (w.ticket.bytes, w.ticket.count)

    picked : (l : Life) × (life_at old.state.lives b ≡ Some l) × (l.begun ≡ None) × (1 ≤ prefix_of old.state.lives (Some l))
    picked = picked_life old.state b w.written.picked

    began_here : Began old.state b w.ticket.bytes w.ticket.count w.begun
    began_here = began old.state w.begun b w.ticket.bytes w.ticket.count w.written.begins

    first_ends : EndKeeps b w.mid new w.between after w.is_durable
    first_ends = end_keeps w.answer w.written.home w.ticket began_here.some w.mid w.between ih.rules w.is_durable new after w.ends

    -- what was under way is another block's
    other : (c : ℕ) (l : Life) (k : ℕ) → life_at old.state.lives c ≡ Some l → l.begun ≡ Some k → c ≢ b
    other c l k alive begun same =
        let is : l ≡ picked.0 = same_Some l picked.0 (sym alive ∙ (ap (life_at old.state.lives) same ∙ picked.1)) in
        none-some k (sym picked.2 ∙ (ap (λ (x : Life). x.begun) (sym is) ∙ begun))

    counted : (t : Bool) → all_pending new.state.lives + cond t 1 0 ≤ all_pending w.mid.state.lives → all_pending w.mid.state.lives + w.others ≤ all_pending w.begun.lives →
        all_pending w.begun.lives ≡ all_pending old.state.lives → durable ≡ cond t (suc w.others) w.others → all_pending new.state.lives + durable ≤ all_pending old.state.lives
    counted true less more same count = omega arith
    counted false less more same count = omega arith

    limited : (t : Bool) → w.others ≤ n → durable ≡ cond t (suc w.others) w.others → durable ≤ suc n
    limited true few count = omega arith
    limited false few count = omega arith

    every : (t : Bool) → durable ≡ cond t (suc w.others) w.others → durable ≡ suc n → w.others ≤ n → (t ≡ true) × (w.others ≡ n)
    every true count e few = (refl, omega arith)
    every false count e few = absurd (omega arith)

    none_before : flight_of (life_at old.state.lives b) ≡ None
    none_before = ap flight_of picked.1 ∙ ap (option_map (λ k. (k, bytes_at k picked.0))) picked.2

    all_same : (flight_of (life_at new.state.lives b) ≡ None) → HaveSameFlightsBut b w.mid.state.lives new.state.lives → HaveSameFlights w.begun.lives w.mid.state.lives → HaveSameFlights old.state.lives new.state.lives
    all_same ended but inner c = elim (cases_eq c b) [
      | inl same ↦ ap (λ x. flight_of (life_at new.state.lives x)) same ∙ (ended ∙ (sym none_before ∙ ap (λ x. flight_of (life_at old.state.lives x)) (sym same)))
      | inr not_b ↦ but c not_b ∙ (inner c ∙ (flights_begun old.state w.begun b given w.written.begins).1 c not_b)
    ]

    wave_step : WaveKeeps (suc n) durable old new before after
    wave_step = record {
      id = first_ends.id ∙ ih.id;
      rules = first_ends.rules;
      apart = λ c l k alive begun.
          let not_b = other c l k alive begun in
          first_ends.apart c l k not_b (ih.apart c l k (begun_life_apart old.state w.begun b given w.written.begins c not_b ∙ alive) begun) begun;
      pending = counted w.is_durable first_ends.pending ih.pending (begun_pending old.state w.begun b given w.written.begins) w.counts;
      few = limited w.is_durable ih.few w.counts;
      whole = λ e.
          let all = every w.is_durable w.counts e ih.few in
          let f = first_ends.whole all.0 in
          let i = ih.whole all.1 in
          (all_same f.0 f.1 i.0, f.2 ∙ i.1);
    }

  pub wave_keeps : (n room durable : ℕ) (old : KernelValue L) (before : List (TicketValue L)) (new : KernelValue L) (after : List (TicketValue L)) → IsConsistent (own_types old.state) old.state →
      Wave bytes faults writes syncs reads n room durable old before new after → WaveKeeps n durable old new before after
  wave_keeps zero room durable old before new after rules w =
      subst (λ (k : KernelValue L). WaveKeeps 0 durable old k before after) (sym w.1) (record {
        id = refl;
        rules = rules;
        apart = λ c l k alive begun. alive;
        pending = let none = w.0 in omega arith;
        few = let none = w.0 in omega arith;
        whole = λ e. (λ b. refl, w.2);
      })
  wave_keeps (suc n) room durable old before new after rules w =
      let given : List ℕ × ℕ = (w.ticket.bytes, w.ticket.count) in
      let kept = begun_keeps (own_types old.state) old.state rules w.ticket.block given w.begun w.written.begins in
      wave_step n room durable old before new after w
      (wave_keeps n w.left w.others (kernel_with_begun old w.ticket.block w.begun) before w.mid w.between (own_rules old.state w.begun kept) w.rest)

  -- The first block, with the others

  module _ (crash : L → List ℕ → Type 0) (old away : KernelValue L) (answer : Result (Unit {0}) DeviceFault) (ticket : TicketValue L) (w : Wrote bytes crash faults writes old away answer ticket)
      (n left others : ℕ) (before : List (TicketValue L)) (mid : KernelValue L) (between : List (TicketValue L))
      (rest : Wave bytes faults writes syncs reads n left others away before mid between) where
    -- once the others have ended
    pub first_under_way : IsUnderWay bytes mid ticket
    first_under_way =
        let b = began old.state away.state ticket.block ticket.bytes ticket.count w.written.begins in
        let rules = own_rules old.state away.state (begun_keeps (own_types old.state) old.state w.is.rules ticket.block (ticket.bytes, ticket.count) away.state w.written.begins) in
        let kept = wave_keeps n left others away before mid between rules rest in
        let life : Life = record b.life { begun = Some ticket.count } in
        record {
          ours = w.written.ours ∙ sym (kept.id ∙ ap (λ (k : KernelValue L). k.id) w.away);
          life = life;
          alive = kept.apart ticket.block life ticket.count (life_from away.state.lives ticket.block life b.now) refl;
          begun = refl;
          some = b.some;
          carries = b.carries;
          held = ⊎_elim (λ new. inl new) (λ same. inr (holds_durable bytes crash faults writes syncs reads old away answer ticket w same.0)) w.holds;
        }

    -- it ends
    pub first_ends_wave : (is_durable : Bool) (new : KernelValue L) (out : List (TicketValue L)) → WriteEnds bytes faults syncs reads answer w.written.home ticket mid between is_durable new out →
        Wave bytes faults writes syncs reads (suc n) (suc left) (cond is_durable (suc others) others) old before new out
    first_ends_wave is_durable new out ends = record {
      answer = answer;
      ticket = ticket;
      begun = away.state;
      written = w.written;
      left = left;
      room_is = refl;
      others = others;
      mid = mid;
      between = between;
      rest = subst (λ k. Wave bytes faults writes syncs reads n left others k before mid between) w.away rest;
      is_durable = is_durable;
      ends = ends;
      counts = refl;
    }

  -- Waves of a flush

  -- a wave of no block finds none
  pub none_begun : (n durable : ℕ) (old new : KernelValue L) (after : List (TicketValue L)) → n ≡ 0 → Wave bytes faults writes syncs reads n wave_room durable old [] new after →
      (new ≡ old) × (pick_of old.state ≡ None)
  none_begun zero durable old new after none w = (w.1, ⊎_elim (λ full. absurd (omega arith)) (λ picked. picked) w.3)
  none_begun (suc n) durable old new after none w = absurd (omega arith)

  -- a wave all of whose blocks are made durable
  module _ (n durable : ℕ) (old new : KernelValue L) (after : List (TicketValue L)) (rules : IsConsistent (own_types old.state) old.state)
      (w : Wave bytes faults writes syncs reads n wave_room durable old [] new after) (all : durable ≡ n) (some : 1 ≤ n) where
    abbrev kept_all : WaveKeeps n durable old new [] after
    kept_all = wave_keeps n wave_room durable old [] new after rules w

    pub none_given_out : after ≡ []
    none_given_out = (kept_all.whole all).1

    pub same_flights : HaveSameFlights old.state.lives new.state.lives
    same_flights = (kept_all.whole all).0

    pub less_pending : all_pending new.state.lives < all_pending old.state.lives
    less_pending = let less = kept_all.pending in omega arith

    pub is_whole : WholeWave bytes faults writes syncs reads old new
    is_whole = record {
      blocks = n;
      some = some;
      wave = subst (λ k. Wave bytes faults writes syncs reads n wave_room k old [] new []) all
          (subst (λ xs. Wave bytes faults writes syncs reads n wave_room durable old [] new xs) none_given_out w);
    }

  pub waves_more : (n : ℕ) (a b c : KernelValue L) → Waves bytes faults writes syncs reads n a b → WholeWave bytes faults writes syncs reads b c → Waves bytes faults writes syncs reads (n + 1) a c
  waves_more n a b c waves wave = let next : suc n ≡ n + 1 = omega arith in subst (λ m. Waves bytes faults writes syncs reads m a c) next (go n a waves)
    where
      go : (n : ℕ) (a : KernelValue L) → Waves bytes faults writes syncs reads n a b → Waves bytes faults writes syncs reads (suc n) a c
      go zero a e = (c, subst (λ k. WholeWave bytes faults writes syncs reads k c) e wave, refl)
      go (suc n) a waves = (waves.0, waves.1, go n waves.0 waves.2)

-- with no write under way before, there is none after
pub still_idle : (old new : Lives) → IsIdle old → HaveSameFlights old new → IsIdle new
still_idle old new idle same b l alive = go l.begun refl
  where
    was : (o : Option Life) → life_at old b ≡ o → flight_of o ≡ None
    was None e = refl
    was (Some m) e = ap (option_map (λ k. (k, bytes_at k m))) (idle b m e)

    go : (o : Option ℕ) → l.begun ≡ o → o ≡ None
    go None e = refl
    go (Some k) e = absurd (none-some (k, bytes_at k l) (sym (was (life_at old b) refl) ∙ (sym (same b) ∙ (ap flight_of alive ∙ ap (option_map (λ k. (k, bytes_at k l))) e))))
