-- A turn of a flusher, from what its calls answer.
use Rattle.std.proofs.Common.{◌≡◌, ◌⊎◌, ℕ, suc, Bool, true, false, List, Option, Some, Result, Ok, Err, inl, inr, refl, sym, subst, ⊎_elim}
use Rattle.std.specs.Prelude.{IsTrue, OnOk, OnErr, IfOk, IfErr, IsErrAnd, slice_get}
use Rattle.std.specs.Result.{is_err}
use Rattle.disk.specs.Lanes.{CountsOne}
use Rattle.disk.specs.declared.lane.DeviceFault.{DeviceFault}
use Rattle.xn_model.specs.Lives.{StoreState}
use Rattle.store_types.specs.declared.refusal.Refusal.{Refusal}
use Rattle.store_types.specs.declared.refusal.Refusal.TheVariants.{Device, NotMine}
use Rattle.xn_model.specs.Results.{GivesExactly, result_map}
use Rattle.xn_model.specs.Calls.{pick_of, begun_of, settled_of}
use Rattle.xn_model.proofs.ForCallers.{gives_exactly-ok, picked_begins}
use Rattle.xn_kernel.specs.Kernels.{TicketValue, is_mine, result_map_err}
use Rattle.xn_kernel.specs.Drains.{Reads, WriteRelation}
use Rattle.shared.specs.Hubs.{HubValue, IsHub}
use Rattle.shared.specs.Flushers.{HasBegun, HasWritten, HasSynced, TurnUnsynced, Finishes, FinishRefuses}
use Rattle.shared.specs.Flushers.{TurnEnds, GoodTurns, EndsAtFailedWrite, FlusherEnds, writes_after}

is_or_not : (b : Bool) → (b ≡ false) ⊎ (b ≡ true)
is_or_not true = inr refl
is_or_not false = inl refl

never_true : false ≡ true → ⊥
never_true e = cc

is_ok_then : (r : Result (Unit {0}) DeviceFault) → is_err r ≡ false → r ≡ Ok tt
is_ok_then (Ok done) h = refl
is_ok_then (Err fault) h = cc

is_err_then : (r : Result (Unit {0}) DeviceFault) → is_err r ≡ true → (fault : DeviceFault) × (r ≡ Err fault)
is_err_then (Ok done) h = absurd (never_true h)
is_err_then (Err fault) h = (fault, refl)

-- The beginning of a write

never_refused : {A : Type 0} (r : Result (A × StoreState) Refusal) (x : A × StoreState) (old new : StoreState) (refusal : Refusal) → r ≡ Ok x →
    GivesExactly r old new (Err refusal) → ⊥
never_refused (Ok (answer, after)) x old new refusal e h = cc
never_refused (Err first) x old new refusal e h = cc

-- the block that may be written is never refused
pub begin_never_fails : (old new : StoreState) (block : ℕ) (refusal : Refusal) → pick_of old ≡ Some block →
    GivesExactly (begun_of old block) old new (Err refusal) → ⊥
begin_never_fails old new block refusal picked gives = never_refused (begun_of old block) _ old new refusal (picked_begins old block picked).3 gives

module _ {L : Type 0} (bytes : L → List ℕ) (leaves : L → List ℕ → Type 0) where
  abbrev BegunAt : HubValue L → StoreState → TicketValue L → ℕ → Type 0
  BegunAt found new ticket block =
      (pick_of found.kernel.state ≡ Some block) × (begun_of found.kernel.state block ≡ Ok ((ticket.bytes, ticket.count), new))
      × (slice_get found.kernel.lanes block ≡ Some (Some ticket.lane))

  pub begins : (found : HubValue L) (new : StoreState) (block : ℕ) (ticket : TicketValue L) → IsHub bytes leaves found →
      pick_of found.kernel.state ≡ Some block →
      GivesExactly (begun_of found.kernel.state block) found.kernel.state new (Ok (ticket.bytes, ticket.count)) →
      (ticket.kernel ≡ found.kernel.id) × (ticket.block ≡ block) × (slice_get found.kernel.lanes block ≡ Some (Some ticket.lane)) × (ticket.unsynced ≡ false) →
      HasBegun bytes leaves ticket
  begins found new block ticket sound picked gives told =
      let begins = gives_exactly-ok (begun_of found.kernel.state block) found.kernel.state new (ticket.bytes, ticket.count) gives in
      let begun = subst (BegunAt found new ticket) (sym told.1) (picked, begins, told.2) in
      record {
        found = found;
        sound = sound;
        begun = new;
        picked = begun.0;
        begins = begun.1;
        ours = told.0;
        taken = begun.2;
        unsynced = told.3;
      }

-- The finish

module _ {L : Type 0} (bytes : L → List ℕ) (leaves : L → List ℕ → Type 0) (faults : L → ℕ) (reads : Reads L) where
  -- what a finish of a synced ticket answers where it is of this kernel
  abbrev Told : HubValue L → StoreState → TicketValue L → Result (ℕ × ℕ) Refusal → Type 0 → Type 0
  Told found new ticket answer Fault = IsTrue (is_mine found.kernel ticket) → ticket.unsynced ≡ false →
      GivesExactly (settled_of found.kernel.state ticket.block (bytes ticket.lane)) found.kernel.state new answer ⊎ Fault

  pub finishes : {A : Type 0} (durable freed : A → ℕ) (Fault Foreign : TicketValue L × Refusal → Type 0) (Home : L →
      Type 0) (found : HubValue L) (new : StoreState) (ticket : TicketValue L)
      (result : Result A (TicketValue L × Refusal)) → IsHub bytes leaves found → ticket.unsynced ≡ false →
      (is_mine found.kernel ticket ≡ false → IsErrAnd result Foreign) →
      Told found new ticket (result_map (λ landed. (durable landed, freed landed)) (result_map_err (λ back. back.1) result)) (IsErrAnd result Fault) →
      OnOk result ((lane : L) × (bytes lane ≡ bytes ticket.lane) × (faults lane ≡ faults ticket.lane) × reads ticket.lane (Ok tt) lane × Home lane) →
      IfOk result (λ landed. Finishes bytes leaves reads ticket (durable landed))
  finishes durable freed Fault Foreign Home found new ticket (Err back) sound synced foreign told given = tt
  finishes durable freed Fault Foreign Home found new ticket (Ok landed) sound synced foreign told given =
      ⊎_elim (λ other. absurd (foreign other)) (λ mine. ⊎_elim
      (λ gives. record {
        found = found;
        sound = sound;
        mine = mine;
        lane = given.0;
        gives = given.3;
        freed = freed landed;
        store = new;
        settles = gives_exactly-ok (settled_of found.kernel.state ticket.block (bytes ticket.lane)) found.kernel.state new (durable landed, freed landed) gives;
      })
      (λ fault. absurd fault)
      (told mine synced))
      (is_or_not (is_mine found.kernel ticket))

  gives_refusal : {A : Type 0} (r : Result (A × StoreState) Refusal) (old new : StoreState) (refusal : Refusal) → GivesExactly r old new (Err refusal) →
      r ≡ Err refusal
  gives_refusal (Ok (answer, after)) old new refusal h = cc
  gives_refusal (Err first) old new refusal h = cc

  pub finish_refused : {A : Type 0} (durable freed : A → ℕ) (found : HubValue L) (new : StoreState) (ticket : TicketValue L)
      (result : Result A (TicketValue L × Refusal)) → IsHub bytes leaves found → ticket.unsynced ≡ false →
      (is_mine found.kernel ticket ≡ false → IsErrAnd result (λ back. (back.0 ≡ ticket) × (back.1 ≡ NotMine))) →
      Told found new ticket (result_map (λ landed. (durable landed, freed landed)) (result_map_err (λ back. back.1) result))
      (IsErrAnd result (λ back. (back.1 ≡ Device) × CountsOne (faults ticket.lane) (faults back.0.lane))) →
      IfErr result (λ back. (back.0 ≡ record ticket { lane = back.0.lane }) × (bytes back.0.lane ≡ bytes ticket.lane)) →
      IfErr result (λ back. back.1 ≡ Device → (fault : DeviceFault) × reads ticket.lane (Err fault) back.0.lane) →
      IfErr result (λ back. FinishRefuses bytes leaves faults reads ticket back.1 back.0)
  finish_refused durable freed found new ticket (Ok landed) sound synced foreign told back unread = tt
  finish_refused durable freed found new ticket (Err (left, refusal)) sound synced foreign told back unread = record {
    found = found;
    sound = sound;
    fails = ⊎_elim (λ other. inl (other, (foreign other).1)) (λ mine. ⊎_elim
        (λ gives. inr (inr (gives_refusal (settled_of found.kernel.state ticket.block (bytes ticket.lane)) found.kernel.state new refusal gives)))
        (λ fault. inr (inl (fault.0, fault.1, unread fault.0)))
        (told mine synced))
        (is_or_not (is_mine found.kernel ticket));
    kept = back.1;
    rest = back.0;
  }

-- The write and its sync

module _ {L : Type 0} (bytes : L → List ℕ) (leaves : L → List ℕ → Type 0) (faults : L → ℕ) (writes : WriteRelation L) (syncs reads : Reads L) where
  pub has_written : (begun ticket : TicketValue L) (answer : Result (Unit {0}) DeviceFault) → HasBegun bytes leaves begun →
      ticket ≡ record begun { lane = ticket.lane; unsynced = true } → writes begun.lane begun.bytes answer ticket.lane →
      OnErr answer (CountsOne (faults begun.lane) (faults ticket.lane)) → HasWritten bytes leaves faults writes syncs reads answer ticket
  has_written begun ticket answer from landed gives counts = subst (HasWritten bytes leaves faults writes syncs reads answer) (sym landed) (record {
    found = from.found;
    sound = from.sound;
    begun = from.begun;
    written = record {
      picked = from.picked;
      begins = from.begins;
      ours = from.ours;
      home = begun.lane;
      taken = from.taken;
      gives = gives;
      counts = counts;
      unsynced = refl;
    };
  })

  pub has_synced : (before ticket : TicketValue L) (answer result : Result (Unit {0}) DeviceFault) → is_err result ≡ false →
      HasWritten bytes leaves faults writes syncs reads answer before → syncs before.lane result ticket.lane → bytes ticket.lane ≡ bytes before.lane →
      OnOk result (ticket ≡ record before { lane = ticket.lane; unsynced = false }) → HasSynced bytes leaves faults writes syncs reads answer ticket
  has_synced before ticket answer result well written gives kept rest = record {
    before = before;
    written = written;
    gives = subst (λ r. syncs before.lane r ticket.lane) (is_ok_then result well) gives;
    kept = kept;
    rest = subst (λ r. OnOk r (ticket ≡ record before { lane = ticket.lane; unsynced = false })) (is_ok_then result well) rest;
  }

  pub turn_unsynced : (before ticket : TicketValue L) (answer result : Result (Unit {0}) DeviceFault) → is_err result ≡ true →
      HasWritten bytes leaves faults writes syncs reads answer before → syncs before.lane result ticket.lane → bytes ticket.lane ≡ bytes before.lane →
      OnErr result (ticket ≡ record before { lane = ticket.lane }) → TurnUnsynced bytes leaves faults writes syncs reads ticket
  turn_unsynced before ticket answer result failed written gives kept rest =
      let fault = is_err_then result failed in
      record {
        answer = answer;
        before = before;
        written = written;
        fault = fault.0;
        gives = subst (λ r. syncs before.lane r ticket.lane) fault.1 gives;
        kept = kept;
        rest = subst (λ r. OnErr r (ticket ≡ record before { lane = ticket.lane })) fault.1 rest;
      }

  -- The turns

  pub turn_more : (turns before count durable : ℕ) (answer : Result (Unit {0}) DeviceFault) → is_err answer ≡ false →
      GoodTurns bytes leaves faults writes syncs reads turns before → TurnEnds bytes leaves faults writes syncs reads answer durable →
      count ≡ writes_after before durable →
      GoodTurns bytes leaves faults writes syncs reads (suc turns) count
  turn_more turns before count durable answer well good last counts =
      (before, durable, good, subst (λ a. TurnEnds bytes leaves faults writes syncs reads a durable) (is_ok_then answer well) last, counts)

  pub ends_at_failed_write : (turns before count durable : ℕ) (answer : Result (Unit {0}) DeviceFault) → is_err answer ≡ true →
      GoodTurns bytes leaves faults writes syncs reads turns before → TurnEnds bytes leaves faults writes syncs reads answer durable →
      count ≡ writes_after before durable →
      EndsAtFailedWrite bytes leaves faults writes syncs reads count
  ends_at_failed_write turns before count durable answer failed good last counts =
      let fault = is_err_then answer failed in
      record {
        turns = turns;
        before = before;
        good = good;
        fault = fault.0;
        durable = durable;
        last = subst (λ a. TurnEnds bytes leaves faults writes syncs reads a durable) fault.1 last;
        counts = counts;
      }

  abbrev Ends : ℕ → Option Refusal → Option (TicketValue L) → Type 0
  Ends count fault ticket = FlusherEnds bytes leaves faults writes syncs reads count fault ticket

  pub ends_so : (count c : ℕ) (fault f : Option Refusal) (ticket t : Option (TicketValue L)) → (count ≡ c) × (fault ≡ f) × (ticket ≡ t) → Ends c f t →
      Ends count fault ticket
  ends_so count c fault f ticket t is ends =
      subst (λ c. Ends c fault ticket) (sym is.0) (subst (λ f. Ends c f ticket) (sym is.1) (subst (λ t. Ends c f t) (sym is.2) ends))
