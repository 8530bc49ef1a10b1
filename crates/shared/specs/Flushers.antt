-- How a flusher ends. Of a kind of lanes, bytes, faults, writes, syncs and reads say what they say of a drain, and leaves which bytes a crash may leave.
--     HasBegun .. ticket                      a write is begun, and nothing is written yet
--     HasWritten .. answer ticket             it is written, and the write answered so
--     HasSynced .. answer ticket              it is synced then
--     Finishes .. ticket durable              the finish of a synced write, which makes so many entries durable
--     FinishRefuses .. ticket refusal back    a finish that is refused, with the ticket that it gives back
--     TurnEnds, TurnFails ..                  a write that is finished; one that stays in flight
--     GoodTurns .. turns count                so many good writes that are finished, and the count of those that made entries durable
--     FlusherEnds .. count fault ticket       the end of a flusher
use Rattle.std.specs.Prelude.{◌≡◌, ◌⊎◌, ℕ, zero, suc, ◌+◌, ◌-◌, ◌^◌, min, IsTrue, false, List, Option, Some, None, Result, Ok, Err, slice_get}
use Rattle.disk.specs.Lanes.{CountsOne}
use Rattle.disk.specs.declared.lane.DeviceFault.{DeviceFault}
use Rattle.xn_model.specs.Lives.{StoreState}
use Rattle.store_types.specs.declared.refusal.Refusal.{Refusal}
use Rattle.store_types.specs.declared.refusal.Refusal.TheVariants.{Device, NotMine}
use Rattle.xn_model.specs.Calls.{pick_of, begun_of, settled_of}
use Rattle.xn_kernel.specs.Kernels.{KernelValue, TicketValue, is_mine}
use Rattle.xn_kernel.specs.Drains.{Reads, WriteRelation, Writes}
use Rattle.shared.specs.Hubs.{HubValue, IsHub}

-- the lane of a write that the device failed to sync, as that sync left it
pub record CouldNotSync {L : Type 0} (syncs : Reads L) (left : L) : Type 0 where
  pub before : L
  pub fault : DeviceFault
  pub gives : syncs before (Err fault) left

-- no block may be written on some hub that was found under the lock
pub record NothingToWrite {L : Type 0} (bytes : L → List ℕ) (leaves : L → List ℕ → Type 0) : Type 0 where
  pub found : HubValue L
  pub sound : IsHub bytes leaves found
  pub nothing : pick_of found.kernel.state ≡ None

-- the block that may be written of some hub that was found under the lock is begun, and the ticket has its lane
pub record HasBegun {L : Type 0} (bytes : L → List ℕ) (leaves : L → List ℕ → Type 0) (ticket : TicketValue L) : Type 0 where
  pub found : HubValue L
  pub sound : IsHub bytes leaves found
  pub begun : StoreState
  pub picked : pick_of found.kernel.state ≡ Some ticket.block
  pub begins : begun_of found.kernel.state ticket.block ≡ Ok ((ticket.bytes, ticket.count), begun)
  pub ours : ticket.kernel ≡ found.kernel.id
  pub taken : slice_get found.kernel.lanes ticket.block ≡ Some (Some ticket.lane)
  pub unsynced : ticket.unsynced ≡ false

-- the block is not in flight there; or it can't be read back, or what it holds is neither what was begun nor what is durable
abbrev pub FinishFails : {L : Type 0} → (L → List ℕ) → (L → ℕ) → Reads L → KernelValue L → TicketValue L → Refusal → TicketValue L → Type 0
FinishFails bytes faults reads kernel ticket refusal back =
    ((is_mine kernel ticket ≡ false) × (refusal ≡ NotMine))
    ⊎ ((refusal ≡ Device) × CountsOne (faults ticket.lane) (faults back.lane) × ((fault : DeviceFault) × reads ticket.lane (Err fault) back.lane))
    ⊎ (settled_of kernel.state ticket.block (bytes ticket.lane) ≡ Err refusal)

-- a count of writes after one that made so many entries durable; it goes up to 2^32 - 1
abbrev pub writes_after : ℕ → ℕ → ℕ
writes_after writes zero = writes
writes_after writes (suc more) = min (writes + 1) (2 ^ 32 - 1)

-- on some hub that was found under the lock the block is in flight, and it is read back
pub record Finishes {L : Type 0} (bytes : L → List ℕ) (leaves : L → List ℕ → Type 0) (reads : Reads L) (ticket : TicketValue L) (durable : ℕ) : Type 0 where
  pub found : HubValue L
  pub sound : IsHub bytes leaves found
  pub mine : IsTrue (is_mine found.kernel ticket)
  pub lane : L
  pub gives : reads ticket.lane (Ok tt) lane
  pub freed : ℕ
  pub store : StoreState
  pub settles : settled_of found.kernel.state ticket.block (bytes ticket.lane) ≡ Ok ((durable, freed), store)

-- on some hub that was found under the lock the finish is refused, and gives the ticket back
pub record FinishRefuses {L : Type 0} (bytes : L → List ℕ) (leaves : L → List ℕ → Type 0) (faults : L → ℕ) (reads : Reads L)
    (ticket : TicketValue L) (refusal : Refusal) (back : TicketValue L) : Type 0 where
  pub found : HubValue L
  pub sound : IsHub bytes leaves found
  pub fails : FinishFails bytes faults reads found.kernel ticket refusal back
  pub kept : bytes back.lane ≡ bytes ticket.lane
  pub rest : back ≡ record ticket { lane = back.lane }

module _ {L : Type 0} (bytes : L → List ℕ) (leaves : L → List ℕ → Type 0) (faults : L → ℕ) (writes : WriteRelation L) (syncs reads : Reads L) where
  -- on some hub that was found under the lock the write of the block that may be written is begun, and it is written once: the ticket after that
  pub record HasWritten (answer : Result (Unit {0}) DeviceFault) (ticket : TicketValue L) : Type 0 where
    pub found : HubValue L
    pub sound : IsHub bytes leaves found
    pub begun : StoreState
    pub written : Writes faults writes found.kernel answer ticket begun

  -- it is synced then: the ticket after that
  pub record HasSynced (answer : Result (Unit {0}) DeviceFault) (ticket : TicketValue L) : Type 0 where
    pub before : TicketValue L
    pub written : HasWritten answer before
    pub gives : syncs before.lane (Ok tt) ticket.lane
    pub kept : bytes ticket.lane ≡ bytes before.lane
    pub rest : ticket ≡ record before { lane = ticket.lane; unsynced = false }

  -- it could not be synced: the ticket after that
  pub record TurnUnsynced (back : TicketValue L) : Type 0 where
    pub answer : Result (Unit {0}) DeviceFault
    pub before : TicketValue L
    pub written : HasWritten answer before
    pub fault : DeviceFault
    pub gives : syncs before.lane (Err fault) back.lane
    pub kept : bytes back.lane ≡ bytes before.lane
    pub rest : back ≡ record before { lane = back.lane }

  -- a write that was answered so, a good sync, and a finish that made so many entries durable
  pub record TurnEnds (answer : Result (Unit {0}) DeviceFault) (durable : ℕ) : Type 0 where
    pub ticket : TicketValue L
    pub synced : HasSynced answer ticket
    pub finished : Finishes bytes leaves reads ticket durable

  -- turns one after another, each of a good write, and the count of those that made entries durable
  abbrev pub GoodTurns : ℕ → ℕ → Type 0
  GoodTurns zero count = count ≡ 0
  GoodTurns (suc turns) count = (before : ℕ) × (durable : ℕ) × GoodTurns turns before × TurnEnds (Ok tt) durable × (count ≡ writes_after before durable)

  -- after good turns the last one's write was answered Err
  pub record EndsAtFailedWrite (count : ℕ) : Type 0 where
    pub turns : ℕ
    pub before : ℕ
    pub good : GoodTurns turns before
    pub fault : DeviceFault
    pub durable : ℕ
    pub last : TurnEnds (Err fault) durable
    pub counts : count ≡ writes_after before durable

  -- a write, be it answered Ok or Err, was synced, and its finish was refused: the ticket that it gave back
  pub record TurnUnfinished (refusal : Refusal) (back : TicketValue L) : Type 0 where
    pub answer : Result (Unit {0}) DeviceFault
    pub ticket : TicketValue L
    pub synced : HasSynced answer ticket
    pub refused : FinishRefuses bytes leaves faults reads ticket refusal back

  -- a write stays in flight: it could not be synced, or its finish was refused
  abbrev pub TurnFails : Refusal → TicketValue L → Type 0
  TurnFails refusal back = ((refusal ≡ Device) × TurnUnsynced back) ⊎ TurnUnfinished refusal back

  -- with no fault, where no block may be written; with Device, as a write failed; or with the ticket of one that stays in flight
  abbrev pub FlusherEnds : ℕ → Option Refusal → Option (TicketValue L) → Type 0
  FlusherEnds count None None = ((turns : ℕ) × GoodTurns turns count) × NothingToWrite bytes leaves
  FlusherEnds count None (Some back) = ⊥
  FlusherEnds count (Some refusal) None = (refusal ≡ Device) × EndsAtFailedWrite count
  FlusherEnds count (Some refusal) (Some back) = ((turns : ℕ) × GoodTurns turns count) × TurnFails refusal back
