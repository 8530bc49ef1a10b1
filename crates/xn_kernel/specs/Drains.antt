-- What a drain does: rounds, each a write of the block that pick answers, until nothing is pending or a lane fails. Of a kind of
-- lanes, bytes says what its block holds, faults counts its faults, and writes, syncs and reads say what a write, a sync and a read may answer.
--     Writes .. kernel answer ticket begun    the write of a round: its ticket after it, and the state with the write begun
--     Round .. old new                        a round that made entries durable
--     Rounds .. n old new                     so many
--     StopsAtDevice .. old ticket refusal new         a drain that cannot go on, and why
use Rattle.std.specs.Prelude.{◌≡◌, ◌⊎◌, ℕ, zero, suc, true, false, List, Option, Some, None, is_some, Result, Ok, Err, OnErr, slice_get, slice_set}
use Rattle.std.specs.List.{list_any}
use Rattle.disk.specs.Lanes.{CountsOne}
use Rattle.disk.specs.declared.lane.DeviceFault.{DeviceFault}
use Rattle.xn_model.specs.Lives.{StoreState, alive_and}
use Rattle.store_types.specs.declared.refusal.Refusal.{Refusal}
use Rattle.store_types.specs.declared.refusal.Refusal.TheVariants.{InFlight, Device}
use Rattle.xn_model.specs.Calls.{pick_of, begun_of, settled_of}
use Rattle.xn_kernel.specs.Kernels.{KernelValue, TicketValue}

-- what a read, a sync or a write of a lane may answer, and the lane after it
abbrev pub Reads : Type 0 → Type 1
Reads L = L → Result (Unit {0}) DeviceFault → L → Type 0

abbrev pub WriteRelation : Type 0 → Type 1
WriteRelation L = L → List ℕ → Result (Unit {0}) DeviceFault → L → Type 0

-- the block that is picked, with its safe entries begun, was written once through its lane: the ticket after that, and the state
pub record Writes {L : Type 0} (faults : L → ℕ) (writes : WriteRelation L) (kernel : KernelValue L) (answer : Result (Unit {0}) DeviceFault) (ticket : TicketValue L)
    (begun : StoreState) : Type 0 where
  pub picked : pick_of kernel.state ≡ Some ticket.block
  pub begins : begun_of kernel.state ticket.block ≡ Ok ((ticket.bytes, ticket.count), begun)
  pub ours : ticket.kernel ≡ kernel.id
  -- the lane before the write
  pub home : L
  pub taken : slice_get kernel.lanes ticket.block ≡ Some (Some home)
  pub gives : writes home ticket.bytes answer ticket.lane
  pub counts : OnErr answer (CountsOne (faults home) (faults ticket.lane))
  pub unsynced : ticket.unsynced ≡ true

-- the kernel with a lane at home, in this state
abbrev pub with_home : {L : Type 0} → KernelValue L → ℕ → L → StoreState → KernelValue L
with_home kernel block lane store = record kernel { lanes = slice_set kernel.lanes block (Some lane); state = store }

-- the begun bytes are read back, and the write's entries are durable; the write itself may have been answered Err
pub record Round {L : Type 0} (bytes : L → List ℕ) (faults : L → ℕ) (writes : WriteRelation L) (syncs reads : Reads L) (old new : KernelValue L) : Type 0 where
  pub answer : Result (Unit {0}) DeviceFault
  pub ticket : TicketValue L
  pub begun : StoreState
  pub written : Writes faults writes old answer ticket begun
  -- the lane after the sync
  pub settled : L
  pub synced : syncs ticket.lane (Ok tt) settled
  pub there : bytes settled ≡ ticket.bytes
  -- the lane after the read, which is at home then
  pub lane : L
  pub gives : reads settled (Ok tt) lane
  pub kept : bytes lane ≡ ticket.bytes
  pub freed : ℕ
  pub store : StoreState
  pub settles : settled_of begun ticket.block ticket.bytes ≡ Ok ((ticket.count, freed), store)
  pub next : new ≡ with_home old ticket.block lane store

abbrev pub Rounds : {L : Type 0} → (L → List ℕ) → (L → ℕ) → WriteRelation L → Reads L → Reads L → ℕ → KernelValue L → KernelValue L → Type 0
Rounds {L} bytes faults writes syncs reads zero old new = new ≡ old
Rounds {L} bytes faults writes syncs reads (suc n) old new = (mid : KernelValue L) × Round bytes faults writes syncs reads old mid ×
    Rounds bytes faults writes syncs reads n mid new

-- a write of some block is under way
abbrev pub IsBusy : StoreState → Type 0
IsBusy state = list_any (alive_and (λ l. is_some l.begun)) state.lives ≡ true

-- The write was answered Err, and the block holds the old bytes: its entries stay pending, and its lane is at home.
pub record Unwritten {L : Type 0} (bytes : L → List ℕ) (faults : L → ℕ) (writes : WriteRelation L) (syncs reads : Reads L) (old new : KernelValue L) : Type 0 where
  pub fault : DeviceFault
  pub ticket : TicketValue L
  pub begun : StoreState
  pub written : Writes faults writes old (Err fault) ticket begun
  pub settled : L
  pub synced : syncs ticket.lane (Ok tt) settled
  pub there : bytes settled ≡ bytes written.home
  pub lane : L
  pub gives : reads settled (Ok tt) lane
  pub kept : bytes lane ≡ bytes settled
  pub store : StoreState
  pub settles : settled_of begun ticket.block (bytes settled) ≡ Ok ((0, 0), store)
  pub next : new ≡ with_home old ticket.block lane store

-- The block could not be synced: it stays in flight, and its lane is with the ticket.
pub record Unsynced {L : Type 0} (bytes : L → List ℕ) (faults : L → ℕ) (writes : WriteRelation L) (syncs reads : Reads L) (old : KernelValue L)
    (back : TicketValue L) (new : KernelValue L) : Type 0 where
  pub answer : Result (Unit {0}) DeviceFault
  pub ticket : TicketValue L
  pub begun : StoreState
  pub written : Writes faults writes old answer ticket begun
  pub fault : DeviceFault
  pub gives : syncs ticket.lane (Err fault) back.lane
  pub counts : CountsOne (faults ticket.lane) (faults back.lane)
  pub kept : bytes back.lane ≡ bytes ticket.lane
  pub rest : back ≡ record ticket { lane = back.lane }
  pub next : new ≡ record old { lanes = slice_set old.lanes ticket.block None; state = begun }

-- The block could not be read back: it stays in flight, and its lane is with the ticket.
pub record Unread {L : Type 0} (bytes : L → List ℕ) (faults : L → ℕ) (writes : WriteRelation L) (syncs reads : Reads L) (old : KernelValue L) (back : TicketValue L)
    (new : KernelValue L) : Type 0 where
  pub answer : Result (Unit {0}) DeviceFault
  pub ticket : TicketValue L
  pub begun : StoreState
  pub written : Writes faults writes old answer ticket begun
  pub settled : L
  pub synced : syncs ticket.lane (Ok tt) settled
  pub fault : DeviceFault
  pub gives : reads settled (Err fault) back.lane
  pub counts : CountsOne (faults settled) (faults back.lane)
  pub kept : bytes back.lane ≡ bytes ticket.lane
  pub rest : back ≡ record ticket { lane = back.lane; unsynced = false }
  pub next : new ≡ record old { lanes = slice_set old.lanes ticket.block None; state = begun }

-- after the last good round a write is answered Err and leaves the old bytes, or a block cannot be synced or read back
abbrev pub StopsAtDevice : {L : Type 0} → (L → List ℕ) → (L → ℕ) → WriteRelation L → Reads L → Reads L → KernelValue L → Option (TicketValue L) → Refusal → KernelValue L →
    Type 0
StopsAtDevice {L} bytes faults writes syncs reads old None refusal new = (refusal ≡ Device) × Unwritten bytes faults writes syncs reads old new
StopsAtDevice {L} bytes faults writes syncs reads old (Some back) refusal new =
    (refusal ≡ Device) × (Unsynced bytes faults writes syncs reads old back new ⊎ Unread bytes faults writes syncs reads old back new)

-- a drain that is refused: before its first round, as a write is under way; or after some rounds, as a lane failed
abbrev pub Refuses : {L : Type 0} → (L → List ℕ) → (L → ℕ) → WriteRelation L → Reads L → Reads L → KernelValue L → ℕ → Option (TicketValue L) → Refusal →
    KernelValue L → Type 0
Refuses {L} bytes faults writes syncs reads old n ticket refusal new =
    (IsBusy old.state × (n ≡ 0) × (ticket ≡ None) × (refusal ≡ InFlight) × (new ≡ old))
    ⊎ ((mid : KernelValue L) × Rounds bytes faults writes syncs reads n old mid × StopsAtDevice bytes faults writes syncs reads mid ticket refusal new)
