-- What a flush does: waves, until nothing is pending or a lane fails. In a wave blocks are picked, begun and written, one after another, and then
-- synced and read back, the last one first. Of a kind of lanes, bytes, faults, writes, syncs and reads say what they say of a drain, and crash what a
-- crash may leave.
--     WroteAll .. n old tickets new    so many blocks were begun and written, and these are their tickets
--     WriteEnds .. answer home ticket old before is_durable new after    how the write of a ticket ends, and the tickets that are given out before and after it
--     Wave .. n room durable old before new after                   a wave of n blocks, so many at most, of which so many are made durable
--     Waves .. n old new                                            so many waves, all of whose blocks are
--     Halts .. old tickets new                                      a wave of which some block isn't
--     FlushRefuses .. old waves tickets refusal new                 a flush that is refused or stops
use Rattle.std.specs.Prelude.{◌≡◌, ◌⊎◌, ℕ, zero, suc, ◌<◌, ◌≤◌, Bool, true, false, cond, List, [], ◌∷◌, ◌++◌, None, Some, Result, Ok, Err, IfSome, slice_set}
use Rattle.disk.specs.Lanes.{CountsOne}
use Rattle.disk.specs.declared.lane.DeviceFault.{DeviceFault}
use Rattle.xn_model.specs.Lives.{Life, StoreState, life_at}
use Rattle.store_types.specs.declared.refusal.Refusal.{Refusal}
use Rattle.store_types.specs.declared.refusal.Refusal.TheVariants.{InFlight, Device, NoMemory}
use Rattle.xn_model.specs.Calls.{pick_of, settled_of, bytes_at}
use Rattle.xn_model.specs.Rules.{IsIdle}
use Rattle.xn_kernel.specs.Kernels.{KernelValue, TicketValue, IsKernel}
use Rattle.xn_kernel.specs.Drains.{Reads, WriteRelation, Writes, with_home, IsBusy}

-- how many blocks a wave takes at most
abbrev pub wave_room : ℕ
wave_room = 4096

-- the kernel once the write of a block is begun
abbrev pub kernel_with_begun : {L : Type 0} → KernelValue L → ℕ → StoreState → KernelValue L
kernel_with_begun kernel block begun = record kernel { lanes = slice_set kernel.lanes block None; state = begun }

-- The end of a write

-- The ticket's write is under way in the kernel, and its lane holds the begun bytes or the durable ones.
pub record IsUnderWay {L : Type 0} (bytes : L → List ℕ) (kernel : KernelValue L) (ticket : TicketValue L) : Type 0 where
  pub ours : ticket.kernel ≡ kernel.id
  pub life : Life
  pub alive : life_at kernel.state.lives ticket.block ≡ Some life
  pub begun : life.begun ≡ Some ticket.count
  pub some : 1 ≤ ticket.count
  pub carries : ticket.bytes ≡ bytes_at ticket.count life
  pub held : (bytes ticket.lane ≡ ticket.bytes) ⊎ IfSome life.durable (λ s. bytes ticket.lane ≡ s.bytes)

-- after a write the lane holds the begun bytes, or what it held before where the answer is Err
abbrev pub HoldsOneOf : {L : Type 0} → (L → List ℕ) → Result (Unit {0}) DeviceFault → L → TicketValue L → Type 0
HoldsOneOf bytes answer home ticket =
    (bytes ticket.lane ≡ ticket.bytes) ⊎ ((bytes ticket.lane ≡ bytes home) × ((fault : DeviceFault) × (answer ≡ Err fault)))

-- A kernel's picked block was begun and written: its ticket after that, and the kernel without its lane.
pub record Wrote {L : Type 0} (bytes : L → List ℕ) (crash : L → List ℕ → Type 0) (faults : L → ℕ) (writes : WriteRelation L)
    (old new : KernelValue L) (answer : Result (Unit {0}) DeviceFault) (ticket : TicketValue L) : Type 0 where
  pub is : IsKernel bytes crash old.lanes old.state
  pub written : Writes faults writes old answer ticket new.state
  pub holds : HoldsOneOf bytes answer written.home ticket
  pub away : new ≡ kernel_with_begun old ticket.block new.state

-- The last one of several, behind these tickets.
pub record WroteLast {L : Type 0} (bytes : L → List ℕ) (crash : L → List ℕ → Type 0) (faults : L → ℕ) (writes : WriteRelation L)
    (Others : List (TicketValue L) → KernelValue L → Type 0) (tickets : List (TicketValue L)) (new : KernelValue L) : Type 0 where
  pub others : List (TicketValue L)
  pub mid : KernelValue L
  pub before : Others others mid
  pub answer : Result (Unit {0}) DeviceFault
  pub ticket : TicketValue L
  pub wrote : Wrote bytes crash faults writes mid new answer ticket
  pub behind : tickets ≡ others ++ ticket ∷ []

abbrev pub WroteAll : {L : Type 0} → (L → List ℕ) → (L → List ℕ → Type 0) → (L → ℕ) → WriteRelation L → ℕ → KernelValue L → List (TicketValue L) →
    KernelValue L → Type 0
WroteAll {L} bytes crash faults writes zero old tickets new = (tickets ≡ []) × (new ≡ old)
WroteAll {L} bytes crash faults writes (suc n) old tickets new =
    WroteLast bytes crash faults writes (WroteAll bytes crash faults writes n old) tickets new

-- The block is synced, the begun bytes are read back, and the write's entries are durable; the write itself may have been answered Err.
pub record EndsDurable {L : Type 0} (bytes : L → List ℕ) (syncs reads : Reads L) (ticket : TicketValue L) (old new : KernelValue L) : Type 0 where
  -- the lane after the sync
  pub settled : L
  pub synced : syncs ticket.lane (Ok tt) settled
  pub there : bytes settled ≡ ticket.bytes
  -- the lane after the read, which is at home then
  pub lane : L
  pub gives : reads settled (Ok tt) lane
  pub kept : bytes lane ≡ ticket.bytes
  pub freed : ℕ
  pub store : StoreState
  pub settles : settled_of old.state ticket.block ticket.bytes ≡ Ok ((ticket.count, freed), store)
  pub next : new ≡ with_home old ticket.block lane store

-- The write was answered Err, and the block holds the old bytes: its entries stay pending, and its lane is at home.
pub record EndsOld {L : Type 0} (bytes : L → List ℕ) (syncs reads : Reads L) (answer : Result (Unit {0}) DeviceFault) (home : L) (ticket : TicketValue L)
    (old new : KernelValue L) : Type 0 where
  pub fault : DeviceFault
  pub failed : answer ≡ Err fault
  pub settled : L
  pub synced : syncs ticket.lane (Ok tt) settled
  pub there : bytes settled ≡ bytes home
  pub lane : L
  pub gives : reads settled (Ok tt) lane
  pub kept : bytes lane ≡ bytes settled
  pub store : StoreState
  pub settles : settled_of old.state ticket.block (bytes settled) ≡ Ok ((0, 0), store)
  pub next : new ≡ with_home old ticket.block lane store

-- The block could not be synced.
pub record StaysUnsynced {L : Type 0} (bytes : L → List ℕ) (faults : L → ℕ) (syncs : Reads L) (ticket back : TicketValue L) : Type 0 where
  pub fault : DeviceFault
  pub gives : syncs ticket.lane (Err fault) back.lane
  pub counts : CountsOne (faults ticket.lane) (faults back.lane)
  pub kept : bytes back.lane ≡ bytes ticket.lane
  pub rest : back ≡ record ticket { lane = back.lane }

-- The block could not be read back.
pub record StaysUnread {L : Type 0} (bytes : L → List ℕ) (faults : L → ℕ) (syncs reads : Reads L) (ticket back : TicketValue L) : Type 0 where
  pub settled : L
  pub synced : syncs ticket.lane (Ok tt) settled
  pub fault : DeviceFault
  pub gives : reads settled (Err fault) back.lane
  pub counts : CountsOne (faults settled) (faults back.lane)
  pub kept : bytes back.lane ≡ bytes ticket.lane
  pub rest : back ≡ record ticket { lane = back.lane; unsynced = false }

-- The write's entries are durable; or they stay pending, and the lane is at home; or the block stays in flight, and the ticket is given out.
abbrev pub WriteEnds : {L : Type 0} → (L → List ℕ) → (L → ℕ) → Reads L → Reads L → Result (Unit {0}) DeviceFault → L → TicketValue L →
    KernelValue L → List (TicketValue L) → Bool → KernelValue L → List (TicketValue L) → Type 0
WriteEnds {L} bytes faults syncs reads answer home ticket old before true new after = EndsDurable bytes syncs reads ticket old new × (after ≡ before)
WriteEnds {L} bytes faults syncs reads answer home ticket old before false new after =
    (EndsOld bytes syncs reads answer home ticket old new × (after ≡ before))
    ⊎ ((back : TicketValue L) × (StaysUnsynced bytes faults syncs ticket back ⊎ StaysUnread bytes faults syncs reads ticket back)
    × (new ≡ old) × (after ≡ before ++ back ∷ []))

-- A wave

-- The first block of a wave is begun and written, then all others are and end, and then the first one ends.
pub record WaveFirst {L : Type 0} (bytes : L → List ℕ) (faults : L → ℕ) (writes : WriteRelation L) (syncs reads : Reads L)
    (Rest : ℕ → ℕ → KernelValue L → List (TicketValue L) → KernelValue L → List (TicketValue L) → Type 0)
    (room durable : ℕ) (old : KernelValue L) (before : List (TicketValue L)) (new : KernelValue L) (after : List (TicketValue L)) : Type 0 where
  pub answer : Result (Unit {0}) DeviceFault
  pub ticket : TicketValue L
  pub begun : StoreState
  pub written : Writes faults writes old answer ticket begun
  -- the room for others, and how many of them are made durable
  pub left : ℕ
  pub room_is : room ≡ suc left
  pub others : ℕ
  pub mid : KernelValue L
  pub between : List (TicketValue L)
  pub rest : Rest left others (kernel_with_begun old ticket.block begun) before mid between
  pub is_durable : Bool
  pub ends : WriteEnds bytes faults syncs reads answer written.home ticket mid between is_durable new after
  pub counts : durable ≡ cond is_durable (suc others) others

-- It has so many blocks: there is no room for more, or none that could be begun.
abbrev pub Wave : {L : Type 0} → (L → List ℕ) → (L → ℕ) → WriteRelation L → Reads L → Reads L → ℕ → ℕ → ℕ →
    KernelValue L → List (TicketValue L) → KernelValue L → List (TicketValue L) → Type 0
Wave {L} bytes faults writes syncs reads zero room durable old before new after =
    (durable ≡ 0) × (new ≡ old) × (after ≡ before) × ((room ≡ 0) ⊎ (pick_of old.state ≡ None))
Wave {L} bytes faults writes syncs reads (suc n) room durable old before new after =
    WaveFirst bytes faults writes syncs reads (Wave bytes faults writes syncs reads n) room durable old before new after

-- A flush

-- A wave of at least one block, all of which are made durable.
pub record WholeWave {L : Type 0} (bytes : L → List ℕ) (faults : L → ℕ) (writes : WriteRelation L) (syncs reads : Reads L) (old new : KernelValue L) : Type 0 where
  pub blocks : ℕ
  pub some : 1 ≤ blocks
  pub wave : Wave bytes faults writes syncs reads blocks wave_room blocks old [] new []

abbrev pub Waves : {L : Type 0} → (L → List ℕ) → (L → ℕ) → WriteRelation L → Reads L → Reads L → ℕ → KernelValue L → KernelValue L → Type 0
Waves {L} bytes faults writes syncs reads zero old new = new ≡ old
Waves {L} bytes faults writes syncs reads (suc n) old new =
    (mid : KernelValue L) × WholeWave bytes faults writes syncs reads old mid × Waves bytes faults writes syncs reads n mid new

-- A wave of which some block is not made durable, with the tickets of those that stay in flight.
pub record Halts {L : Type 0} (bytes : L → List ℕ) (faults : L → ℕ) (writes : WriteRelation L) (syncs reads : Reads L)
    (old : KernelValue L) (tickets : List (TicketValue L)) (new : KernelValue L) : Type 0 where
  pub blocks : ℕ
  pub durable : ℕ
  pub fewer : durable < blocks
  pub wave : Wave bytes faults writes syncs reads blocks wave_room durable old [] new tickets

-- A flush that is refused before its first wave, as a write is under way or memory is wanting; or that stops after some waves, as a lane failed.
abbrev pub FlushRefuses : {L : Type 0} → (L → List ℕ) → (L → ℕ) → WriteRelation L → Reads L → Reads L →
    KernelValue L → ℕ → List (TicketValue L) → Refusal → KernelValue L → Type 0
FlushRefuses {L} bytes faults writes syncs reads old n tickets refusal new =
    (IsBusy old.state × (n ≡ 0) × (tickets ≡ []) × (refusal ≡ InFlight) × (new ≡ old))
    ⊎ (IsIdle old.state.lives
    × (((n ≡ 0) × (tickets ≡ []) × (refusal ≡ NoMemory) × (new ≡ old))
    ⊎ ((mid : KernelValue L) × Waves bytes faults writes syncs reads n old mid × Halts bytes faults writes syncs reads mid tickets new × (refusal ≡ Device))))
