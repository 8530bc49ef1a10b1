-- The blocks of a disk, of which some lanes are at home and some with tickets.
use Rattle.std.specs.Prelude.{◌≡◌, ℕ, ◌-◌, ◌<◌, List, [], ◌∷◌, ◌++◌, All, length, replicate, Option, Some, None, Result, false, Ok, Err, unwrap_or}
use Rattle.std.specs.Prelude.{slice_get, slice_set, option_map, ⊤}
use Rattle.std.specs.List.{AllByRecursion}
use Rattle.disk.specs.declared.lane.DeviceFault.{DeviceFault}
use Rattle.disk.specs.Mem.{MemoryLane, crashed_lane}
use Rattle.xn_model.specs.Lists.{has_number}
use Rattle.xn_kernel.specs.Kernels.{TicketValue}

-- what is known of a block's lane, wherever that is, or this where there is none
abbrev pub known_at : {A : Type 0} → (MemoryLane → A) → A → Option MemoryLane → Option (TicketValue MemoryLane) → A
known_at of none (Some lane) ticket = of lane
known_at of none None (Some ticket) = of ticket.lane
known_at of none None None = none

abbrev pub known_of : {A : Type 0} → (MemoryLane → A) → A → List (Option MemoryLane) → List (Option (TicketValue MemoryLane)) → List A
known_of of none [] tickets = []
known_of of none (lane ∷ lanes) [] = known_at of none lane None ∷ known_of of none lanes []
known_of of none (lane ∷ lanes) (ticket ∷ tickets) = known_at of none lane ticket ∷ known_of of none lanes tickets

-- the newest bytes of the blocks, their settled bytes, and what was given to their open writes
abbrev pub image_of : List (Option MemoryLane) → List (Option (TicketValue MemoryLane)) → List (List ℕ)
image_of lanes tickets = known_of (λ lane. lane.bytes) [] lanes tickets

abbrev pub settled_image : List (Option MemoryLane) → List (Option (TicketValue MemoryLane)) → List (List ℕ)
settled_image lanes tickets = known_of (λ lane. lane.settled) [] lanes tickets

abbrev pub given_to : List (Option MemoryLane) → List (Option (TicketValue MemoryLane)) → List (Option (List ℕ))
given_to lanes tickets = known_of (λ lane. lane.given) None lanes tickets

-- a lane that is told no failure
abbrev pub IsCalm : MemoryLane → Type 0
IsCalm lane = (lane.write_fault ≡ None) × (lane.read_fault ≡ false) × (lane.sync_fault ≡ false)

-- a lane that holds no write
abbrev pub IsAtRest : MemoryLane → Type 0
IsAtRest lane = (lane.given ≡ None) × (lane.settled ≡ lane.bytes)

abbrev pub ticket_at : List (Option (TicketValue MemoryLane)) → ℕ → Option (TicketValue MemoryLane)
ticket_at tickets b = unwrap_or (slice_get tickets b) None

abbrev pub lane_at : List (Option MemoryLane) → ℕ → Option MemoryLane
lane_at lanes b = unwrap_or (slice_get lanes b) None

-- the lane of block b is at home, or with the block's ticket, and told no failure
abbrev pub IsSomewhere : ℕ → Option MemoryLane → Option (TicketValue MemoryLane) → Type 0
IsSomewhere b (Some lane) None = IsCalm lane
IsSomewhere b None (Some ticket) = (ticket.block ≡ b) × IsCalm ticket.lane
IsSomewhere b _ _ = ⊥

-- no lane is missing
pub record AreWhole (lanes : List (Option MemoryLane)) (tickets : List (Option (TicketValue MemoryLane))) : Type 0 where
  pub count : length tickets ≡ length lanes
  pub each : (b : ℕ) → b < length lanes → IsSomewhere b (lane_at lanes b) (ticket_at tickets b)

-- the lanes with that of a ticket back in its place
abbrev pub lanes_with : List (Option MemoryLane) → Option (TicketValue MemoryLane) → List (Option MemoryLane)
lanes_with lanes None = lanes
lanes_with lanes (Some ticket) = slice_set lanes ticket.block (Some ticket.lane)

-- the lane is at home, and told no failure
abbrev pub IsLaneHome : Option MemoryLane → Type 0
IsLaneHome None = ⊥
IsLaneHome (Some lane) = IsCalm lane

-- and holds no write
abbrev pub IsResting : Option MemoryLane → Type 0
IsResting None = ⊥
IsResting (Some lane) = IsCalm lane × IsAtRest lane

-- where the lane is at home, its block has 512 bytes
abbrev pub IsLong : Option MemoryLane → Type 0
IsLong None = ⊤
IsLong (Some lane) = length lane.bytes ≡ 512

abbrev pub AreLong : List (Option MemoryLane) → Type 0
AreLong lanes = (b : ℕ) → b < length lanes → IsLong (lane_at lanes b)

-- each lane has crashed, and kept its open write where these blocks have it
pub record HaveCrashed (kept : List ℕ) (old new : List (Option MemoryLane)) : Type 0 where
  pub count : length new ≡ length old
  pub each : (b : ℕ) → lane_at new b ≡ option_map (λ lane. crashed_lane lane (has_number kept b)) (lane_at old b)

-- the lanes of a disk that is not mounted, and the places of its tickets
pub record IsUnmounted (lanes : List (Option MemoryLane)) (tickets : List (Option (TicketValue MemoryLane))) : Type 0 where
  pub home : AllByRecursion IsResting lanes
  pub empty : tickets ≡ replicate (length lanes) None
  pub long : All (λ block. length block ≡ 512) (image_of lanes tickets)

-- a place for each block: the first ones, and behind them empty ones
abbrev pub all_places : ℕ → List (Option (TicketValue MemoryLane)) → List (Option (TicketValue MemoryLane))
all_places blocks front = front ++ replicate (blocks - length front) None

-- a ticket after a sync: it knows from then on whether its lane holds a write
abbrev pub synced_ticket : TicketValue MemoryLane → Result (Unit {0}) DeviceFault → MemoryLane → TicketValue MemoryLane
synced_ticket ticket (Ok done) lane = record ticket { lane = lane; unsynced = false }
synced_ticket ticket (Err fault) lane = record ticket { lane = lane }
