-- A world, as its kernel and its tickets make it.
use Rattle.std.specs.Prelude.{◌≡◌, ℕ, List, length, Option, Some, Bool, true, false, is_some, option_map, slice_get}
use Rattle.std.specs.List.{list_any}
use Rattle.disk.specs.Mem.{MemoryLane}
use Rattle.xn_model.specs.Lives.{StoreState, life_at, alive_and}
use Rattle.xn_model.specs.Lanes.{FitLives}
use Rattle.xn_model.specs.Flights.{flight_of}
use Rattle.xn_model.specs.Worlds.{World, mounted_state, none_given}
use Rattle.xn_model.specs.Images.{block_of, IsSound}
use Rattle.xn_model.specs.Mounts.{recovered}
use Rattle.templates.specs.Language.{language, types_of_image}
use Rattle.xn_model.specs.Rules.{Holds}
use Rattle.xn_kernel.specs.Kernels.{KernelValue, TicketValue}
use Rattle.world.specs.Disks.{image_of, settled_image, given_to, IsCalm, IsAtRest, ticket_at}

abbrev pub Tickets : Type 0
Tickets = List (Option (TicketValue MemoryLane))

-- a world of the language that templates are written in
pub record WorldValue : Type 0 where
  -- the newest bytes of each block on the disk, its settled ones, and what was given to its open write
  pub image : List (List ℕ)
  pub settled : List (List ℕ)
  pub given : List (Option (List ℕ))
  pub state : StoreState
  pub down : Bool

abbrev pub value_of : KernelValue MemoryLane → Tickets → WorldValue
value_of kernel tickets = record {
  image = image_of kernel.lanes tickets;
  settled = settled_image kernel.lanes tickets;
  given = given_to kernel.lanes tickets;
  state = kernel.state;
  down = false;
}

-- a world as the model has it
abbrev pub world_with : WorldValue → World
world_with value = record { language = language; image = value.image; settled = value.settled; given = value.given; state = value.state; down = value.down }

abbrev pub world_of : KernelValue MemoryLane → Tickets → World
world_of kernel tickets = world_with (value_of kernel tickets)

-- what a ticket carries, as the lives have it
abbrev pub ticket_flight : Option (TicketValue MemoryLane) → Option (ℕ × List ℕ)
ticket_flight ticket = option_map (λ t. (t.count, t.bytes)) ticket

-- a ticket is of this kernel, stands at its block's place, its lane is told no failure, and it knows whether that holds a write
pub record IsTicketOf (kernel : KernelValue MemoryLane) (b : ℕ) (ticket : TicketValue MemoryLane) : Type 0 where
  pub kernel_is : ticket.kernel ≡ kernel.id
  pub block_is : ticket.block ≡ b
  pub calm : IsCalm ticket.lane
  pub unsynced : ticket.unsynced ≡ is_some ticket.lane.given

pub record IsWorld (kernel : KernelValue MemoryLane) (tickets : Tickets) : Type 0 where
  pub holds : Holds (world_of kernel tickets)
  pub fit : FitLives (λ lane. lane.bytes) kernel.lanes kernel.state.lives
  pub calm : (b : ℕ) (lane : MemoryLane) → slice_get kernel.lanes b ≡ Some (Some lane) → IsCalm lane × IsAtRest lane
  -- there is a ticket for each write that is under way, and for no other block
  pub count : length tickets ≡ length kernel.lanes
  pub flights : (b : ℕ) → ticket_flight (ticket_at tickets b) ≡ flight_of (life_at kernel.state.lives b)
  pub mine : (b : ℕ) (ticket : TicketValue MemoryLane) → ticket_at tickets b ≡ Some ticket → IsTicketOf kernel b ticket

-- a write of some block is under way
abbrev pub is_any_in_flight : StoreState → Bool
is_any_in_flight state = list_any (alive_and (λ l. is_some l.begun)) state.lives

-- a disk that was mounted, and one whose mount found no memory
abbrev pub mounted_value : List (List ℕ) → WorldValue
mounted_value image = record {
  image = image;
  settled = image;
  given = none_given image;
  state = mounted_state (recovered (types_of_image image) image);
  down = false;
}

abbrev pub down_value : List (List ℕ) → WorldValue
down_value image = record (mounted_value image) { down = true }

abbrev pub IsSoundDisk : List (List ℕ) → Type 0
IsSoundDisk image = IsSound (types_of_image image) (length image) (block_of image)
