-- A kernel and its tickets, as contracts see them.
use Rattle.std.specs.Prelude.{ℕ, List, Option, Some, None, Bool, true, false, is_some, ◌==◌, ◌&&◌, Result, Ok, Err}
use Rattle.disk.specs.Lanes.{AreSynced}
use Rattle.xn_model.specs.Lives.{StoreState, life_at, alive_and}
use Rattle.xn_model.specs.Lanes.{FitLives}
use Rattle.xn_model.specs.Rules.{IsConsistent}
use Rattle.xn_state.specs.States.{own_types}

-- the kernel's own number, the places of its lanes, and what it knows of types and blocks
pub record KernelValue (L : Type 0) : Type 0 where
  pub id : ℕ
  pub lanes : List (Option L)
  pub state : StoreState

-- a write that was begun: its kernel and block, how many entries it carries, the bytes that it is to write, the block's lane,
-- and whether it was written, well or not, since its last good sync
pub record TicketValue (L : Type 0) : Type 0 where
  pub kernel : ℕ
  pub block : ℕ
  pub count : ℕ
  pub bytes : List ℕ
  pub lane : L
  pub unsynced : Bool

-- what is true of every kernel: the rules of the store, and lanes that fit the lives and hold no write
pub record IsKernel {L : Type 0} (bytes_of : L → List ℕ) (crash_leaves : L → List ℕ → Type 0) (lanes : List (Option L)) (state : StoreState) : Type 0 where
  pub rules : IsConsistent (own_types state) state
  pub fit : FitLives bytes_of lanes state.lives
  pub synced : AreSynced bytes_of crash_leaves lanes

-- a write of the block is under way
abbrev pub is_in_flight : StoreState → ℕ → Bool
is_in_flight state b = alive_and (λ l. is_some l.begun) (life_at state.lives b)

-- the ticket is of this kernel, and its block is in flight there
abbrev pub is_mine : {L : Type 0} → KernelValue L → TicketValue L → Bool
is_mine kernel ticket = (ticket.kernel == kernel.id) && is_in_flight kernel.state ticket.block

abbrev pub result_map_err : {T E F : Type 0} → (E → F) → Result T E → Result T F
result_map_err f (Ok x) = Ok x
result_map_err f (Err e) = Err (f e)

-- these bytes, unless they are the same as others
abbrev pub other_unless : Bool → List ℕ → Option (List ℕ)
other_unless true bytes = None
other_unless false bytes = Some bytes
