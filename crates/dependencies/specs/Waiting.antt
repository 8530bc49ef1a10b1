-- Why the first pending entry of a block may not be written yet.
use Rattle.std.specs.Prelude.{◌≡◌, ℕ, Bool, true, false, ◌&&◌, ◌⊎◌, List, Option, Some, Contains, is_some, option_map, slice_get}
use Rattle.xn_model.specs.Root.{has_type}
use Rattle.xn_model.specs.Lives.{Life, Lives, alive_and, durable_bytes, life_at, no_states}
use Rattle.block_cache.specs.Claims.{ClaimValue, claim_of}
use Rattle.block_cache.specs.Views.{pending_at}
use Rattle.dependencies.specs.Pending.{pends}

-- what the first pending entry says
abbrev pub first_of : Option Life → Option ClaimValue
first_of o = option_map claim_of (slice_get (pending_at o) 0)

-- some state is on the disk
abbrev pub has_state : Option Life → Bool
has_state o = alive_and (λ l. is_some l.durable) o

-- the newest state is
abbrev pub is_newest_written : Option Life → Bool
is_newest_written o = alive_and (λ l. is_some l.durable && no_states l.pending) o

-- a block is added that has no state on the disk
abbrev pub IsAddedEarly : List (ℕ × ℕ) → ℕ → Option Life → Type 0
IsAddedEarly adds c o = (u : ℕ) × Contains adds (c, u) × (has_state o ≡ false)

-- a block is added of a type that block 0, which is block c, has not on the disk
abbrev pub LacksType : List (ℕ × ℕ) → ℕ → Option Life → Type 0
LacksType adds c o = (c ≡ 0) × ((x : ℕ) × (u : ℕ) × Contains adds (x, u) × (has_type (durable_bytes o) u ≡ false))

-- a block is dropped whose newest state is not there
abbrev pub IsDroppedEarly : List ℕ → ℕ → Option Life → Type 0
IsDroppedEarly drops c o = Contains drops c × (is_newest_written o ≡ false)

-- the entry comes after one that is pending in a block
abbrev pub ComesAfter : Option ℕ → Option Life → Type 0
ComesAfter after o = (n : ℕ) × (after ≡ Some n) × (pends n o ≡ true)

-- An entry of this claim, the first of its block, may not be written because of block c, which has this life.
abbrev pub Misses : ClaimValue → ℕ → Option Life → Type 0
Misses claim c o = IsAddedEarly claim.adds c o ⊎ (LacksType claim.adds c o ⊎ (IsDroppedEarly claim.drops c o ⊎ ComesAfter claim.after o))

-- The first pending entry of block b may not be written because of block c.
pub record WaitsFor (lives : Lives) (b c : ℕ) : Type 0 where
  pub claim : ClaimValue
  pub first : first_of (life_at lives b) ≡ Some claim
  pub misses : Misses claim c (life_at lives c)
