-- Blocks of which a write may begin, and what other ones wait for.
use Rattle.std.specs.Prelude.{◌≡◌, ℕ, ◌<◌, ◌≤◌, Bool, true, false, not, ◌&&◌, ◌⊎◌, List, Option, Some, IsTrue, is_none, is_some, length, position}
use Rattle.std.specs.Prelude.{slice_index_or, slice_set}
use Rattle.xn_model.specs.Lives.{Life, Lives, alive_and, life_at, no_states}
use Rattle.free_map.specs.Members.{is_member}
use Rattle.dependencies.specs.WaitLists.{at}
use Rattle.dependencies.specs.Waiting.{WaitsFor}

pub record CandidatesValue : Type 0 where
  -- which blocks are candidates
  pub blocks : List Bool
  -- the block that each block waits for
  pub waits : List (Option ℕ)

abbrev pub is_candidate : CandidatesValue → ℕ → Bool
is_candidate q b = slice_index_or q.blocks b false

abbrev pub with_candidate : CandidatesValue → ℕ → Bool → CandidatesValue
with_candidate q b t = record { blocks = slice_set q.blocks b t; waits = q.waits }

-- something is pending, and no write is under way
abbrev pub is_idle_with_entries : Option Life → Bool
is_idle_with_entries o = alive_and (λ l. is_none l.begun && not (no_states l.pending)) o

-- A block is a candidate, or no write of it may begin: nothing is pending, or a write is under way, or it waits for another.
abbrev pub IsAccounted : Lives → CandidatesValue → ℕ → Type 0
IsAccounted lives q b =
    (is_candidate q b ≡ true)
    ⊎ ((is_idle_with_entries (life_at lives b) ≡ false)
    ⊎ ((c : ℕ) × (at q.waits b ≡ Some c) × WaitsFor lives b c))

pub record AreCandidates (lives : Lives) (q : CandidatesValue) : Type 0 where
  pub long : length q.blocks ≡ length lives
  pub each : (b : ℕ) → IsAccounted lives q b

-- the blocks that waited for one are candidates: each block is one now, or it is as it was and does not wait for this one
pub record Wakes (old new : CandidatesValue) (other : ℕ) : Type 0 where
  pub long : length new.blocks ≡ length old.blocks
  pub each : (b : ℕ) → (is_candidate new b ≡ true)
      ⊎ ((is_candidate new b ≡ is_candidate old b) × (at new.waits b ≡ at old.waits b) × (at new.waits b ≡ Some other → ⊥))

-- a block is no candidate any more, and waits for another
pub record Parks (old new : CandidatesValue) (b other : ℕ) : Type 0 where
  pub within : b < length old.waits
  pub blocks : new.blocks ≡ slice_set old.blocks b false
  pub waits : new.waits ≡ slice_set old.waits b (Some other)

-- no block is a candidate that was none before
abbrev pub AddsNone : CandidatesValue → CandidatesValue → Type 0
AddsNone old new = (b : ℕ) → is_candidate old b ≡ false → is_candidate new b ≡ false

-- The least candidate waits for no block, or it can't be put on a list: it stands on one, or waits for a block that is none of these.
abbrev pub IsTrimmed : Lives → CandidatesValue → Type 0
IsTrimmed lives q = (b : ℕ) → position is_member q.blocks ≡ Some b →
    ((c : ℕ) → WaitsFor lives b c → ⊥)
    ⊎ (IsTrue (is_some (at q.waits b))
    ⊎ ((c : ℕ) × (length q.blocks ≤ c) × WaitsFor lives b c))
