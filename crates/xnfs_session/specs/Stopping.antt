-- A lane for tests, as contracts see it.
--     TestLaneValue L    the lane that it writes to, its own count of faults, and whether it makes syncs
--     leaves_where       what a crash may leave of a lane that makes syncs; of one that makes none, what a read gives
use Rattle.std.specs.Prelude.{◌≡◌, ℕ, Bool, true, false, List}

pub record TestLaneValue (L : Type 0) : Type 0 where
  pub lane : L
  pub faults : ℕ
  pub is_synced : Bool

abbrev pub leaves_where : Bool → (List ℕ → Type 0) → List ℕ → List ℕ → Type 0
leaves_where true leaves bytes left = leaves left
leaves_where false leaves bytes left = left ≡ bytes
