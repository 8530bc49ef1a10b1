use Rattle.std.specs.Prelude.{◌≡◌, ◌⊎◌, ◌≢◌, ℕ, ◌+◌, ◌%◌, ◌^◌, ◌<◌, List, length, Option, Some, Result, Ok, Err, slice_get}

-- A device fault adds one to the count of faults, which starts again at 0 after the greatest number.
pub record CountsOne (old new : ℕ) : Type 0 where
  pub counted : new ≡ (old + 1) % 2 ^ 64
  pub changed : new ≢ old

-- each lane that is here stands in the place of its number
pub record AreLanes {L : Type 0} (number_of : L → ℕ) (places : List (Option L)) : Type 0 where
  pub few : length places < 2 ^ 32
  pub at_home : (k : ℕ) (lane : L) → slice_get places k ≡ Some (Some lane) → number_of lane ≡ k

-- What a crash may leave in a block, as a test of bytes.

-- the second leaves no bytes that the first doesn't
abbrev pub LeavesNoMore : (List ℕ → Type 0) → (List ℕ → Type 0) → Type 0
LeavesNoMore old new = (bytes : List ℕ) → new bytes → old bytes

-- these bytes alone
abbrev pub LeavesOnly : List ℕ → (List ℕ → Type 0) → Type 0
LeavesOnly bytes leaves = (left : List ℕ) → leaves left → left ≡ bytes

-- what the first leaves, and these bytes
abbrev pub LeavesAlso : (List ℕ → Type 0) → List ℕ → List ℕ → Type 0
LeavesAlso leaves bytes left = leaves left ⊎ (left ≡ bytes)

-- a crash leaves in the block of each lane that is here what a read gives
abbrev pub AreSynced : {L : Type 0} → (L → List ℕ) → (L → List ℕ → Type 0) → List (Option L) → Type 0
AreSynced {L} bytes_of crash_leaves places =
    (k : ℕ) (lane : L) → slice_get places k ≡ Some (Some lane) → LeavesOnly (bytes_of lane) (crash_leaves lane)

-- that it was done, or what it failed by
abbrev pub done_or : {T E : Type 0} → Result T E → Result (Unit {0}) E
done_or (Ok answer) = Ok tt
done_or (Err fault) = Err fault
