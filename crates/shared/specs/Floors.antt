-- Floors that rise.
use Rattle.std.specs.Prelude.{ℕ, ◌≤◌}
use Rattle.xn_model.specs.Lives.{StoreState}
use Rattle.xn_model.specs.Calls.{floor_of}

-- No file system's floor is below what it was.
abbrev pub FloorsRise : StoreState → StoreState → Type 0
FloorsRise old new = (fs : ℕ) → floor_of old fs ≤ floor_of new fs
