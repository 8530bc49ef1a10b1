-- A row of which only the first places are made.
use Rattle.std.specs.Prelude.{ℕ, ◌-◌, ◌≤◌, ◌++◌, List, length, replicate}

-- the places that are made, and blank ones behind them
abbrev pub row_of : {T : Type 0} → T → ℕ → List T → List T
row_of blank places made = made ++ replicate (places - length made) blank

-- no more are made than there are, and there is room for all
pub record HasRoom (places made capacity : ℕ) : Type 0 where
  pub few : made ≤ places
  pub room : places ≤ capacity
