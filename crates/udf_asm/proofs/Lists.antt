-- Numbers one after the other.
use Rattle.std.proofs.Common.{ℕ, List, ◌++◌}
use Rattle.std.specs.Prelude.{Option}
use Rattle.std.specs.Option.{option_map}

-- the numbers so far, in front of those that are left
abbrev pub after_numbers : List ℕ → Option (List ℕ) → Option (List ℕ)
after_numbers numbers o = option_map (λ rest. numbers ++ rest) o
