-- The two lots of bytes of a block in memory.
use Rattle.std.specs.Prelude.{ℕ, List, Bool, true, false, replicate, slice_index_or}

pub record TwoLots : Type 0 where
  -- what a read gives
  pub bytes : List ℕ
  pub other : List ℕ

abbrev pub lots_of : Bool → List ℕ → List ℕ → TwoLots
lots_of false one two = record { bytes = one; other = two }
lots_of true one two = record { bytes = two; other = one }

-- the second lot, which counts as zeros until there is one
abbrev pub second_of : List (List ℕ) → List ℕ
second_of lots = slice_index_or lots 0 (replicate 512 0)
