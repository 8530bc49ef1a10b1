use Rattle.std.proofs.Common.{ℕ, List, ◌++◌}
use Rattle.std.specs.List.{range_with_len}
use Rattle.ffs_lookup.specs.Counts.{AreCounts, numbers_at}
use Rattle.ffs_lookup.proofs.counts.NameCounts.add_block.Given as goal

abbrev pub invariant-loop-place : goal.invariant-loop-place
invariant-loop-place l = (numbers : List ℕ) → AreCounts numbers l.fn.self → AreCounts (numbers ++ numbers_at l.block (range_with_len 0 l.place)) l.self
