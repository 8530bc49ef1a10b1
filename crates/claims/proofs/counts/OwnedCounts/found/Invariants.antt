use Rattle.std.proofs.Common.{ℕ, List, length, map}
use Rattle.std.specs.List.{range_with_len}
use Rattle.block_cache.specs.Views.{rest_at}
use Rattle.claims.proofs.Counted.{AreCountedTo}
use Rattle.claims.proofs.counts.OwnedCounts.found.Given as goal

abbrev pub invariant-loop-block : goal.invariant-loop-block
invariant-loop-block l = (blocks : List (List ℕ)) → AreCountedTo l.owned (map (rest_at l.found blocks) (range_with_len 0 (length l.found))) l.block
