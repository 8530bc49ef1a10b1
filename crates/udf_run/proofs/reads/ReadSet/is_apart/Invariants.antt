use Rattle.std.proofs.Common.{◌≡◌, ℕ, ◌/◌, ◌<◌, ◌≤◌}
use Rattle.std.specs.Int.{bit_at}
use Rattle.udf_run.proofs.reads.ReadSet.is_apart.Given as goal

abbrev pub invariant-loop-chunk : goal.invariant-loop-chunk
invariant-loop-chunk l = (k : ℕ) → l.first / 8 ≤ k → k < l.chunk → bit_at l.self.chunks k ≡ 0
