use Rattle.std.proofs.Common.{◌≡◌, ◌^◌}
use Rattle.treefs_format.specs.Candidates.{first_bucket}
use Rattle.treefs_format.proofs.candidates.candidate.Given as goal

abbrev pub invariant-loop-level : goal.invariant-loop-level
invariant-loop-level l = (l.first ≡ first_bucket l._level) × (l.buckets ≡ 8 ^ l._level)
