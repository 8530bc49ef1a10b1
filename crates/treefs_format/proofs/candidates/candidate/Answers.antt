use Rattle.std.proofs.Common.{ℕ, ◌+◌, ◌-◌, ◌*◌, ◌^◌, ◌≤◌, ◌≡◌, arith}
use Rattle.treefs_format.specs.Candidates.{first_bucket}
use Rattle.treefs_format.proofs.Levels.{buckets_of, few_buckets}
use Rattle.treefs_format.proofs.candidates.candidate.Goals as goal

-- of a level up to 8, so few buckets, and so few before them
few : (l first buckets : ℕ) → l ≤ 8 → first ≡ first_bucket l → buckets ≡ 8 ^ l → (buckets ≤ 8 ^ 8) × (7 * first + 1 ≡ buckets)
few l first buckets low f b =
    let more = few_buckets l (8 - l) (omega arith) in
    let all = buckets_of l in (omega arith, omega arith)

pub overflow_add-first : goal.overflow_add-first
overflow_add-first c = let most = few c.loop-level._level c.loop-level.first c.loop-level.buckets (omega arith) c.loop-level.invariant.0 c.loop-level.invariant.1 in omega arith

pub overflow_mul-buckets : goal.overflow_mul-buckets
overflow_mul-buckets c = let most = few c.loop-level._level c.loop-level.first c.loop-level.buckets (omega arith) c.loop-level.invariant.0 c.loop-level.invariant.1 in omega arith

pub overflow_add-result : goal.overflow_add-result
overflow_add-result c = let most = few c.loop-level._level c.loop-level.first c.loop-level.buckets (omega arith) c.loop-level.invariant.0 c.loop-level.invariant.1 in omega arith

pub overflow_cast-result : goal.overflow_cast-result
overflow_cast-result c = let most = few c.loop-level._level c.loop-level.first c.loop-level.buckets (omega arith) c.loop-level.invariant.0 c.loop-level.invariant.1 in omega arith
