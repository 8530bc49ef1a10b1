-- Levels of buckets: level l has 8^l of them.
use Rattle.std.proofs.Common.{◌≡◌, ℕ, zero, suc, ◌+◌, ◌*◌, ◌^◌, ◌≤◌, refl, ap, ◌∙◌, arith, subst}
use Rattle.std.proofs.Math.Nat.{pow-suc}
use Rattle.treefs_format.specs.Candidates.{first_bucket}

pub buckets_of : (l : ℕ) → 8 ^ l ≡ 7 * first_bucket l + 1
buckets_of zero = refl
buckets_of (suc l) = let before = buckets_of l in pow-suc 8 l ∙ omega arith

pub next_first : (l : ℕ) → first_bucket (l + 1) ≡ first_bucket l + 8 ^ l
next_first l = let here = buckets_of l in ap first_bucket (let e : l + 1 ≡ suc l = omega arith in e) ∙ omega arith

pub next_buckets : (l : ℕ) → 8 ^ (l + 1) ≡ 8 ^ l * 8
next_buckets l = ap (λ k. 8 ^ k) (let e : l + 1 ≡ suc l = omega arith in e) ∙ pow-suc 8 l

-- at most level 8
pub few_buckets : (l k : ℕ) → l + k ≡ 8 → 8 ^ l ≤ 8 ^ 8
few_buckets l zero e = subst (λ n. 8 ^ n ≤ 8 ^ 8) (let s : 8 ≡ l = omega arith in s) (omega arith)
few_buckets l (suc k) e = let more = few_buckets (l + 1) k (omega arith) in let grows = next_buckets l in omega arith
