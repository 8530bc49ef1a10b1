use Rattle.std.proofs.Common.{◌≡◌, ◌+◌, List, map, drop, true}
use Rattle.std.specs.Prelude.{slice_set}
use Rattle.udf_code.specs.Tree.{Claim, keep_word}
use Rattle.udf_verify.specs.Bounds.{claims_row, no_register}
use Rattle.udf_verify.proofs.claims.check_claims.Given as goal

-- the claims that are left have the verdict that all have
abbrev pub invariant-loop-i : goal.invariant-loop-i
invariant-loop-i l = (claims : List Claim) → l.words ≡ map keep_word claims → claims_row (l.at + l.i) l.taken (drop l.i claims) l.intervals ≡ claims_row l.at (slice_set no_register l.fn.counter true) claims l.intervals
