use Rattle.std.proofs.Common.{◌≡◌, List, map, drop}
use Rattle.udf_code.specs.Tree.{Claim, keep_word}
use Rattle.udf_verify.specs.Bounds.{claimed}
use Rattle.udf_verify.proofs.claims.claim.Given as goal

-- the claims that are left make of the intervals what all make of the first ones
abbrev pub invariant-loop-word : goal.invariant-loop-word
invariant-loop-word l = (claims : List Claim) → l.words ≡ map keep_word claims → claimed (drop l.word-index claims) l.intervals ≡ claimed claims l.initial.intervals
