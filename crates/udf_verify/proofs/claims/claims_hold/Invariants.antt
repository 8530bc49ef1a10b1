use Rattle.std.proofs.Common.{◌≡◌, List, map, drop}
use Rattle.udf_code.specs.Tree.{Claim, keep_word}
use Rattle.udf_verify.specs.Bounds.{are_kept}
use Rattle.udf_verify.proofs.claims.claims_hold.Given as goal

-- what the claims that are left say, all say
abbrev pub invariant-loop-word : goal.invariant-loop-word
invariant-loop-word l = (claims : List Claim) → l.words ≡ map keep_word claims → are_kept (drop l.word-index claims) l.intervals ≡ are_kept claims l.intervals
