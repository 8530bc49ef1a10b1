use Rattle.std.proofs.Common.{length, ◌-◌, ◌≡◌, ◌++◌, ◌≤◌, List, map, drop}
use Rattle.udf_code.specs.Tree.{Claim, Tree, IsTree, keep_word, words_of}
use Rattle.udf_verify.proofs.claims.count_claims.Given as goal

-- the claims that are not counted yet, and the body
abbrev pub invariant-loop-count : goal.invariant-loop-count
invariant-loop-count l =
    (l.count ≤ length l.words)
    × ((claims : List Claim) (body : Tree) → IsTree body → l.words ≡ map keep_word claims ++ words_of body → (l.count ≤ length claims) × (drop l.count l.words ≡ map keep_word (drop l.count claims) ++ words_of body))

abbrev pub decreases-loop-count : goal.decreases-loop-count
decreases-loop-count l = length l.words - l.count
