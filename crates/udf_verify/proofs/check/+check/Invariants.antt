use Rattle.std.proofs.Common.{◌-◌, ◌≤◌, ◌+◌, ◌*◌}
use Rattle.udf_verify.specs.Checks.{CheckAnswer, Checks}
use Rattle.udf_verify.proofs.check.+check.Given as goal

abbrev pub decreases-check_block : goal.decreases-check_block
decreases-check_block l = 4 * (l.to - l.from) + 3

abbrev pub decreases-check_branches : goal.decreases-check_branches
decreases-check_branches l = 4 * (l.to - l.at) + 1

abbrev pub decreases-check_part : goal.decreases-check_part
decreases-check_part l = 4 * (l.to - l.at) + 2

abbrev pub decreases-check_turns : goal.decreases-check_turns
decreases-check_turns l = 4 * (l.part.end - l.part.start) + 1

-- what the whole check answers, the check from here on answers
abbrev pub invariant-check_block-loop-at : goal.invariant-check_block-loop-at
invariant-check_block-loop-at l =
    (l.from ≤ l.at) × ((answer : CheckAnswer) → Checks l.words l.targets l.from l.to l.role l.counters l.initial.intervals answer → Checks l.words l.targets l.at l.to l.role l.counters l.intervals answer)

abbrev pub decreases-check_block-loop-at : goal.decreases-check_block-loop-at
decreases-check_block-loop-at l = l.to - l.at
