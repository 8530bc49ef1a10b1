use Rattle.std.proofs.Common.{◌≡◌, ℕ, length}
use Rattle.dependencies.proofs.Accounts.{IsAsBefore, values, waiting}
use Rattle.dependencies.proofs.candidates.Candidates.wake.Given as goal

-- each block is a candidate, or it is as it was
abbrev pub invariant-loop-block : goal.invariant-loop-block
invariant-loop-block l =
    let old = l.initial.self-inside in
    let now = l.self-inside in
    (length now.waits ≡ length now.blocks) × (length now.blocks ≡ length old.blocks)
    × ((k : ℕ) → IsAsBefore (values old.blocks old.waits) (values now.blocks now.waits) k)

-- fewer wait
abbrev pub decreases-loop-block : goal.decreases-loop-block
decreases-loop-block l = waiting l.self-inside.waits
