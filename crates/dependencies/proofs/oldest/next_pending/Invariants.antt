use Rattle.std.proofs.Common.{◌≡◌, ◌≤◌, ℕ, true}
use Rattle.xn_model.specs.Lives.{life_at}
use Rattle.dependencies.specs.Oldest.{pends_for}
use Rattle.dependencies.proofs.oldest.next_pending.Given as goal

-- those so far are not pending
abbrev pub invariant-loop-number : goal.invariant-loop-number
invariant-loop-number l = (n b : ℕ) → pends_for l.fs.number n (life_at l.cache b) ≡ true → l.from ≤ n → l.number ≤ n
