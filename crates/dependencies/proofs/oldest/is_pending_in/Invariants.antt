use Rattle.std.proofs.Common.{◌≡◌, false}
use Rattle.xn_model.specs.Lives.{life_at}
use Rattle.xn_model.specs.Calls.{first_pending}
use Rattle.dependencies.specs.Oldest.{has_for}
use Rattle.dependencies.proofs.oldest.is_pending_in.Given as goal

-- none of the entries so far is it
abbrev pub invariant-loop-place : goal.invariant-loop-place
invariant-loop-place l = has_for l.fs.number (first_pending l.place (life_at l.cache l.block)) l.number ≡ false
