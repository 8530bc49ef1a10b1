use Rattle.std.proofs.Common.{◌≡◌}
use Rattle.xn_model.specs.Lives.{entries_in, least_to, life_at}
use Rattle.xn_model.specs.Calls.{first_pending}
use Rattle.dependencies.proofs.floors.least_in.Given as goal

abbrev pub invariant-loop-place : goal.invariant-loop-place
invariant-loop-place l = l.least ≡ least_to l.most (entries_in l.fs.number (first_pending l.place (life_at l.cache l.block)))
