use Rattle.std.proofs.Common.{◌≡◌, ◌≤◌}
use Rattle.std.specs.Prelude.{count_by}
use Rattle.xn_model.specs.Lives.{life_at}
use Rattle.xn_model.specs.Calls.{first_pending}
use Rattle.dependencies.proofs.FirstEntries.{counts_for}
use Rattle.dependencies.proofs.floors.count_in.Given as goal

abbrev pub invariant-loop-place : goal.invariant-loop-place
invariant-loop-place l = (l.count ≡ count_by (counts_for l.fs.number) (first_pending l.place (life_at l.cache l.block))) × (l.count ≤ l.place)
