use Rattle.std.proofs.Common.{◌≡◌, ℕ, ◌+◌, ◌<◌}
use Rattle.std.specs.Prelude.{count_by, slice_index}
use Rattle.xn_model.specs.Lives.{life_at}
use Rattle.xn_model.specs.Calls.{first_pending}
use Rattle.dependencies.proofs.FirstEntries.{counts_for}
use Rattle.dependencies.proofs.counts.discount.Given as goal

abbrev pub invariant-loop-place : goal.invariant-loop-place
invariant-loop-place l =
    (fs : ℕ) → fs < 32 → slice_index l.pending fs + count_by (counts_for fs) (first_pending l.place (life_at l.cache l.block)) ≡ slice_index l.initial.pending fs
