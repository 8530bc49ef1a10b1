use Rattle.std.proofs.Common.{◌≡◌, ℕ, ◌+◌, ◌<◌, [], Some, false}
use Rattle.std.specs.Prelude.{count_by, slice_index}
use Rattle.xn_model.specs.Lives.{drops_of}
use Rattle.xn_model.specs.Calls.{first_pending}
use Rattle.dependencies.specs.Counts.{given}
use Rattle.dependencies.proofs.FirstEntries.{counts_for}
use Rattle.dependencies.proofs.counts.take_out.Given as goal

abbrev pub invariant-loop-place : goal.invariant-loop-place
invariant-loop-place l = record {
  pending : (fs : ℕ) → fs < 32 → slice_index l.pending fs + count_by (counts_for fs) (first_pending l.place (Some l.life)) ≡ slice_index l.initial.pending fs;
  free : l.free ≡ given l.initial.free (drops_of (first_pending l.place (Some l.life)));
  drops : l.taken.has_drops ≡ false → drops_of (first_pending l.place (Some l.life)) ≡ [];
}
