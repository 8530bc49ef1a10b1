use Rattle.std.proofs.Common.{◌≡◌, ℕ, ◌<◌}
use Rattle.std.specs.Prelude.{◌==◌, false}
use Rattle.xn_model.specs.Root.{pointer}
use Rattle.templates.proofs.root.empty_place.Given as goal

abbrev pub invariant-loop-place : goal.invariant-loop-place
invariant-loop-place l = (k : ℕ) → k < l.place → (pointer l.block k == 0) ≡ false
