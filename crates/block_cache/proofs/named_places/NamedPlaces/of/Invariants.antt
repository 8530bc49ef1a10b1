use Rattle.std.proofs.Common.{◌≡◌, ℕ, ◌<◌, false, length, get_or}
use Rattle.std.specs.Prelude.{not, ◌==◌}
use Rattle.xn_model.specs.Root.{pointer}
use Rattle.block_cache.proofs.named_places.NamedPlaces.of.Given as goal

-- the places so far
abbrev pub invariant-loop-place : goal.invariant-loop-place
invariant-loop-place l = (length l.places ≡ 16) × ((k : ℕ) → k < l.place → get_or l.places k false ≡ not (pointer l.root k == 0))
