use Rattle.std.proofs.Common.{◌≡◌, ◌≤◌, map, vec_len}
use Rattle.std.specs.List.{range_with_len}
use Rattle.std.specs.Vec.{vec_capacity}
use Rattle.block_cache.specs.Kept.{resting_at}
use Rattle.block_cache.proofs.group.found_places.Given as goal

abbrev pub invariant-loop-at : goal.invariant-loop-at
invariant-loop-at l = (l.places.items ≡ map (resting_at l.found l.blocks) (range_with_len l.first l.at)) × (vec_len l.places ≡ l.at) × (64 ≤ vec_capacity l.places)
