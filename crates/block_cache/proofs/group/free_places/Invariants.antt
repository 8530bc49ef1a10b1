use Rattle.std.proofs.Common.{◌≡◌, ◌≤◌, replicate, None, vec_len}
use Rattle.std.specs.Vec.{vec_capacity}
use Rattle.block_cache.proofs.group.free_places.Given as goal

abbrev pub invariant-loop-at : goal.invariant-loop-at
invariant-loop-at l = (l.places.items ≡ replicate l._at None) × (vec_len l.places ≡ l._at) × (64 ≤ vec_capacity l.places)
