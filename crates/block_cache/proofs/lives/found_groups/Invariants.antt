use Rattle.std.proofs.Common.{◌≡◌, ℕ, ◌*◌, ◌<◌, ◌≤◌, [], get_or, map, vec_len}
use Rattle.std.specs.Prelude.{length}
use Rattle.std.specs.List.{range_with_len}
use Rattle.std.specs.Vec.{vec_capacity}
use Rattle.block_cache.specs.Kept.{resting_at}
use Rattle.block_cache.proofs.lives.found_groups.Given as goal

abbrev pub invariant-loop-group : goal.invariant-loop-group
invariant-loop-group l =
    ((g : ℕ) → g < l.group → get_or l.groups.items g [] ≡ map (resting_at l.found l.blocks) (range_with_len (64 * g) 64)) × (vec_len l.groups ≡ l.group) × (l.count ≤ vec_capacity l.groups) ×
    (length l.groups.items ≡ l.group)
