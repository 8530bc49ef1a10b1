-- Lives by groups of 64 blocks.
--     group_of items           the lives of a group, which takes no memory while it has no place
--     places_of n groups       those of the first n blocks
--     AreGroups n groups totals    there is a group for each of these, and what is counted of them is known
use Rattle.std.specs.Prelude.{◌≡◌, ℕ, ◌*◌, ◌/◌, ◌%◌, ◌^◌, ◌<◌, ◌≤◌, List, [], ◌∷◌, length, map, replicate, Option, None, unwrap_or, slice_get, slice_index_or}
use Rattle.std.specs.List.{range_with_len}
use Rattle.block_cache.specs.Cached.{CachedLife}
use Rattle.block_cache.specs.Totals.{totals_of}
use Rattle.block_cache.specs.declared.totals.Totals.{Totals}

abbrev pub group_of : List (Option CachedLife) → List (Option CachedLife)
group_of [] = replicate 64 None
group_of (o ∷ os) = o ∷ os

abbrev pub place_in : List (List (Option CachedLife)) → ℕ → Option CachedLife
place_in groups b = unwrap_or (slice_get (slice_index_or groups (b / 64) []) (b % 64)) None

abbrev pub places_of : ℕ → List (List (Option CachedLife)) → List (Option CachedLife)
places_of n groups = map (place_in groups) (range_with_len 0 n)

pub record AreGroups (n : ℕ) (groups : List (List (Option CachedLife))) (totals : Totals) : Type 0 where
  pub room : n ≤ 64 * length groups
  pub few : n < 2 ^ 32
  pub counted : totals ≡ totals_of (places_of n groups)
