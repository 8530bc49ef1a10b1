-- What an entry adds, drops and comes after, however it is kept.
use Rattle.std.specs.Prelude.{ℕ, List, [], Option, Some, None}
use Rattle.block_cache.specs.declared.claim.Rest.{Rest}
use Rattle.block_cache.specs.declared.claim.Rest.TheVariants.{Nothing, After, Lists}

abbrev pub rest_adds : Rest → List (ℕ × ℕ)
rest_adds Nothing = []
rest_adds (After n) = []
rest_adds (Lists lists) = lists.value.adds.items

abbrev pub rest_drops : Rest → List ℕ
rest_drops Nothing = []
rest_drops (After n) = []
rest_drops (Lists lists) = lists.value.drops.items

abbrev pub rest_after : Rest → Option ℕ
rest_after Nothing = None
rest_after (After n) = Some n
rest_after (Lists lists) = lists.value.after
