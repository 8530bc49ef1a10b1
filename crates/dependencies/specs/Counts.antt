-- What entries drop, by what they say, and what is counted of a new one.
use Rattle.std.specs.Prelude.{ℕ, ◌+◌, Bool, true, List, [], Option, Some, None, slice_index, slice_set}
use Rattle.std.specs.List.{fold}
use Rattle.block_cache.specs.Claims.{ClaimValue}
use Rattle.dependencies.specs.Oldest.{oldest_with_entry}

abbrev pub claim_drops : Option ClaimValue → List ℕ
claim_drops None = []
claim_drops (Some c) = c.drops

-- a map of free blocks once these are free, too
abbrev pub given : List Bool → List ℕ → List Bool
given free blocks = fold (λ free c. slice_set free c true) free blocks

-- how many entries are pending for each file system once there is one more, and from which number on they lie
abbrev pub counted_for : Option ℕ → List ℕ → List ℕ
counted_for None pending = pending
counted_for (Some fs) pending = slice_set pending fs (slice_index pending fs + 1)

abbrev pub noted_for : Option ℕ → ℕ → List ℕ → List ℕ → List ℕ
noted_for None n pending oldest = oldest
noted_for (Some fs) n pending oldest = oldest_with_entry oldest fs n (slice_index pending fs)
