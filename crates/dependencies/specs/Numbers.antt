-- The number of an entry, if there is one.
use Rattle.std.specs.Prelude.{ℕ, Bool, false, ◌==◌, Option, Some, None}
use Rattle.block_cache.specs.Claims.{ClaimValue}

abbrev pub is_number : ℕ → Option ClaimValue → Bool
is_number n None = false
is_number n (Some c) = c.entry == n
