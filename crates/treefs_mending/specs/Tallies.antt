-- How many names lead to each inode, and where the first of them stands.
--     tally_at         of an inode, by its number
--     with_name        one more name of an inode stands in a directory
--     is_found         some name leads to it; inode 1 has none, and is found
use Rattle.std.specs.Prelude.{ℕ, ◌+◌, ◌-◌, ◌==◌, nat_lt, min, Bool, ◌||◌, List, ◌++◌, length, replicate, slice_get, slice_set, unwrap_or, if◌then◌else◌}
pub use Rattle.treefs_mending.specs.declared.tally.Tally.{Tally}

abbrev pub no_names : Tally
no_names = record { names = 0; directory = 0 }

abbrev pub tally_at : List Tally → ℕ → Tally
tally_at tallies n = unwrap_or (slice_get tallies n) no_names

-- one more name, in a directory; 2^32 - 1 stands for all that are more
abbrev pub named : Tally → ℕ → Tally
named tally directory = record { names = min (tally.names + 1) 4294967295; directory = if tally.names == 0 then directory else tally.directory }

-- with places for so many numbers
abbrev pub padded : List Tally → ℕ → List Tally
padded tallies count = tallies ++ replicate (count - length tallies) no_names

abbrev pub with_name : List Tally → ℕ → ℕ → List Tally
with_name tallies n directory = slice_set (padded tallies (n + 1)) n (named (tally_at tallies n) directory)

abbrev pub is_found : List Tally → ℕ → Bool
is_found tallies n = (n == 1) || nat_lt 0 (tally_at tallies n).names
