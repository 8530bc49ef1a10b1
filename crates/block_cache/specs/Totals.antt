-- What is counted of lives.
--     totals_of places          how many entries are pending, and of how many lives a write is under way
--     totals_in o               the same of one block
--     exchange_of old new       the same before and after a change
use Rattle.std.specs.Prelude.{ℕ, cond, List, length, Option, Some, None, is_some, sum_by}
use Rattle.block_cache.specs.Cached.{CachedLife}
use Rattle.block_cache.specs.declared.totals.Totals.{Totals}
use Rattle.block_cache.specs.declared.totals.Exchange.{Exchange}

-- how many entries of a life are pending
abbrev pub pending_count : Option CachedLife → ℕ
pending_count None = 0
pending_count (Some l) = length l.keys

-- 1 where a write of it is under way
abbrev pub in_flight_of : Option CachedLife → ℕ
in_flight_of None = 0
in_flight_of (Some l) = cond (is_some l.begun) 1 0

abbrev pub totals_of : List (Option CachedLife) → Totals
totals_of places = record { pending = sum_by pending_count places; in_flight = sum_by in_flight_of places }

-- the same of what is kept of one block
abbrev pub totals_in : Option CachedLife → Totals
totals_in o = record { pending = pending_count o; in_flight = in_flight_of o }

-- what is counted of a block before and after a change of its life
abbrev pub exchange_of : Option CachedLife → Option CachedLife → Exchange
exchange_of old new = record { before = totals_in old; after = totals_in new }
