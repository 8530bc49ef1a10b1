-- What a change leaves of a life.
--     changed_by change l      the life that it leaves
--     MayChange change l       it may be asked for
use Rattle.std.specs.Prelude.{◌≤◌, length}
use Rattle.block_cache.specs.declared.life.Change.{Change}
use Rattle.block_cache.specs.declared.life.Change.TheVariants.{Settle, SetStatus, SetBegun}
use Rattle.block_cache.specs.Cached.{CachedLife}
use Rattle.block_cache.specs.Kept.{settled, cached_with_status, with_begun}

abbrev pub changed_by : Change → CachedLife → CachedLife
changed_by (Settle count) = settled count
changed_by (SetStatus status) = cached_with_status status
changed_by (SetBegun begun) = with_begun begun

abbrev pub MayChange : Change → CachedLife → Type 0
MayChange (Settle count) = λ l. count ≤ length l.keys
MayChange (SetStatus status) = λ l. Unit {0}
MayChange (SetBegun begun) = λ l. Unit {0}
