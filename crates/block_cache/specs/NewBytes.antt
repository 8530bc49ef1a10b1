-- What an entry leaves of a block's bytes.
--     new_bytes bytes m       that, of these newest ones
--     AreWithinLimits bytes          it may be asked for
--     appended_by k bytes l   the life with one more entry, under this key
use Rattle.std.specs.Prelude.{ℕ, List, IsTrue}
use Rattle.block_cache.specs.Cached.{CachedLife}
use Rattle.block_cache.specs.Kept.{appended}
use Rattle.xn_model.specs.Calls.{patched, within_limits}
use Rattle.block_cache.specs.declared.new_bytes.NewBytes.{NewBytes}
use Rattle.block_cache.specs.declared.new_bytes.NewBytes.TheVariants.{Whole, Patched}

abbrev pub new_bytes : NewBytes → List ℕ → List ℕ
new_bytes (Whole bytes) m = bytes.now
new_bytes (Patched edit) m = patched m edit.now.patches

abbrev pub AreWithinLimits : NewBytes → Type 0
AreWithinLimits (Whole bytes) = Unit {0}
AreWithinLimits (Patched edit) = IsTrue (within_limits edit.now)

abbrev pub appended_by : ℕ → NewBytes → CachedLife → CachedLife
appended_by k bytes l = appended k (new_bytes bytes l.current) l
