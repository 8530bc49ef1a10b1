-- The nine buckets of a directory in which a name may stand: bucket 0, and one of each level from 1 to 8, of which level l has 8^l.
use Rattle.std.specs.Prelude.{ℕ, zero, suc, ◌+◌, ◌*◌, ◌%◌, ◌^◌, List, map}
use Rattle.std.specs.List.{range_with_len}
use Rattle.std.specs.Hash.DefaultHasher as sip

-- the first bucket of a level
abbrev pub first_bucket : ℕ → ℕ
first_bucket zero = 0
first_bucket (suc level) = 1 + 8 * first_bucket level

abbrev pub candidate : ℕ → ℕ → ℕ
candidate hash level = first_bucket level + hash % 8 ^ level

abbrev pub candidates : ℕ → List ℕ
candidates hash = map (candidate hash) (range_with_len 0 9)

-- SipHash-1-3, with both of its own keys 0, of the volume's key and then the name
unfoldable pub name_hash : List ℕ → List ℕ → ℕ
name_hash key name = sip.finish (sip.write (sip.write sip.initial key) name)
