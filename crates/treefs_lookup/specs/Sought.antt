-- Buckets of a directory that are sought.
--     has_live, has_other    bytes with a live record; with a record of a number other than the one that stands somewhere
--     is_hit                 a bucket that is there, and has what is sought
--     AreWithout             none from one on, up to another
--     IsNextBucket           the first one at or past a place
use Rattle.std.specs.Prelude.{◌≡◌, ◌≢◌, ℕ, ◌-◌, ◌<◌, ◌≤◌, ◌==◌, nat_le, Bool, true, false, not, ◌&&◌, List, length, is_some, if◌then◌else◌}
use Rattle.std.specs.List.{list_any}
use Rattle.xn_model.specs.Lives.{StoreState}
use Rattle.xn_model.specs.PendingIn.{newest_entry_of}
use Rattle.treefs_format.specs.Buckets.{other_record}
use Rattle.treefs_format.specs.Paths.{leaf_count}
use Rattle.treefs_format.specs.Records.{is_live, records_of}
use Rattle.treefs_model.specs.Reading.{bucket_of}
use Rattle.treefs_lookup.specs.Buckets.{IsBucket, bucket_block, bucket_start}
use Rattle.treefs_lookup.specs.Readable.{readable}
use Rattle.treefs_lookup.specs.declared.bucket.Bucket.{Bucket}
use Rattle.treefs_lookup.specs.declared.names.Slot.{Slot}
use Rattle.treefs_lookup.specs.declared.sought.Sought.{Sought}
use Rattle.treefs_lookup.specs.declared.sought.Sought.TheVariants.{Live, Other, Pending}

abbrev pub has_live : List ℕ → Bool
has_live bytes = list_any (λ r. is_live r.entry) (records_of bytes)

-- where a slot stands in a bucket that begins at a byte of a block; at its end where it stands in another, which no record does
abbrev pub place_in : Slot → ℕ → ℕ → List ℕ → ℕ
place_in slot block start bytes = if (block == slot.block) && nat_le start slot.offset then slot.offset - start else length bytes

abbrev pub has_other : Slot → ℕ → ℕ → List ℕ → Bool
has_other slot block start bytes = is_some (other_record bytes slot.number (place_in slot block start bytes))

abbrev pub has_sought : StoreState → Sought → ℕ → ℕ → List ℕ → Bool
has_sought state Live block start bytes = has_live bytes
has_sought state (Other slot) block start bytes = has_other slot block start bytes
has_sought state Pending block start bytes = is_some (newest_entry_of state block)

abbrev pub hit_at : StoreState → Sought → ℕ → ℕ → List ℕ → Bool
hit_at state sought block start bytes = not (block == 0) && has_sought state sought block start bytes

abbrev pub is_hit : StoreState → ℕ → ℕ → Sought → ℕ → Bool
is_hit state fs inode sought n =
    hit_at state sought (bucket_block (readable state fs) inode n) (bucket_start n) (bucket_of (readable state fs) inode n)

-- Buckets in their order

-- none is there from one on, up to another; the first one that is
abbrev pub AreNotThere : (ℕ → List ℕ) → ℕ → ℕ → ℕ → Type 0
AreNotThere content inode from to = (n : ℕ) → from ≤ n → n < to → bucket_block content inode n ≡ 0

pub record IsNextThere (content : ℕ → List ℕ) (inode from n : ℕ) : Type 0 where
  pub past : from ≤ n
  pub few : n ≤ leaf_count
  pub there : bucket_block content inode n ≢ 0
  pub first : AreNotThere content inode from n

abbrev pub AreWithout : StoreState → ℕ → ℕ → Sought → ℕ → ℕ → Type 0
AreWithout state fs inode sought from to = (n : ℕ) → from ≤ n → n < to → is_hit state fs inode sought n ≡ false

pub record IsNextBucket (state : StoreState) (fs inode : ℕ) (sought : Sought) (from : ℕ) (bucket : Bucket) : Type 0 where
  pub is : IsBucket (readable state fs) inode bucket.number bucket
  pub past : from ≤ bucket.number
  pub few : bucket.number ≤ leaf_count
  pub hit : is_hit state fs inode sought bucket.number ≡ true
  pub first : AreWithout state fs inode sought from bucket.number
