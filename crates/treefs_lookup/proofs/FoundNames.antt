-- What is found in a bucket that was read.
use Rattle.std.proofs.Common.{◌≡◌, ℕ, List, Option, sym, ◌∙◌, ap, option_map}
use Rattle.xn_model.specs.Lives.{StoreState}
use Rattle.xn_model.specs.PendingIn.{newest_entry_of}
use Rattle.treefs_format.specs.Buckets.{dead_record, live_record}
use Rattle.treefs_format.specs.Candidates.{name_hash}
use Rattle.treefs_format.specs.Records.{Record}
use Rattle.treefs_model.specs.Reading.{bucket_of}
use Rattle.treefs_lookup.specs.Buckets.{IsBucket, bucket_block, bucket_start}
use Rattle.treefs_lookup.specs.Names.{dead_in, dead_of, dead_of_bucket, dead_place, first_some, fits_without, room_at, room_of, room_or_new, slot_in, slot_named, slot_of, slot_of_bucket}
use Rattle.treefs_lookup.specs.Readable.{readable}
use Rattle.treefs_lookup.specs.declared.bucket.Bucket.{Bucket}
use Rattle.treefs_lookup.proofs.Candidates.{later, later_first}

module _ (content : ℕ → List ℕ) (inode n : ℕ) (name : List ℕ) (bucket : Bucket) (is : IsBucket content inode n bucket) where
  -- the same of the block and its place
  there : {A : Type 0} (at : ℕ → ℕ → Record → A) (found : Option Record) →
      option_map (at bucket.block bucket.start) found ≡ option_map (at (bucket_block content inode n) (bucket_start n)) found
  there at found = ap (λ b. option_map (at b bucket.start) found) is.block ∙ ap (λ s. option_map (at (bucket_block content inode n) s) found) is.start

  pub slot_found : slot_in content inode name n ≡ slot_of_bucket name bucket
  slot_found = sym (there slot_of (live_record bucket.bytes.now name) ∙ ap (λ b. option_map (slot_of (bucket_block content inode n) (bucket_start n)) (live_record b name)) is.bytes)

  pub dead_found : dead_in content inode name n ≡ dead_of_bucket name bucket
  dead_found = sym (there dead_of (dead_record bucket.bytes.now name) ∙ ap (λ b. option_map (dead_of (bucket_block content inode n) (bucket_start n)) (dead_record b name)) is.bytes)

pub room_found : (state : StoreState) (fs inode n : ℕ) (name : List ℕ) (bucket : Bucket) → IsBucket (readable state fs) inode n bucket →
    room_at state fs inode name n ≡ room_of state name bucket
room_found state fs inode n name bucket is =
    let block = bucket_block (readable state fs) inode n in
    let bytes = bucket_of (readable state fs) inode n in
    sym (ap (λ k. room_or_new k bucket.bytes.now bucket.block bucket.start (newest_entry_of state bucket.block) name) is.number
    ∙ (ap (λ m. room_or_new n m bucket.block bucket.start (newest_entry_of state bucket.block) name) is.bytes
    ∙ (ap (λ b. room_or_new n bytes b bucket.start (newest_entry_of state b) name) is.block
    ∙ ap (λ s. room_or_new n bytes block s (newest_entry_of state block) name) is.start)))

pub way_found : (content : ℕ → List ℕ) (inode n : ℕ) (name : List ℕ) (bucket : Bucket) → IsBucket content inode n bucket →
    fits_without (bucket_of content inode n) name ≡ fits_without bucket.bytes.now name
way_found content inode n name bucket is = ap (λ b. fits_without b name) (sym is.bytes)

pub named_first : (content : ℕ → List ℕ) (key : List ℕ) (inode : ℕ) (name : List ℕ) (hash : ℕ) → hash ≡ name_hash key name →
    slot_named content key inode name ≡ first_some (slot_in content inode name) (later hash 0)
unfolding slot_named
named_first content key inode name hash e = ap (first_some (slot_in content inode name)) (sym (later_first (name_hash key name)) ∙ ap (λ h. later h 0) (sym e))

pub dead_first : (content : ℕ → List ℕ) (hash inode : ℕ) (name : List ℕ) → dead_place content hash inode name ≡ first_some (dead_in content inode name) (later hash 0)
unfolding dead_place
dead_first content hash inode name = ap (first_some (dead_in content inode name)) (sym (later_first hash))
