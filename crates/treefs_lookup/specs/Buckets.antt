-- Buckets of a directory.
--     bucket_block     the block of one, 0 where it isn't there; bucket 0 stands in the inode
--     bucket_start     the byte of the block at which it begins
--     IsBucket         what is read of one
use Rattle.std.specs.Prelude.{◌≡◌, ℕ, ◌-◌, ◌==◌, List, if◌then◌else◌}
use Rattle.treefs_model.specs.Reading.{bucket_of, leaf_block}
use Rattle.treefs_lookup.specs.declared.bucket.Bucket.{Bucket}

abbrev pub bucket_block : (ℕ → List ℕ) → ℕ → ℕ → ℕ
bucket_block content inode bucket = if bucket == 0 then inode else leaf_block content inode (bucket - 1)

abbrev pub bucket_start : ℕ → ℕ
bucket_start bucket = if bucket == 0 then 128 else 0

pub record IsBucket (content : ℕ → List ℕ) (inode n : ℕ) (bucket : Bucket) : Type 0 where
  pub number : bucket.number ≡ n
  pub block : bucket.block ≡ bucket_block content inode n
  pub start : bucket.start ≡ bucket_start n
  pub bytes : bucket.bytes.now ≡ bucket_of content inode n
