-- The names of a directory: its live records, each with the block and the byte at which it stands.
--     bucket_names     those of a bucket; none where it isn't there
--     live_names       all, bucket by bucket
use Rattle.std.specs.Prelude.{ℕ, ◌+◌, ◌==◌, List, [], filter, flat_map, map, if◌then◌else◌}
use Rattle.std.specs.List.{range_with_len}
use Rattle.treefs_format.specs.Paths.{leaf_count}
use Rattle.treefs_format.specs.Records.{Record, is_live, records_of}
use Rattle.treefs_model.specs.Reading.{bucket_of}
use Rattle.treefs_lookup.specs.Buckets.{bucket_block, bucket_start}
pub use Rattle.treefs_mending.specs.declared.names.Name.{Name}

-- of a bucket that stands in a block, from a byte on
abbrev pub name_of : ℕ → ℕ → Record → Name
name_of block start r = record { block = block; offset = start + r.offset; number = r.entry.number }

abbrev pub names_in : ℕ → ℕ → List ℕ → List Name
names_in block start bytes = map (name_of block start) (filter (λ r. is_live r.entry) (records_of bytes))

abbrev pub names_at : ℕ → ℕ → List ℕ → List Name
names_at block start bytes = if block == 0 then [] else names_in block start bytes

abbrev pub bucket_names : (ℕ → List ℕ) → ℕ → ℕ → List Name
bucket_names content inode n = names_at (bucket_block content inode n) (bucket_start n) (bucket_of content inode n)

-- of so many buckets, from one on
abbrev pub names_from : (ℕ → List ℕ) → ℕ → ℕ → ℕ → List Name
names_from content inode n count = flat_map (bucket_names content inode) (range_with_len n count)

-- bucket 0, and one for each leaf that may be there
unfoldable pub bucket_count : ℕ
bucket_count = leaf_count + 1

abbrev pub live_names : (ℕ → List ℕ) → ℕ → List Name
live_names content inode = names_from content inode 0 bucket_count
