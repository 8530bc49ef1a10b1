-- Bytes of a file that an edit writes.
--     bucket_at, place_in_bucket     the bucket in which a byte of a content stands, counted as those of a directory are, and where there
--     is_within               a byte is among so many from one on
--     byte_over               the byte once they are written
--     put_within, with_put    bytes with others written over them; an inode, with its content so
use Rattle.std.specs.Prelude.{ℕ, ◌+◌, ◌-◌, ◌/◌, ◌%◌, nat_le, nat_lt, Bool, ◌&&◌, List, length, map, slice_index, if◌then◌else◌}
use Rattle.std.specs.List.{range_with_len}
use Rattle.treefs_model.specs.Changes.{with_bytes}
use Rattle.treefs_model.specs.Files.{Inode}

abbrev pub bucket_at : ℕ → ℕ
bucket_at p = if nat_lt p 384 then 0 else p / 512 + 1

abbrev pub place_in_bucket : ℕ → ℕ
place_in_bucket p = if nat_lt p 384 then p else p % 512

abbrev pub is_within : ℕ → ℕ → ℕ → Bool
is_within first count p = nat_le first p && nat_lt p (first + count)

abbrev pub byte_over : ℕ → List ℕ → (ℕ → ℕ) → ℕ → ℕ
byte_over first bytes old p = if is_within first (length bytes) p then slice_index bytes (p - first) else old p

-- of bytes, so many as there are
abbrev pub put_within : ℕ → List ℕ → List ℕ → List ℕ
put_within first bytes old = map (byte_over first bytes (slice_index old)) (range_with_len 0 (length old))

abbrev pub with_put : ℕ → List ℕ → Inode → Inode
with_put first bytes inode = record inode { content = with_bytes (put_within first bytes) inode.content }
