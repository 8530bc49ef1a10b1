-- The blocks of a file system of trees, as the laws of its edits read them.
--     tree_shape node inode    the pointers of nodes and of inodes, by the two types; all bytes but the first are 0
--     Bucket, bucket_bytes     what a block is to names: no bucket, the inode of a directory, with its bucket 0, or a leaf of one; the bucket's bytes
--     counted, live_count      how many live records of a number there are
--     tree_layout, tree_records    how the table of inodes, records and links are read, where it is known which blocks are buckets
use Rattle.std.specs.Prelude.{ℕ, ◌==◌, ◌%◌, nat_le, nat_lt, Bool, true, cond, not, ◌&&◌, ◌||◌, List, [], ◌∷◌, drop, sum_by, bytes_eq, if◌then◌else◌}
use Rattle.std.specs.List.{list_any}
use Rattle.xn_model.specs.Lists.{blank}
use Rattle.xn_model.specs.Lives.{Lives}
use Rattle.xn_model.specs.Root.{word_at}
use Rattle.treefs_format.specs.Fields.{fields_of}
use Rattle.treefs_format.specs.Inodes.{content_of}
use Rattle.treefs_format.specs.Paths.{steps}
use Rattle.treefs_format.specs.Records.{Entry, entries_of, is_live}
use Rattle.treefs_format.specs.Roots.{leaf_of_inode}
use Rattle.treefs_model.specs.Links.{Layout}
use Rattle.treefs_model.specs.Places.{Shape}
use Rattle.treefs_model.specs.Single.{Records}
use Rattle.treefs_model.specs.Tables.{table_layout}

-- Pointers

-- 127 from byte 4 on, and 20 from byte 48 on
abbrev pub is_node_offset : ℕ → Bool
is_node_offset o = nat_le 4 o && (nat_lt o 512 && (o % 4 == 0))

abbrev pub is_inode_offset : ℕ → Bool
is_inode_offset o = nat_le 48 o && (nat_lt o 128 && (o % 4 == 0))

-- a pointer of a block of type t stands at an offset
abbrev pub has_pointer : ℕ → ℕ → ℕ → ℕ → Bool
has_pointer node inode t o = ((t == node) && is_node_offset o) || ((t == inode) && is_inode_offset o)

abbrev pub tree_pointer : ℕ → ℕ → ℕ → List ℕ → ℕ → ℕ
tree_pointer node inode t m o = if has_pointer node inode t o then word_at m o else 0

abbrev pub is_bare : List ℕ → Bool
is_bare m = blank (drop 1 m)

abbrev pub tree_shape : ℕ → ℕ → Shape
tree_shape node inode = record { pointer = tree_pointer node inode; empty = is_bare }

-- Names

pub data Bucket : Type 0 where
  NoBucket : Bucket
  OfInode : Bucket
  OfLeaf : Bucket

abbrev pub bucket_bytes : Bucket → List ℕ → List ℕ
bucket_bytes NoBucket m = []
bucket_bytes OfInode m = content_of m
bucket_bytes OfLeaf m = m

abbrev pub entries_at : (ℕ → Bucket) → ℕ → List ℕ → List Entry
entries_at buckets b m = entries_of (bucket_bytes (buckets b) m)

-- 1 for a live record of a number
abbrev pub counted : ℕ → Entry → ℕ
counted n e = cond (is_live e && (e.number == n)) 1 0

-- how many live records of a number there are
abbrev pub live_count : ℕ → List Entry → ℕ
live_count n entries = sum_by (counted n) entries

-- and in a block with these bytes
abbrev pub records_at : (ℕ → Bucket) → ℕ → ℕ → List ℕ → ℕ
records_at buckets n b m = live_count n (entries_at buckets b m)

abbrev pub tree_layout : Shape → Lives → ℕ → (ℕ → Bucket) → Layout
tree_layout S lives top buckets = table_layout S lives top (λ n. steps (leaf_of_inode n)) (records_at buckets) (λ m. (fields_of m).links)

abbrev pub has_name : List Entry → List ℕ → Bool
has_name entries name = list_any (λ e. bytes_eq e.name name) entries

abbrev pub has_live_name : List Entry → List ℕ → Bool
has_live_name entries name = list_any (λ e. is_live e && bytes_eq e.name name) entries

-- no name has two records
abbrev pub names_once : List Entry → Bool
names_once [] = true
names_once (e ∷ entries) = not (has_name entries e.name) && names_once entries

abbrev pub tree_records : (ℕ → Bucket) → Records
tree_records buckets = record {
  has = λ b m name. has_name (entries_at buckets b m) name;
  live = λ b m name. has_live_name (entries_at buckets b m) name;
  once = λ b m. names_once (entries_at buckets b m);
}
