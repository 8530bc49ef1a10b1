-- The files that the bytes of a volume say. A content is the bytes of each block; inode 0 is the block that the root slot names.
--     block_at content top offsets    the block to which pointers lead from a block, the last offset first; 0 where one of them is 0
--     inode_block                     the block of an inode; leaf_block, that of one of its leaves
--     byte_of, bytes_of               a byte of its content; all, up to its size
--     bucket_of, number_of            a bucket of a directory; the number to which a name leads there
--     inode_of, files_of              an inode as a value; the files
use Rattle.std.specs.Prelude.{ℕ, ◌+◌, ◌-◌, ◌/◌, ◌%◌, ◌==◌, nat_lt, ◌||◌, List, [], ◌∷◌, map, slice_index, Option, None, Some, if◌then◌else◌}
use Rattle.std.specs.Prelude.{option_map}
use Rattle.std.specs.List.{range_with_len}
use Rattle.xn_model.specs.Root.{word_at}
use Rattle.treefs_format.specs.Buckets.{live_record}
use Rattle.treefs_format.specs.Candidates.{candidates, name_hash}
use Rattle.treefs_format.specs.Fields.{fields_of}
use Rattle.treefs_format.specs.declared.fields.Fields.{Fields}
use Rattle.treefs_format.specs.Inodes.{content_of, kind_of}
use Rattle.treefs_format.specs.declared.kind.Kind.{Kind}
use Rattle.treefs_format.specs.Paths.{leaf_count, steps}
use Rattle.treefs_format.specs.Records.{Record}
use Rattle.treefs_format.specs.Roots.{key_of, leaf_of_inode}
use Rattle.treefs_format.specs.declared.kind.Kind.TheVariants as kind
use Rattle.treefs_model.specs.Files.{Content, Directory, File, Files, Inode, Names, SymbolicLink}

-- Pointers

abbrev pub pointed : (ℕ → List ℕ) → ℕ → ℕ → ℕ
pointed content block offset = if block == 0 then 0 else word_at (content block) offset

abbrev pub block_at : (ℕ → List ℕ) → ℕ → List ℕ → ℕ
block_at content top [] = top
block_at content top (o ∷ offsets) = pointed content (block_at content top offsets) o

abbrev pub leaf_block : (ℕ → List ℕ) → ℕ → ℕ → ℕ
leaf_block content inode leaf = block_at content inode (steps leaf)

-- 0 for a number that is free, or none
abbrev pub inode_block : (ℕ → List ℕ) → ℕ → ℕ → ℕ
inode_block content top n = if (n == 0) || nat_lt leaf_count n then 0 else leaf_block content top (leaf_of_inode n)

-- Bytes

-- a byte of a leaf, 0 where there is none
abbrev pub leaf_byte : (ℕ → List ℕ) → ℕ → ℕ → ℕ
leaf_byte content block at = if block == 0 then 0 else slice_index (content block) at

abbrev pub byte_of : (ℕ → List ℕ) → ℕ → ℕ → ℕ
byte_of content inode byte =
    if nat_lt byte 384 then slice_index (content inode) (128 + byte) else leaf_byte content (leaf_block content inode (byte / 512)) (byte % 512)

abbrev pub bytes_of : (ℕ → List ℕ) → ℕ → List ℕ
bytes_of content inode = map (byte_of content inode) (range_with_len 0 (fields_of (content inode)).size)

-- Names

-- bucket 0 stands in the inode; one that is not there is empty
abbrev pub bucket_of : (ℕ → List ℕ) → ℕ → ℕ → List ℕ
bucket_of content inode bucket = if bucket == 0 then content_of (content inode) else bucket_in (leaf_block content inode (bucket - 1))
  where
    bucket_in : ℕ → List ℕ
    bucket_in block = if block == 0 then [] else content block

-- the first number among some buckets
abbrev pub number_among : (ℕ → List ℕ) → ℕ → List ℕ → List ℕ → Option ℕ
number_among content inode name [] = None
number_among content inode name (bucket ∷ buckets) = number_or (live_record (bucket_of content inode bucket) name) (number_among content inode name buckets)
  where
    number_or : Option Record → Option ℕ → Option ℕ
    number_or (Some r) others = Some r.entry.number
    number_or None others = others

abbrev pub number_of : (ℕ → List ℕ) → List ℕ → ℕ → Names
number_of content key inode name = number_among content inode name (candidates (name_hash key name))

-- Inodes

abbrev pub content_at : (ℕ → List ℕ) → List ℕ → ℕ → ℕ → Kind → Content
content_at content key inode parent kind.Directory = Directory parent (number_of content key inode)
content_at content key inode parent kind.File = File (bytes_of content inode)
content_at content key inode parent kind.SymbolicLink = SymbolicLink (bytes_of content inode)

abbrev pub inode_with : Fields → Content → Inode
inode_with fields content = record {
  permissions = fields.mode % 4096;
  uid = fields.uid;
  gid = fields.gid;
  mtime = fields.mtime;
  ctime = fields.ctime;
  links = fields.links;
  generation = fields.generation;
  content = content;
}

-- of any other kind it is none
abbrev pub inode_of : (ℕ → List ℕ) → List ℕ → ℕ → Option Inode
inode_of content key block =
    let fields = fields_of (content block) in
    option_map (λ kind. inode_with fields (content_at content key block fields.parent kind)) (kind_of fields.mode)

abbrev pub key_in : (ℕ → List ℕ) → ℕ → List ℕ
key_in content top = key_of (content_of (content top))

unfoldable pub files_of : (ℕ → List ℕ) → ℕ → Files
files_of content top n = inode_at (inode_block content top n)
  where
    inode_at : ℕ → Option Inode
    inode_at block = if block == 0 then None else inode_of content (key_in content top) block
