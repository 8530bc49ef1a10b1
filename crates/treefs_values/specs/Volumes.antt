-- The bytes of a volume, between calls.
--     IsWholeBlock m             bytes of a block
--     IsDirectory           the buckets of a directory: whole, each name once, in a candidate
--     IsVolume              types, pointers and directories of a volume, as the bytes of its blocks say them
use Rattle.std.specs.Prelude.{◌≡◌, ◌≢◌, ℕ, ◌<◌, ◌≤◌, All, Contains, List, length, Some, IsTrue}
use Rattle.treefs_format.specs.Buckets.{is_whole}
use Rattle.treefs_format.specs.Candidates.{candidates, name_hash}
use Rattle.treefs_format.specs.Fields.{fields_of}
use Rattle.treefs_format.specs.Inodes.{kind_of}
use Rattle.treefs_format.specs.Names.{is_name}
use Rattle.treefs_format.specs.Paths.{leaf_count}
use Rattle.treefs_format.specs.declared.kind.Kind.TheVariants as kind
use Rattle.treefs_model.specs.Reading.{bucket_of, key_in}
use Rattle.treefs_model.specs.Trees.{has_name}
use Rattle.treefs_values.specs.Names.{HasNamesOnce, bucket_entries}
use Rattle.treefs_values.specs.Ways.{ArePointersApart, IsTyped, block_numbered}

abbrev pub IsWholeBlock : List ℕ → Type 0
IsWholeBlock m = (length m ≡ 512) × All (λ b. b < 256) m

-- of the inode in block c
pub record IsDirectory (content : ℕ → List ℕ) (key : List ℕ) (c : ℕ) : Type 0 where
  pub names : HasNamesOnce content c
  pub placed : (k : ℕ) (name : List ℕ) → k ≤ leaf_count → IsTrue (has_name (bucket_entries content c k) name) → Contains (candidates (name_hash key name)) k
  pub valid : (k : ℕ) (name : List ℕ) → k ≤ leaf_count → IsTrue (has_name (bucket_entries content c k) name) → IsTrue (is_name name)
  pub whole : (k : ℕ) → k ≤ leaf_count → IsTrue (is_whole (bucket_of content c k))

-- type: that of each block that may be read, 0 of others
pub record IsVolume (node inode : ℕ) (type : ℕ → ℕ) (content : ℕ → List ℕ) (top : ℕ) : Type 0 where
  pub types : (node ≢ inode) × (2 ≢ node) × (2 ≢ inode)
  pub some_types : (node ≢ 0) × (inode ≢ 0)
  pub root : top ≢ 0
  pub typed : IsTyped node inode type content top
  pub apart : ArePointersApart node inode type content top
  pub blocks : (b : ℕ) → type b ≢ 0 → IsWholeBlock (content b)
  pub directories : (n : ℕ) → n ≢ 0 → block_numbered content top n ≢ 0 →
      kind_of (fields_of (content (block_numbered content top n))).mode ≡ Some kind.Directory →
      IsDirectory content (key_in content top) (block_numbered content top n)
