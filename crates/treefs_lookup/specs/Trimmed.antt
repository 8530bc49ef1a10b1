-- What stands past the size of a file.
--     is_first levels place     a leaf at a place of a tree is the first one below the block so many levels above it
--     Begins                    such a block, of an inode, is there: a leaf itself where it is no level above
--     SomeBegins, NoneBegins    some does at or past a leaf; none from one on, up to another
--     bytes_past                the bytes from a size on that stand together with the first of them
--     pointers_past             the pointers of an inode to the leaves from one on, and to its trees
--     IsTrimmed                 past the size of a file or a symbolic link no block is there, nor a byte that is not 0; a directory is trimmed
use Rattle.std.specs.Prelude.{◌≡◌, ◌≢◌, ℕ, ◌+◌, ◌-◌, ◌*◌, ◌<◌, ◌≤◌, ◌/◌, ◌%◌, ◌==◌, min, nat_le, zero, suc, Bool, true, ◌&&◌, List, drop, take, IsTrue, ⊤}
use Rattle.xn_model.specs.Lists.{blank}
use Rattle.treefs_format.specs.Leaves.{greatest_size, leaves_kept}
use Rattle.treefs_format.specs.Paths.{height_of, leaf_count, place_in_tree, steps}
use Rattle.treefs_format.specs.declared.kind.Kind.{Kind}
use Rattle.treefs_format.specs.declared.kind.Kind.TheVariants as kind
use Rattle.treefs_model.specs.Reading.{block_at}
use Rattle.treefs_lookup.specs.Bytes.{bytes_from, file_end, part_left}
use Rattle.treefs_lookup.specs.declared.inodes.Found.{Found}

abbrev pub is_first : ℕ → ℕ → Bool
is_first zero place = true
is_first (suc levels) place = (place % 127 == 0) && is_first levels (place / 127)

-- a node that many levels above a leaf, and not the inode
abbrev pub is_first_node : ℕ → ℕ → Bool
is_first_node leaf levels = nat_le levels (height_of leaf) && is_first levels (place_in_tree leaf)

pub record Begins (content : ℕ → List ℕ) (inode leaf levels : ℕ) : Type 0 where
  pub high : levels ≤ height_of leaf
  pub first : is_first levels (place_in_tree leaf) ≡ true
  pub there : block_at content inode (drop levels (steps leaf)) ≢ 0

abbrev pub SomeBegins : (ℕ → List ℕ) → ℕ → ℕ → Type 0
SomeBegins content inode from = (leaf : ℕ) × (levels : ℕ) × (from ≤ leaf) × (leaf < leaf_count) × Begins content inode leaf levels

abbrev pub NoneBegins : (ℕ → List ℕ) → ℕ → ℕ → ℕ → Type 0
NoneBegins content inode from to = (leaf levels : ℕ) → from ≤ leaf → leaf < to → Begins content inode leaf levels → ⊥

abbrev pub bytes_past : (ℕ → List ℕ) → ℕ → ℕ → List ℕ
bytes_past content inode size = bytes_from content inode size (part_left size)

-- the pointers of an inode from that to a leaf on: those to leaves at or past it, and those to the trees
abbrev pub pointers_past : List ℕ → ℕ → List ℕ
pointers_past bytes from = take (128 - (48 + 4 * min from 16)) (drop (48 + 4 * min from 16) bytes)

pub record IsCut (content : ℕ → List ℕ) (inode size : ℕ) : Type 0 where
  pub blocks : NoneBegins content inode (leaves_kept size) leaf_count
  pub bytes : size < greatest_size → IsTrue (blank (bytes_past content inode size))

abbrev pub IsTrimmedAs : (ℕ → List ℕ) → Found → Kind → Type 0
IsTrimmedAs content found kind.Directory = ⊤
IsTrimmedAs content found kind.File = IsCut content found.block (file_end found.fields.size)
IsTrimmedAs content found kind.SymbolicLink = IsCut content found.block (file_end found.fields.size)

abbrev pub IsTrimmed : (ℕ → List ℕ) → Found → Type 0
IsTrimmed content found = IsTrimmedAs content found found.kind
