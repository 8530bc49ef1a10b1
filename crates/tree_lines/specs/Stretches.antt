-- Which bytes of an inode stand in blocks: the first 384 in its own, the others in its leaves. blocks: those of its leaves; 0 for each that is missing.
--     IsHole, AreInBlocks        none of those from one on, before another, stands in a block; each does
--     end_before                 the byte behind those of the leaves before one, and of the inode
--     IsFirstFrom                the first byte at or past one that stands in a block, and the leaf behind it
--     IsStretch, HasNoStretch    the next bytes that stand in blocks; none do
--     IsNextStretch              the one or the other
use Rattle.std.specs.Prelude.{◌≡◌, ◌≢◌, ◌⊎◌, ℕ, ◌+◌, ◌*◌, ◌/◌, ◌==◌, ◌<◌, ◌≤◌, Option, None, Some, if◌then◌else◌}
use Rattle.treefs_format.specs.Paths.{leaf_count}
use Rattle.treefs_lookup.specs.Bytes.{file_end}
use Rattle.tree_lines.specs.declared.node.Stretch.{Stretch}

abbrev pub IsHole : (ℕ → ℕ) → ℕ → ℕ → Type 0
IsHole blocks from to = (byte : ℕ) → from ≤ byte → byte < to → (384 ≤ byte) × (blocks (byte / 512) ≡ 0)

abbrev pub AreInBlocks : (ℕ → ℕ) → ℕ → ℕ → Type 0
AreInBlocks blocks from to = (byte : ℕ) → from ≤ byte → byte < to → (byte < 384) ⊎ (blocks (byte / 512) ≢ 0)

abbrev pub end_before : ℕ → ℕ
end_before leaf = if leaf == 0 then 384 else leaf * 512

pub record IsFirstFrom (blocks : ℕ → ℕ) (at first leaf : ℕ) : Type 0 where
  pub past : at ≤ first
  pub within : first < end_before leaf
  pub few : leaf ≤ leaf_count
  pub hole : IsHole blocks at first
  pub stand : AreInBlocks blocks first (end_before leaf)

-- at most so many bytes at or past one, of a file of a size; more of them don't follow at once
pub record IsStretch (blocks : ℕ → ℕ) (size at most : ℕ) (stretch : Stretch) : Type 0 where
  pub past : at ≤ stretch.at
  pub some : 0 < stretch.length
  pub few : stretch.length ≤ most
  pub within : stretch.at + stretch.length ≤ file_end size
  pub hole : IsHole blocks at stretch.at
  pub stand : AreInBlocks blocks stretch.at (stretch.at + stretch.length)
  pub ends : (stretch.length ≡ most) ⊎ ((stretch.at + stretch.length ≡ file_end size)
      ⊎ IsHole blocks (stretch.at + stretch.length) (stretch.at + stretch.length + 1))

-- a hole follows, or the file ends
abbrev pub HasNoStretch : (ℕ → ℕ) → ℕ → ℕ → ℕ → Type 0
HasNoStretch blocks size at most = (most ≡ 0) ⊎ IsHole blocks at (file_end size)

abbrev pub IsNextStretch : (ℕ → ℕ) → ℕ → ℕ → ℕ → Option Stretch → Type 0
IsNextStretch blocks size at most None = HasNoStretch blocks size at most
IsNextStretch blocks size at most (Some stretch) = IsStretch blocks size at most stretch
