-- Sizes, and the leaves that they keep. The first 384 bytes stand in the inode; leaf i has the bytes from 512 i on.
use Rattle.std.specs.Prelude.{ℕ, ◌*◌, nat_le, if◌then◌else◌}
use Rattle.std.specs.Int.{div_ceil}
use Rattle.treefs_format.specs.Paths.{leaf_count}

abbrev pub greatest_size : ℕ
greatest_size = 512 * leaf_count

-- how many leaves a size keeps: all below this number
abbrev pub leaves_kept : ℕ → ℕ
leaves_kept size = if nat_le size 384 then 0 else div_ceil size 512
