-- Where the bytes of a content stand.
use Rattle.std.specs.Prelude.{ℕ, ◌+◌, ◌/◌, ◌%◌, nat_lt, if◌then◌else◌}
use Rattle.treefs_format.specs.declared.sizes.Place.{Place}
use Rattle.treefs_format.specs.declared.sizes.Place.TheVariants.{InInode, InLeaf}

-- at which byte of the inode block, or in which leaf, at which of its bytes
abbrev pub place_of : ℕ → Place
place_of byte = if nat_lt byte 384 then InInode (128 + byte) else InLeaf (byte / 512) (byte % 512)
