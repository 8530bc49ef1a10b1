-- An inode that was begun, and that has no number yet.
--     IsBegun     nothing points to its block, and it says that it is a file or a symbolic link, with no more bytes than one may have
use Rattle.std.specs.Prelude.{◌≡◌, ℕ, ◌≤◌, ◌<◌, ◌^◌, List, length, Some, Ok}
use Rattle.xn_model.specs.Lives.{StoreState}
use Rattle.treefs_format.specs.Leaves.{greatest_size}
use Rattle.treefs_model.specs.Files.{Inode, bytes_in}
use Rattle.treefs_model.specs.Reading.{inode_of, key_in}
use Rattle.treefs_lookup.specs.Readable.{readable}
use Rattle.treefs.specs.declared.volume.Volume.{Volume}
use Rattle.treefs_laws.specs.Unnamed.{IsUnnamed}

pub record IsBegun (state : StoreState) (volume : Volume) (block : ℕ) (inode : Inode) : Type 0 where
  pub unnamed : IsUnnamed state volume block
  pub within : block < 2 ^ 32
  -- its block, and its leaves, are read as those of an inode with a number
  pub says : inode_of (readable state volume.tree.fs.number) (key_in (readable state volume.tree.fs.number) volume.tree.top) block ≡ Some inode
  pub bytes : List ℕ
  pub bytes_are : bytes_in inode.content ≡ Ok bytes
  pub few : length bytes ≤ greatest_size
