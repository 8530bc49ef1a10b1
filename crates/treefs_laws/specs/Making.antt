-- A new inode, and its first name.
--     FitsAttributes     what a caller says of a new inode is as wide as its fields
--     new_inode          what a new inode says, with one link
--     MakesInode         a call made an inode with its first name, and nothing else
use Rattle.std.specs.Prelude.{◌≡◌, ℕ, ℤ, ◌<◌, ◌^◌, List, None, Ok}
use Rattle.xn_model.specs.Lives.{StoreState}
use Rattle.treefs_model.specs.Changes.{made, new_name}
use Rattle.treefs_model.specs.Files.{Content, Inode}
use Rattle.treefs.specs.declared.attributes.Attributes.{Attributes}
use Rattle.treefs.specs.declared.volume.Volume.{Volume}
use Rattle.treefs_laws.specs.Kept.{files_in}

pub record FitsAttributes (attributes : Attributes) : Type 0 where
  pub permissions : attributes.permissions < 4096
  pub uid : attributes.uid < 2 ^ 32
  pub gid : attributes.gid < 2 ^ 32
  pub generation : attributes.generation < 2 ^ 32

abbrev pub new_inode : ℤ → Attributes → Content → Inode
new_inode time attributes content = record {
  permissions = attributes.permissions;
  uid = attributes.uid;
  gid = attributes.gid;
  mtime = time;
  ctime = time;
  links = 1;
  generation = attributes.generation;
  content = content;
}

-- in directory d, by number n, which no inode had
abbrev pub MakesInode : StoreState → StoreState → Volume → Volume → ℕ → List ℕ → ℕ → Inode → Type 0
MakesInode state state' volume volume' d name n inode =
    (new_name (files_in state volume) d name ≡ Ok tt) × (files_in state volume n ≡ None)
    × (files_in state' volume' ≡ made (files_in state volume) volume.memory.clock d name n inode)
