-- An open volume between calls.
--     IsOpen      a kept volume, with the root block and the types that the store has, of which only inodes are touched that are there
use Rattle.std.specs.Prelude.{◌≡◌, ◌≢◌, ◌<◌, ◌^◌, All, None, Some}
use Rattle.xn_model.specs.Types.{Types}
use Rattle.xn_model.specs.Lives.{StoreState}
use Rattle.xn_model.specs.Calls.{root_of}
use Rattle.treefs_format.specs.Templates.{IsTree}
use Rattle.treefs.specs.declared.volume.Volume.{Volume}
use Rattle.treefs_laws.specs.Kept.{IsKept, files_in}

pub record IsOpen (T : Types) (state : StoreState) (volume : Volume) : Type 0 where
  pub kept : IsKept T state volume
  pub few : volume.tree.fs.number < 32
  pub tree : IsTree T volume.tree.node_type volume.tree.inode_type
  -- types are bytes
  pub short : (volume.tree.node_type < 2 ^ 8) × (volume.tree.inode_type < 2 ^ 8)
  pub root : root_of state volume.tree.fs.number ≡ Some volume.tree.top
  pub touched : All (λ touch. files_in state volume touch.number ≢ None) volume.memory.touched
