-- Where inodes and entries stand in the newest states.
--     IsPlace state fs n block place     inode n stands there
--     IsFound, IsDirectory, IsFile       it does, and is in use, is a directory, is none
--     IsFree, IsEmptyPointer             a free inode; an empty pointer of the root block
--     IsSlot, IsRoom                     an entry of a directory; where one has room for an entry
use Rattle.std.specs.Prelude.{◌≡◌, ◌≢◌, ℕ, ◌<◌, ◌≤◌, ◌*◌, length, replicate, Contains}
use Rattle.xn_model.specs.Lives.{StoreState}
use Rattle.ffs_model.specs.Cuts.{latest}
use Rattle.ffs_model.specs.Names.{IsRoot, IsInodes, Names}
use Rattle.ffs_model.specs.Library.{library_layout, half_at, inode_at, inode_mode, pointer_word}
use Rattle.ffs_format.specs.Fields.{direct_in}
use Rattle.ffs_lookup.specs.declared.places.Found.{Found}
use Rattle.ffs_lookup.specs.declared.places.Free.{Free}
use Rattle.ffs_lookup.specs.declared.places.Slot.{Slot}
use Rattle.ffs_lookup.specs.declared.places.Room.{Room}
use Rattle.ffs_lookup.specs.declared.places.Room.TheVariants.{Entry, Pointer}

pub record IsPlace (state : StoreState) (fs n block place : ℕ) : Type 0 where
  pub some : n ≢ 0
  pub inodes : IsInodes library_layout (latest state.lives) fs (library_layout.home n).0 block
  pub at : place ≡ (library_layout.home n).1
  pub few : place < 8
  pub long : length (latest state.lives block) ≡ 512

pub record IsFound (state : StoreState) (fs n : ℕ) (found : Found) : Type 0 where
  pub stands : IsPlace state fs n found.block found.place
  pub bytes : found.inode ≡ inode_at (latest state.lives found.block) found.place
  pub used : inode_mode found.inode ≢ 0

pub record IsDirectory (state : StoreState) (fs n : ℕ) (found : Found) : Type 0 where
  pub is : IsFound state fs n found
  pub directory : inode_mode found.inode ≡ 2

pub record IsFile (state : StoreState) (fs n : ℕ) (found : Found) : Type 0 where
  pub is : IsFound state fs n found
  pub file : inode_mode found.inode ≢ 2

pub record IsFree (state : StoreState) (fs : ℕ) (free : Free) : Type 0 where
  pub stands : IsPlace state fs free.number free.block free.place
  pub bare : inode_at (latest state.lives free.block) free.place ≡ replicate 64 0
  pub low : free.number ≤ 128

pub record IsEmptyPointer (state : StoreState) (fs index : ℕ) : Type 0 where
  pub root : ℕ
  pub is_root : IsRoot (latest state.lives) fs root
  pub few : index < 16
  pub empty : pointer_word (latest state.lives root) index ≡ 0
  pub long : length (latest state.lives root) ≡ 512

pub record IsSlot (state : StoreState) (fs : ℕ) (slot : Slot) : Type 0 where
  pub some : slot.inode ≢ 0
  pub names : Names library_layout (latest state.lives) fs slot.inode (slot.block, slot.place)
  pub few : slot.place < 16
  pub long : length (latest state.lives slot.block) ≡ 512

-- a place without an entry in a block that the directory points to
pub record IsGap (state : StoreState) (directory : Found) (block place : ℕ) : Type 0 where
  pub has : Contains (library_layout.direct (latest state.lives directory.block) directory.place) block
  pub few : place < 16
  pub empty : half_at (latest state.lives block) (32 * place) ≡ 0
  pub long : length (latest state.lives block) ≡ 512

abbrev pub IsRoom : StoreState → Found → Room → Type 0
IsRoom state directory (Entry block place) = IsGap state directory block place
IsRoom state directory (Pointer index) = (index < 12) × (direct_in directory.inode index ≡ 0)
