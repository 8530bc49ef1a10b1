-- Volumes, as calls find and leave them.
--     edits_of added           the numbers of the edits that added inode blocks, by index
--     IsVolume T state volume  a volume's rules hold for its file system and its numbers
--     NothingPending lives     nothing is pending for any block, as after a mount
--     IsKnown T state fs       a volume's rules hold for a file system and some numbers
--     MayOpen T state fs       the library's types are installed, and one of these two is so
use Rattle.std.specs.Prelude.{◌≡◌, ◌⊎◌, ℕ, List, [], Option, Some, None, slice_index_or}
use Rattle.xn_model.specs.Types.{Types}
use Rattle.xn_model.specs.Lives.{Life, Lives, StoreState, life_at}
use Rattle.ffs_model.specs.Volumes.{VolumeKeeps}
use Rattle.ffs_model.specs.Library.{library_layout, IsLibrary}
use Rattle.ffs_lib.specs.declared.volume.Volume.{Volume}

abbrev pub edits_of : List (Option ℕ) → ℕ → Option ℕ
edits_of added j = slice_index_or added j None

pub record IsVolume (T : Types) (state : StoreState) (volume : Volume) : Type 0 where
  pub library : IsLibrary T
  pub keeps : VolumeKeeps T library_layout volume.fs.number (edits_of volume.added) state

abbrev pub NothingPending : Lives → Type 0
NothingPending lives = (b : ℕ) (l : Life) → life_at lives b ≡ Some l → l.pending ≡ []

pub record IsKnown (T : Types) (state : StoreState) (fs : ℕ) : Type 0 where
  pub edits : ℕ → Option ℕ
  pub keeps : VolumeKeeps T library_layout fs edits state

pub record MayOpen (T : Types) (state : StoreState) (fs : ℕ) : Type 0 where
  pub library : IsLibrary T
  pub known : NothingPending state.lives ⊎ IsKnown T state fs
