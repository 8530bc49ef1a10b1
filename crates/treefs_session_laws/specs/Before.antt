-- A volume that is open, with its files as before.
--     IsAsBefore              the volume is open, and its files, its place in the store and its clock are those of before; inodes without a number have none
--     IsUnheld                an inode that isn't held
--     IsAsBeforeButOrphans    so it is, but for inodes without links that aren't held: these may be gone, or parts of their content
use Rattle.std.specs.Prelude.{◌≡◌, ℕ, false, List}
use Rattle.xn_model.specs.Lists.{has_number}
use Rattle.xn_model.specs.Types.{Types}
use Rattle.xn_model.specs.Lives.{StoreState}
use Rattle.treefs.specs.declared.volume.Volume.{Volume}
use Rattle.treefs_laws.specs.Kept.{files_in}
use Rattle.treefs_laws.specs.Open.{IsOpen}
use Rattle.treefs_laws.specs.Orphans.{IsReaped}
use Rattle.treefs_laws.specs.Unnamed.{KeepsUnnamed}

pub record IsAsBefore (T : Types) (old new : StoreState) (volume volume' : Volume) : Type 0 where
  pub is_open : IsOpen T new volume'
  pub files : files_in new volume' ≡ files_in old volume
  pub tree : volume'.tree ≡ volume.tree
  pub clock : volume'.memory.clock ≡ volume.memory.clock
  pub unnamed : KeepsUnnamed old new volume volume'

abbrev pub IsUnheld : List ℕ → ℕ → Type 0
IsUnheld held n = has_number held n ≡ false

pub record IsAsBeforeButOrphans (T : Types) (held : List ℕ) (old new : StoreState) (volume volume' : Volume) : Type 0 where
  pub is_open : IsOpen T new volume'
  pub files : IsReaped (IsUnheld held) (files_in old volume) (files_in new volume')
  pub tree : volume'.tree ≡ volume.tree
  pub clock : volume'.memory.clock ≡ volume.memory.clock
  pub unnamed : KeepsUnnamed old new volume volume'
