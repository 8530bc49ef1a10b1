-- The library's types on a store that runs.
--     library_types            those of its three templates alone
--     IsLibraryType T t        one of them is installed, with its meaning
--     IsInstalledAt reply i    a template was installed at place i of the catalogue
--     IsRemounted value        nothing is pending, and what block 0 on the disk names of types 3 to 5 is the library's
use Rattle.std.specs.Prelude.{◌≡◌, ◌≤◌, ◌+◌, ℕ, [], Some, IsTrue}
use Rattle.xn_model.specs.Types.{Types}
use Rattle.xn_model.specs.Root.{has_type}
use Rattle.xn_model.specs.Images.{block_of}
use Rattle.xn_model.specs.Lives.{Life, life_at}
use Rattle.xn_model.specs.Calls.{latest}
use Rattle.xn_model.specs.Worlds.{Reply, Installed}
use Rattle.templates.specs.Formats.{table_of}
use Rattle.templates.specs.Tables.{table_types}
use Rattle.ffs_format.specs.Library.{file_system_templates}
use Rattle.xn_state.specs.States.{own_types}
use Rattle.world.specs.Worlds.{WorldValue}

abbrev pub library_types : Types
library_types = table_types (table_of file_system_templates)

pub record IsLibraryType (T : Types) (t : ℕ) : Type 0 where
  pub installed : IsTrue (T.installed t)
  pub owned : T.owned t ≡ library_types.owned t
  pub size : T.size t ≡ library_types.size t

abbrev pub IsInstalledAt : Reply → ℕ → Type 0
IsInstalledAt (Installed ty block first second) i = ty ≡ 3 + i
IsInstalledAt _ i = ⊥

-- as a mount leaves it
pub record IsRemounted (value : WorldValue) : Type 0 where
  pub rests : (b : ℕ) (l : Life) → life_at value.state.lives b ≡ Some l → l.pending ≡ []
  pub newest : latest value.state.lives 0 ≡ block_of value.image 0
  pub types : (t : ℕ) → 3 ≤ t → t ≤ 5 → IsTrue (has_type (block_of value.image 0) t) → IsLibraryType (own_types value.state) t
