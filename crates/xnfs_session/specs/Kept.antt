-- What stays of volumes over a flush.
--     KeepsVolumes T old T' new    the library's types and the rules of every volume hold on
use Rattle.std.specs.Prelude.{ℕ, ◌<◌, Option}
use Rattle.xn_model.specs.Types.{Types}
use Rattle.xn_model.specs.Lives.{StoreState}
use Rattle.ffs_model.specs.Library.{library_layout, IsLibrary}
use Rattle.ffs_model.specs.Volumes.{VolumeKeeps}

abbrev pub KeepsVolumes : Types → StoreState → Types → StoreState → Type 0
KeepsVolumes T old T' new = (fs : ℕ) (array : ℕ → Option ℕ) → fs < 32 → IsLibrary T → VolumeKeeps T library_layout fs array old →
    IsLibrary T' × VolumeKeeps T' library_layout fs array new
