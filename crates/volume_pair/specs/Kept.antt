-- What is known of the file systems of a store, whether their volumes are open or not.
--     array_of volume             the numbers that an open volume keeps
--     HasLibrary T state          the store keeps its rules, and the library's types are installed
--     IsKept T state fs volume    a volume's rules hold for a file system
--     Lasts T old T' new          both hold on, the rules for every file system
--     Stays T old T' new          they do, where a store has the library
--     Recovers T old T' new       they hold after a crash
--     IsDevice event              no crash, and no call of a file system
use Rattle.std.specs.Prelude.{◌≡◌, ◌<◌, ℕ, length, Option, Some, None, IfSome, ⊤}
use Rattle.xn_state.specs.declared.event.Event.{Event}
use Rattle.xn_state.specs.declared.event.Event.TheVariants as event
use Rattle.xn_model.specs.Types.{Types}
use Rattle.xn_model.specs.Lives.{StoreState}
use Rattle.xn_model.specs.Rules.{IsConsistent}
use Rattle.ffs_model.specs.Volumes.{VolumeKeeps, no_edits}
use Rattle.ffs_model.specs.Library.{library_layout, IsLibrary}
use Rattle.ffs_lib.specs.Volumes.{edits_of}
use Rattle.ffs_lib.specs.declared.volume.Volume.{Volume}

abbrev pub array_of : Option Volume → ℕ → Option ℕ
array_of None = no_edits
array_of (Some volume) = edits_of volume.added

pub record HasLibrary (T : Types) (state : StoreState) : Type 0 where
  pub rules : IsConsistent T state
  pub library : IsLibrary T

pub record IsKept (T : Types) (state : StoreState) (fs : ℕ) (volume : Option Volume) : Type 0 where
  pub library : IsLibrary T
  pub few : fs < 32
  pub keeps : VolumeKeeps T library_layout fs (array_of volume) state
  pub mine : IfSome volume (λ v. v.fs.number ≡ fs)

pub record Lasts (T : Types) (old : StoreState) (T' : Types) (new : StoreState) : Type 0 where
  pub has : HasLibrary T' new
  pub keeps : (fs : ℕ) (array : ℕ → Option ℕ) → fs < 32 → VolumeKeeps T library_layout fs array old → VolumeKeeps T' library_layout fs array new

abbrev pub Stays : Types → StoreState → Types → StoreState → Type 0
Stays T old T' new = HasLibrary T old → Lasts T old T' new

-- after a crash they hold of volumes that are opened anew
pub record Recovers (T : Types) (old : StoreState) (T' : Types) (new : StoreState) : Type 0 where
  pub has : HasLibrary T' new
  pub kept : (fs : ℕ) (volume : Option Volume) → IsKept T old fs volume → IsKept T' new fs None

-- what the device does, and installations
abbrev pub IsDevice : Event → Type 0
IsDevice (event.Install bytes) = length bytes ≡ 512
IsDevice (event.Begin block) = ⊤
IsDevice (event.Land block) = ⊤
IsDevice (event.Fail block stays) = ⊤
IsDevice (event.Sync block) = ⊤
IsDevice (event.FailSync block) = ⊤
IsDevice (event.Finish block) = ⊤
IsDevice (event.Call fs call) = ⊥
IsDevice (event.Crash kept) = ⊥
