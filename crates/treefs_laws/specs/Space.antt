-- Calls that find no space.
--     LacksSpace      the store has no block that is free, or the volume no number
--     LeavesFiles     the session is as it was, the volume is open, its files are as before, and inodes without a number have none
use Rattle.std.specs.Prelude.{◌≡◌, ◌⊎◌}
use Rattle.xn_model.specs.Lives.{StoreState}
use Rattle.xn_model.specs.Types.{Types}
use Rattle.treefs_model.specs.declared.fault.Fault.{Fault}
use Rattle.treefs_model.specs.declared.fault.Fault.TheVariants.{NoInode, NoSpace}
use Rattle.treefs.specs.declared.volume.Volume.{Volume}
use Rattle.treefs_laws.specs.Kept.{files_in}
use Rattle.treefs_laws.specs.Open.{IsOpen}
use Rattle.treefs_laws.specs.Unnamed.{KeepsUnnamed}

abbrev pub LacksSpace : Fault → Type 0
LacksSpace fault = (fault ≡ NoSpace) ⊎ (fault ≡ NoInode)

abbrev pub LeavesFiles : Types → StoreState → StoreState → Volume → Volume → Type 0
LeavesFiles T state state' volume volume' =
    (volume' ≡ volume) × IsOpen T state' volume' × (files_in state' volume' ≡ files_in state volume) × KeepsUnnamed state state' volume volume'
