-- What close does: the inodes that wait to be freed are, all is written, inode 0 says that the volume is closed, and that is written.
use Rattle.std.specs.Prelude.{◌≡◌, ◌⊎◌, true, Result, Ok, Err, MatchResult}
use Rattle.xn_model.specs.Lives.{StoreState}
use Rattle.xn_model.specs.Types.{Types}
use Rattle.store_types.specs.declared.refusal.Refusal.TheVariants.{NoMemory}
use Rattle.treefs_model.specs.declared.fault.Fault.{Fault}
use Rattle.treefs_model.specs.declared.fault.Fault.TheVariants.{Kernel}
use Rattle.treefs.specs.Reaping.{ReapDoes}
use Rattle.treefs.specs.declared.volume.Volume.{Volume}
use Rattle.treefs_mounts.specs.Flushing.{FlushesVolume, Marks}

-- all inodes that wait for it are freed
abbrev pub ReapsOrphans : Types → StoreState → StoreState → Volume → Volume → Result (Unit {0}) Fault → Type 0
ReapsOrphans T old new volume volume' result =
    ((result ≡ Err (Kernel NoMemory)) × (new ≡ old) × (volume' ≡ volume)) ⊎ ReapDoes T old new volume volume' volume.memory.orphans result

abbrev pub WritesAndMarks : Types → StoreState → StoreState → Volume → Volume → Result (Unit {0}) Fault → Type 0
WritesAndMarks T old new volume volume' result =
    MatchResult result (λ done. ⊥) (λ fault. FlushesVolume T old new volume volume' (Err fault))
    ⊎ ((middle : StoreState) × FlushesVolume T old middle volume volume' (Ok tt) × Marks T middle new volume' true result)

abbrev pub CloseDoes : Types → StoreState → StoreState → Volume → Volume → Result (Unit {0}) Fault → Type 0
CloseDoes T old new volume volume' result =
    MatchResult result (λ done. ⊥) (λ fault. ReapsOrphans T old new volume volume' (Err fault))
    ⊎ ((middle : StoreState) × (between : Volume) × ReapsOrphans T old middle volume between (Ok tt) × WritesAndMarks T middle new between volume' result)
