-- A session begins and ends.
--     IsOpened, IsNotOpened      what is pending is written, and then the volume is opened, or not
--     MendsVolume                the volume is opened and mended, of the crate below
--     Closes, IsNotClosed        the volume is closed, or not
use Rattle.std.specs.Prelude.{◌⊎◌, ℤ, Ok, Err}
use Rattle.edit_list.specs.declared.fs.Fs.{Fs}
use Rattle.xn_model.specs.Lives.{StoreState}
use Rattle.xn_model.specs.Types.{Types}
use Rattle.treefs_model.specs.declared.fault.Fault.{Fault}
use Rattle.treefs.specs.declared.block_types.BlockTypes.{BlockTypes}
use Rattle.treefs.specs.declared.volume.Volume.{Volume}
use Rattle.treefs_mounts.specs.Closing.{CloseDoes}
use Rattle.treefs_mounts.specs.Flushing.{Flushes}
use Rattle.treefs_mounts.specs.Opening.{OpenDoes}
pub use Rattle.treefs_mounts.specs.Opening.{MendsVolume}
use Rattle.treefs_session.specs.Tries.{Tries, most_tries}

abbrev pub IsOpened : Types → StoreState → StoreState → Fs → BlockTypes → ℤ → Volume → Type 0
IsOpened T old new fs types time volume = (flushed : StoreState) × Flushes old flushed (Ok tt) × OpenDoes T flushed new fs types time (Ok volume)

-- the store is given up
abbrev pub IsNotOpened : Types → StoreState → Fs → BlockTypes → ℤ → Fault → Type 0
IsNotOpened T old fs types time fault =
    ((left : StoreState) × Flushes old left (Err fault))
    ⊎ ((flushed : StoreState) × (left : StoreState) × Flushes old flushed (Ok tt) × OpenDoes T flushed left fs types time (Err fault))

abbrev pub Closes : Types → StoreState → StoreState → Volume → Type 0
Closes T old new volume = (volume' : Volume) × Tries (CloseDoes T) T most_tries old new volume volume' (Ok tt)

abbrev pub IsNotClosed : Types → StoreState → StoreState → Volume → Volume → Fault → Type 0
IsNotClosed T old new volume volume' fault = Tries (CloseDoes T) T most_tries old new volume volume' (Err fault)

abbrev pub with_clock : Volume → ℤ → Volume
with_clock volume time = record volume { memory = record volume.memory { clock = time } }
