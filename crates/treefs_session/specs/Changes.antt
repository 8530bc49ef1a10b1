-- What a call does that answers nothing.
--     ChangeDoes     it changes names, sizes, attributes or times
--     UpkeepDoes     it frees what no name leads to, or writes all
use Rattle.std.specs.Prelude.{◌≡◌, Result}
use Rattle.xn_model.specs.Lives.{StoreState}
use Rattle.xn_model.specs.Types.{Types}
use Rattle.treefs.specs.Linking.{LinkDoes}
use Rattle.treefs.specs.Reaping.{ReapDoes}
use Rattle.treefs.specs.Renaming.{RenameDoes}
use Rattle.treefs.specs.Setting.{AttributesDoes, MtimeDoes}
use Rattle.treefs.specs.Sizing.{TruncateDoes}
use Rattle.treefs.specs.Unlinking.{RmdirDoes, UnlinkDoes}
use Rattle.treefs.specs.declared.volume.Volume.{Volume}
use Rattle.treefs_model.specs.declared.fault.Fault.{Fault}
use Rattle.treefs_mounts.specs.Closing.{CloseDoes}
use Rattle.treefs_mounts.specs.Flushing.{FlushesVolume}
use Rattle.treefs_session.specs.declared.calls.changes.Change.{Change}
use Rattle.treefs_session.specs.declared.calls.changes.Change.TheVariants as changes
use Rattle.treefs_session.specs.declared.calls.lives.Upkeep.{Upkeep}
use Rattle.treefs_session.specs.declared.calls.lives.Upkeep.TheVariants as upkeep

abbrev pub ChangeDoes : Change → Types → StoreState → StoreState → Volume → Volume → Result (Unit {0}) Fault → Type 0
ChangeDoes (changes.Unlink directory name) T old new volume volume' result = UnlinkDoes T old new volume volume' directory name.now result
ChangeDoes (changes.Rmdir directory name) T old new volume volume' result = RmdirDoes T old new volume volume' directory name.now result
ChangeDoes (changes.Link number directory name) T old new volume volume' result = LinkDoes T old new volume volume' number directory name.now result
ChangeDoes (changes.Rename directory name to_directory to) T old new volume volume' result =
    RenameDoes T old new volume volume' directory name.now to_directory to.now result
ChangeDoes (changes.Truncate number size) T old new volume volume' result = TruncateDoes T old new volume volume' number size result
ChangeDoes (changes.SetAttributes number settings) T old new volume volume' result = AttributesDoes T old new volume volume' number settings result
ChangeDoes (changes.SetMtime number mtime) T old new volume volume' result = MtimeDoes old volume volume' number mtime result × (new ≡ old)

abbrev pub UpkeepDoes : Upkeep → Types → StoreState → StoreState → Volume → Volume → Result (Unit {0}) Fault → Type 0
UpkeepDoes (upkeep.Reap numbers) T old new volume volume' result = ReapDoes T old new volume volume' numbers.now result
UpkeepDoes upkeep.Flush T old new volume volume' result = FlushesVolume T old new volume volume' result
UpkeepDoes upkeep.Close T old new volume volume' result = CloseDoes T old new volume volume' result
