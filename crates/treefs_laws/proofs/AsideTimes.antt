-- Times that were only touched are written: an inode that has no number has none still.
use Rattle.std.proofs.Common.{◌≡◌, Result, subst}
use Rattle.xn_model.specs.Types.{Types}
use Rattle.xn_model.specs.Lives.{StoreState}
use Rattle.treefs_lookup.specs.Readable.{readable}
use Rattle.treefs_edits.specs.declared.tree.Tree.{Tree}
use Rattle.treefs_model.specs.declared.fault.Fault.{Fault}
use Rattle.treefs.specs.WritingTimes.{WriteTimesDoes}
use Rattle.treefs.specs.declared.volume.Volume.{Volume}
use Rattle.treefs_values.specs.Kinds.{kinds}
use Rattle.treefs_values.specs.Volumes.{IsVolume}
use Rattle.treefs_laws.specs.Kept.{files_in}
use Rattle.treefs_laws.specs.Open.{IsOpen}
use Rattle.treefs_laws.specs.Unnamed.{KeepsUnnamed}
use Rattle.treefs_laws.proofs.AsideVolume.{steady_keeps, unnamed_kept}
use Rattle.treefs_laws.proofs.TimesWritten.{times_said, times_steady}

pub times_keep : (T : Types) (old new : StoreState) (volume volume' : Volume) (result : Result (Unit {0}) Fault) → IsOpen T old volume →
    WriteTimesDoes T old new volume volume' result →
    IsOpen T new volume' × (files_in new volume' ≡ files_in old volume) × KeepsUnnamed old new volume volume'
times_keep T old new volume volume' result is_open does =
    let steady = times_steady T old new volume volume' is_open result does in
    let said = times_said T old new volume volume' is_open result does in
    let bytes : IsVolume volume.tree.node_type volume.tree.inode_type (kinds new volume.tree.fs.number) (readable new volume.tree.fs.number) volume.tree.top =
    subst (λ (t : Tree). IsVolume t.node_type t.inode_type (kinds new t.fs.number) (readable new t.fs.number) t.top) steady.1 (said.0).kept.bytes in
    (said.0, said.1, unnamed_kept T old new volume volume' is_open steady.1 (steady_keeps volume.tree old new steady.0.0 steady.0.1 steady.0.2 bytes))
