use Rattle.std.proofs.Common.{List, [], ◌∷◌, is_some}
use Rattle.system_files.specs.Calls.{Rename, Step, Sync, Write, kept_steps}
use Rattle.system_files.proofs.Made.{goes_on, goes_once, goes_short, goes_well}
use Rattle.system_files.proofs.replacing.fill.Goals as goal

pub returns-in_err-keep_old : goal.returns-in_err-keep_old
returns-in_err-keep_old g c =
    let keep : List Step = kept_steps (is_some c.args.old.now) in
    let more : List Step = Write (g.S.Source.bytes_of c.args.source) ∷ Sync ∷ Rename c.args.beside.now c.args.path.now ∷ [] in
    goes_short keep more _ _ c.keep_old.result c.from_residual.result _ _ c.in_err-keep_old.was c.from_residual.ensures.1 c.keep_old.ensures

pub returns-in_err-write : goal.returns-in_err-write
returns-in_err-write g c =
    let keep : List Step = kept_steps (is_some c.args.old.now) in
    let write : List Step = Write (g.S.Source.bytes_of c.args.source) ∷ [] in
    let more : List Step = Sync ∷ Rename c.args.beside.now c.args.path.now ∷ [] in
    let kept = goes_well keep (g.Y.System.calls c.args.system.now) (g.Y.System.calls c.keep_old.new.system) c.keep_old.result _ c.in_ok-keep_old.was c.keep_old.ensures in
    let ends = goes_short write more (g.Y.System.calls c.keep_old.new.system) (g.Y.System.calls c.write.new.self) c.write.result c.from_residual-in_err-write.result _ _ c.in_err-write.was
    c.from_residual-in_err-write.ensures.1 (goes_once _ _ _ c.write.result c.write.ensures) in
    goes_on keep (Write (g.S.Source.bytes_of c.args.source) ∷ more) _ _ _ c.from_residual-in_err-write.result kept ends

pub returns-in_err-sync : goal.returns-in_err-sync
returns-in_err-sync g c =
    let keep : List Step = kept_steps (is_some c.args.old.now) in
    let write : List Step = Write (g.S.Source.bytes_of c.args.source) ∷ [] in
    let sync : List Step = Sync ∷ [] in
    let more : List Step = Rename c.args.beside.now c.args.path.now ∷ [] in
    let kept = goes_well keep (g.Y.System.calls c.args.system.now) (g.Y.System.calls c.keep_old.new.system) c.keep_old.result _ c.in_ok-keep_old.was c.keep_old.ensures in
    let written = goes_well write (g.Y.System.calls c.keep_old.new.system) (g.Y.System.calls c.write.new.self) c.write.result _ c.in_ok-write.was (goes_once _ _ _ c.write.result c.write.ensures) in
    let ends = goes_short sync more (g.Y.System.calls c.write.new.self) (g.Y.System.calls c.sync.new.self) c.sync.result c.from_residual-in_err-sync.result _ _ c.in_err-sync.was
    c.from_residual-in_err-sync.ensures.1 (goes_once _ _ _ c.sync.result c.sync.ensures) in
    goes_on keep (Write (g.S.Source.bytes_of c.args.source) ∷ Sync ∷ more) _ _ _ c.from_residual-in_err-sync.result kept
    (goes_on write (Sync ∷ more) _ _ _ c.from_residual-in_err-sync.result written ends)

pub returns : goal.returns
returns g c =
    let keep : List Step = kept_steps (is_some c.args.old.now) in
    let write : List Step = Write (g.S.Source.bytes_of c.args.source) ∷ [] in
    let sync : List Step = Sync ∷ [] in
    let more : List Step = Rename c.args.beside.now c.args.path.now ∷ [] in
    let kept = goes_well keep (g.Y.System.calls c.args.system.now) (g.Y.System.calls c.keep_old.new.system) c.keep_old.result _ c.in_ok-keep_old.was c.keep_old.ensures in
    let written = goes_well write (g.Y.System.calls c.keep_old.new.system) (g.Y.System.calls c.write.new.self) c.write.result _ c.in_ok-write.was (goes_once _ _ _ c.write.result c.write.ensures) in
    let synced = goes_well sync (g.Y.System.calls c.write.new.self) (g.Y.System.calls c.sync.new.self) c.sync.result _ c.in_ok-sync.was (goes_once _ _ _ c.sync.result c.sync.ensures) in
    goes_on keep (Write (g.S.Source.bytes_of c.args.source) ∷ Sync ∷ more) _ _ _ c.rename.result kept
    (goes_on write (Sync ∷ more) _ _ _ c.rename.result written
    (goes_on sync more _ _ _ c.rename.result synced (goes_once _ _ _ c.rename.result c.rename.ensures)))
