use Rattle.std.proofs.Common.{refl, rules}
use Rattle.ffs_lookup.proofs.ForCallers.{removed_ok, removed_told}
use Rattle.ffs_lib.specs.Volumes.{edits_of}
use Rattle.ffs_lib.proofs.Laws.{staged}
use Rattle.ffs_lib.proofs.Removal.{rmdir_value}
use Rattle.ffs_lib.proofs.Staged.{takes_name, takes_none}
use Rattle.ffs_lib.proofs.ValueMade.{directory_value}
use Rattle.ffs_lib.proofs.volume.Volume.rmdir.Goals as goal

pub returns : goal.returns
returns g c =
    let volume = c.args.self.now in
    let lib = c.requires.library in
    let exact = c.in_ok-slot.ensures.exact lib in
    let f = rmdir_value _ _ _ _ _ exact in
    let s = staged c.requires volume.fs.few in
    let x = c.remove.ensures.ends _ (edits_of volume.added) refl s refl in
    let r = takes_name _ lib _ volume.fs.few _ _ _ _ _ (g.S.Store.state_of c.remove.new.store) c.requires.keeps.consistent x.0.keeps.consistent _ exact f
    (removed_ok _ _ _ _ f.own _ (directory_value _ _ _ f.own f.is) f.entry exact) c.remove.result x.1 (c.remove.ensures.order _ (edits_of volume.added) refl s refl) in
    record { types = search rules; answers = r.answers; inodes = r.inodes; order = r.order; keeps = record { library = lib; keeps = x.0.keeps } }

pub returns-in_err-slot : goal.returns-in_err-slot
returns-in_err-slot g c =
    let r = takes_none (g.S.Store.types_of c.args.store.now) _ _ c.args.name.now _ _ _ _ (c.in_err-slot.ensures.exact c.requires.library) (removed_told _ _ _ _) c.from_residual.result c.from_residual.ensures.1 in
    record { types = search rules; answers = r.answers; inodes = r.inodes; order = r.order; keeps = search rules }
