use Rattle.std.proofs.Common.{Ok, refl, rules, ◌∙◌, sym}
use Rattle.ffs_lib.proofs.Common.{files_of, latest}
use Rattle.ffs_lookup.specs.Files.{cleared}
use Rattle.ffs_lib.specs.Volumes.{edits_of}
use Rattle.ffs_lib.proofs.Laws.{staged}
use Rattle.ffs_lib.proofs.Removal.{unname_value}
use Rattle.ffs_lib.proofs.Staged.{takes_name}
use Rattle.ffs_lib.proofs.Tests.{never}
use Rattle.ffs_lib.proofs.volume.Volume.unname.Goals as goal

pub returns : goal.returns
returns g c =
    let volume = c.args.self.now in
    let lib = c.requires.library in
    let exact = c.in_ok-slot.ensures.exact lib in
    let f = unname_value _ _ _ _ _ _ exact in
    let s = staged c.requires volume.fs.few in
    let x = c.remove.ensures.ends _ (edits_of volume.added) refl s refl in
    let old = latest (g.S.Store.state_of c.args.store.now).lives in
    let r = takes_name _ lib _ volume.fs.few _ _ _ (Ok (tt, cleared (files_of old volume.fs.number) c.args.directory (f.entry.at, c.in_ok-slot.slot.inode))) _ (g.S.Store.state_of c.remove.new.store) c.requires.keeps.consistent x.0.keeps.consistent _ exact f
    refl c.remove.result x.1 (c.remove.ensures.order _ (edits_of volume.added) refl s refl) in
    record { types = search rules; refused = λ fault e. absurd (never _ fault (exact ∙ sym e)); inodes = r.inodes; order = r.order; keeps = record { library = lib; keeps = x.0.keeps } }
