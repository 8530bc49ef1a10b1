use Rattle.ffs_lib.proofs.Common.{new_file}
use Rattle.ffs_lib.proofs.BlocksOnce.{blocks_once}
use Rattle.ffs_lib.proofs.StagedNew.{created_does, created_makes, created_stays}
use Rattle.ffs_lib.proofs.ValueMade.{file_made}
use Rattle.ffs_lib.proofs.volume.Volume.create.Goals as goal

pub returns-clause-answers : goal.returns-clause-answers
returns-clause-answers g c =
    let fs = c.args.self.now.fs in
    created_does (g.S.Store.types_of c.args.store.now) c.requires.library fs.number fs.few c.args.directory c.args.name.now 1 new_file file_made _ _ c.make_entry.ensures.keeps.keeps.consistent c.make_entry.result c.make_entry.ensures.answers

pub returns-clause-inodes : goal.returns-clause-inodes
returns-clause-inodes g c = λ next e.
    let fs = c.args.self.now.fs in
    let once = blocks_once _ c.requires.library _ c.make_entry.ensures.keeps.keeps.consistent fs.number fs.few in (
      created_makes _ fs.number c.args.directory c.args.name.now 1 _ _ once new_file next e c.make_entry.result c.make_entry.ensures.answers,
      created_stays _ fs.number c.args.directory c.args.name.now 1 _ _ once new_file next e c.make_entry.result c.make_entry.ensures.answers,
    )
