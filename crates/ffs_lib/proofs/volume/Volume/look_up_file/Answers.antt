use Rattle.std.proofs.Common.{Err, Ok}
use Rattle.ffs_lib.proofs.Common.{err_from_is_err_and, latest}
use Rattle.ffs_lib.proofs.Refusals.{unlink_is, unlink_nothing}
use Rattle.ffs_lib.proofs.volume.Volume.look_up_file.Goals as goal

pub returns-in_err-slot-clause-exact : goal.returns-in_err-slot-clause-exact
returns-in_err-slot-clause-exact g c = λ lib.
    let p = err_from_is_err_and c.from_residual.result c.from_residual.ensures.1 in
    rw (p.1, p.2) (unlink_nothing (latest (g.S.Store.state_of c.args.store.now).lives) c.args.self.now.fs.number c.args.directory c.args.name.now _ (c.in_err-slot.ensures.exact lib))

pub returns-in_err-find_file-clause-exact : goal.returns-in_err-find_file-clause-exact
returns-in_err-find_file-clause-exact g c = λ lib.
    let p = err_from_is_err_and c.from_residual-in_err-find_file.result c.from_residual-in_err-find_file.ensures.1 in
    rw (p.1, p.2) (unlink_is (latest (g.S.Store.state_of c.args.store.now).lives) c.args.self.now.fs.number c.args.directory c.args.name.now c.in_ok-slot.slot (Err c.in_err-find_file.field-0.0) (c.in_ok-slot.ensures.exact lib) (c.in_err-find_file.ensures.exact lib))

pub returns-clause-exact : goal.returns-clause-exact
returns-clause-exact g c = λ lib.
    unlink_is (latest (g.S.Store.state_of c.args.store.now).lives) c.args.self.now.fs.number c.args.directory c.args.name.now c.in_ok-slot.slot (Ok c.in_ok-find_file.field-0.inode) (c.in_ok-slot.ensures.exact lib) (c.in_ok-find_file.ensures.exact lib)
