use Rattle.std.proofs.Common.{Err, Ok, ◌∙◌}
use Rattle.ffs_lib.proofs.Common.{err_from_is_err_and, latest}
use Rattle.ffs_lib.proofs.Refusals.{entries_left, none_left, rmdir_is, rmdir_nothing}
use Rattle.ffs_lib.proofs.volume.Volume.look_up_empty.Goals as goal

pub returns-in_err-slot-clause-exact : goal.returns-in_err-slot-clause-exact
returns-in_err-slot-clause-exact g c = λ lib.
    let p = err_from_is_err_and c.from_residual.result c.from_residual.ensures.1 in
    rw (p.1, p.2) (rmdir_nothing (latest (g.S.Store.state_of c.args.store.now).lives) c.args.self.now.fs.number c.args.directory c.args.name.now _ (c.in_err-slot.ensures.exact lib))

pub returns-in_err-found-clause-exact : goal.returns-in_err-found-clause-exact
returns-in_err-found-clause-exact g c = λ lib.
    let p = err_from_is_err_and c.from_residual-in_err-found.result c.from_residual-in_err-found.ensures.1 in
    rw (p.1, p.2) (rmdir_is (latest (g.S.Store.state_of c.args.store.now).lives) c.args.self.now.fs.number c.args.directory c.args.name.now c.in_ok-slot.slot (Err c.in_err-found.field-0.0) (c.in_ok-slot.ensures.exact lib) (c.in_err-found.ensures.exact lib))

pub returns-then-not-branch-clause-exact : goal.returns-then-not-branch-clause-exact
returns-then-not-branch-clause-exact g c = λ lib.
    let inode = c.in_ok-found.found.inode in
    entries_left _ _ inode c.in_ok-is_empty.field-0 (c.in_ok-is_empty.ensures c.in_ok-slot.slot.inode lib c.in_ok-found.ensures.found) c.if-not-branch.true
    ∙ rmdir_is _ c.args.self.now.fs.number c.args.directory c.args.name.now _ (Ok inode) (c.in_ok-slot.ensures.exact lib) (c.in_ok-found.ensures.exact lib)

pub returns-clause-exact : goal.returns-clause-exact
returns-clause-exact g c = λ lib.
    let inode = c.in_ok-found.found.inode in
    none_left _ _ inode c.in_ok-is_empty.field-0 (c.in_ok-is_empty.ensures c.in_ok-slot.slot.inode lib c.in_ok-found.ensures.found) c.if-not-branch.false
    ∙ rmdir_is _ c.args.self.now.fs.number c.args.directory c.args.name.now _ (Ok inode) (c.in_ok-slot.ensures.exact lib) (c.in_ok-found.ensures.exact lib)
