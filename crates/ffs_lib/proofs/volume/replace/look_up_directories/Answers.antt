use Rattle.std.proofs.Common.{sym}
use Rattle.ffs_lib.proofs.Common.{err_from_is_err_and}
use Rattle.ffs_lib.proofs.Replacing.{both_are_found, no_home, no_target, one_is_file, one_is_no_name}
use Rattle.ffs_lib.proofs.volume.replace.look_up_directories.Goals as goal

pub returns-in_err-from-clause-exact : goal.returns-in_err-from-clause-exact
returns-in_err-from-clause-exact g c = λ lib.
    let p = err_from_is_err_and c.from_residual.result c.from_residual.ensures.1 in
    rw (p.1, p.2) (no_home _ c.args.fs.number c.args.directory c.args.name.now c.args.other c.args.other_name.now _ (c.in_err-from.ensures.exact lib))

pub returns-in_err-to-clause-exact : goal.returns-in_err-to-clause-exact
returns-in_err-to-clause-exact g c = λ lib.
    let p = err_from_is_err_and c.from_residual-in_err-to.result c.from_residual-in_err-to.ensures.1 in
    rw (p.1, p.2) (no_target _ c.args.fs.number c.args.directory c.args.name.now c.args.other c.args.other_name.now c.in_ok-from.from.inode (c.in_ok-from.ensures.exact lib) _ (c.in_err-to.ensures.exact lib))

pub returns-then-not-are_directories-clause-exact : goal.returns-then-not-are_directories-clause-exact
returns-then-not-are_directories-clause-exact g c = λ lib.
    one_is_file _ c.args.fs.number c.args.directory c.args.name.now c.args.other c.args.other_name.now c.in_ok-from.from.inode (c.in_ok-from.ensures.exact lib) c.in_ok-to.to.inode (c.in_ok-to.ensures.exact lib) (sym c.if-not-are_directories.ensures)

pub returns-then-not-are_names-clause-exact : goal.returns-then-not-are_names-clause-exact
returns-then-not-are_names-clause-exact g c = λ lib.
    one_is_no_name _ c.args.fs.number c.args.directory c.args.name.now c.args.other c.args.other_name.now c.in_ok-from.from.inode (c.in_ok-from.ensures.exact lib) c.in_ok-to.to.inode (c.in_ok-to.ensures.exact lib) (sym c.if-not-are_directories.ensures) (sym c.if-not-are_names.ensures)

pub returns-clause-exact : goal.returns-clause-exact
returns-clause-exact g c = λ lib.
    both_are_found _ c.args.fs.number c.args.directory c.args.name.now c.args.other c.args.other_name.now c.in_ok-from.from.inode (c.in_ok-from.ensures.exact lib) c.in_ok-to.to.inode (c.in_ok-to.ensures.exact lib) (sym c.if-not-are_directories.ensures) (sym c.if-not-are_names.ensures)
