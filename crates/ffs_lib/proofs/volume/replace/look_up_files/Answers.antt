use Rattle.std.proofs.Common.{sym}
use Rattle.ffs_lib.proofs.Common.{err_from_is_err_and}
use Rattle.ffs_lib.proofs.Replacing.{both_are_files, no_former, no_moved}
use Rattle.ffs_lib.proofs.volume.replace.look_up_files.Goals as goal

pub returns-in_err-moved : goal.returns-in_err-moved
returns-in_err-moved g c = λ lib.
    let p = err_from_is_err_and c.from_residual.result c.from_residual.ensures.1 in
    rw (p.1, p.2) (no_moved _ c.args.fs.number c.args.from c.args.to _ (c.in_err-moved.ensures.exact lib))

pub returns-in_err-find_file : goal.returns-in_err-find_file
returns-in_err-find_file g c = λ lib.
    let p = err_from_is_err_and c.from_residual-in_err-find_file.result c.from_residual-in_err-find_file.ensures.1 in
    rw (p.1, p.2) (no_former _ c.args.fs.number c.args.from c.args.to c.in_ok-moved.moved.inode (c.in_ok-moved.ensures.exact lib) _ (c.in_err-find_file.ensures.exact lib))

pub returns-then-is_full_for : goal.returns-then-is_full_for
returns-then-is_full_for g c = λ lib.
    both_are_files _ c.args.fs.number c.args.from c.args.to c.in_ok-moved.moved.inode (c.in_ok-moved.ensures.exact lib) c.in_ok-find_file.field-0.inode (c.in_ok-find_file.ensures.exact lib) _ (sym c.if-is_full_for.ensures)

pub returns : goal.returns
returns g c = λ lib.
    both_are_files _ c.args.fs.number c.args.from c.args.to c.in_ok-moved.moved.inode (c.in_ok-moved.ensures.exact lib) c.in_ok-find_file.field-0.inode (c.in_ok-find_file.ensures.exact lib) _ (sym c.if-is_full_for.ensures)
