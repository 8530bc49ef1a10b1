use Rattle.std.proofs.Common.{sym}
use Rattle.ffs_lib.proofs.Common.{err_from_is_err_and, latest}
use Rattle.ffs_lib.proofs.Creating.{none_left, one_left, pointer_left}
use Rattle.ffs_lib.proofs.volume.look_up_free.Goals as goal

pub returns-in_err-find_pointer-clause-exact : goal.returns-in_err-find_pointer-clause-exact
returns-in_err-find_pointer-clause-exact g c = λ lib root e.
    let h = c.in_err-find_pointer.ensures.exact root e in
    let p = err_from_is_err_and c.from_residual-in_err-find_pointer.result c.from_residual-in_err-find_pointer.ensures.1 in
    rw (p.1, p.2) (h.0, none_left (latest (g.S.Store.state_of c.args.store.now).lives) root c.in_ok-free.free (c.in_ok-free.ensures.exact lib root e) (sym c.if-is_none.ensures) h.1)

pub returns-in_ok-find_pointer-clause-exact : goal.returns-in_ok-find_pointer-clause-exact
returns-in_ok-find_pointer-clause-exact g c = λ lib root e.
    pointer_left (latest (g.S.Store.state_of c.args.store.now).lives) root c.in_ok-free.free (c.in_ok-free.ensures.exact lib root e) (sym c.if-is_none.ensures) (c.in_ok-find_pointer.ensures.exact root e)

pub returns-else-is_none-clause-exact : goal.returns-else-is_none-clause-exact
returns-else-is_none-clause-exact g c = λ lib root e.
    one_left (latest (g.S.Store.state_of c.args.store.now).lives) root c.in_ok-free.free (c.in_ok-free.ensures.exact lib root e) (sym c.if-is_none.ensures)
