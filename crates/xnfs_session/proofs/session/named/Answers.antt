use Rattle.std.proofs.Common.{sym, ◌∙◌}
use Rattle.std.proofs.lemmas.Result.{err_from_is_err_and}
use Rattle.ffs_model.specs.Cuts.{latest}
use Rattle.ffs_lookup.specs.Newest.{first_named}
use Rattle.ffs_lookup.proofs.ForCallers.{badly_named, named_is, nothing_named, same_ok}
use Rattle.xnfs_session.proofs.session.named.Goals as goal

pub returns-in_err-found : goal.returns-in_err-found
returns-in_err-found g c = λ lib.
    let p = err_from_is_err_and c.from_residual.result c.from_residual.ensures.1 in
    rw (p.1, p.2) (nothing_named (latest (g.S.Store.state_of c.args.store.now).lives) c.args.fs.number c.args.directory c.args.name.now _ (c.in_err-found.ensures.exact lib))

pub returns-then-not-is_name : goal.returns-then-not-is_name
returns-then-not-is_name g c = λ lib.
    badly_named (latest (g.S.Store.state_of c.args.store.now).lives) c.args.fs.number c.args.directory c.args.name.now c.in_ok-found.found.inode (c.in_ok-found.ensures.exact lib) (sym c.if-not-is_name.ensures)

pub returns : goal.returns
returns g c = λ lib.
    c.ok_or.ensures.value
    ∙ named_is _ c.args.fs.number c.args.directory c.args.name.now _ _ (c.in_ok-found.ensures.exact lib) (sym c.if-not-is_name.ensures)
    (same_ok _ (first_named _ _ c.args.name.now) (c.in_ok-find_entry.ensures.exact lib))
