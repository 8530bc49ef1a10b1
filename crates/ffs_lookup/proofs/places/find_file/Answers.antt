use Rattle.std.proofs.Common.{sym, ◌∙◌, Err, Ok}
use Rattle.std.proofs.lemmas.Result.{err_from_is_err_and}
use Rattle.ffs_model.specs.Cuts.{latest}
use Rattle.ffs_lookup.proofs.Newest.{file_is, in_file, not_file}
use Rattle.ffs_lookup.proofs.places.find_file.Goals as goal

pub returns-in_err-found-clause-exact : goal.returns-in_err-found-clause-exact
returns-in_err-found-clause-exact g c = λ lib.
    let p = err_from_is_err_and c.from_residual.result c.from_residual.ensures.1 in
    rw (p.1, p.2) (in_file (latest (g.S.Store.state_of c.args.store.now).lives) c.args.fs.number c.args.number (Err c.in_err-found.field-0.0) (c.in_err-found.ensures.exact lib))

pub returns-else-mode-eq-DIRECTORY-clause-exact : goal.returns-else-mode-eq-DIRECTORY-clause-exact
returns-else-mode-eq-DIRECTORY-clause-exact g c = λ lib.
    file_is c.in_ok-found.found.inode (λ e. c.if-mode-eq-DIRECTORY.false (c.mode.ensures ∙ e))
    ∙ in_file (latest (g.S.Store.state_of c.args.store.now).lives) c.args.fs.number c.args.number (Ok c.in_ok-found.found.inode) (c.in_ok-found.ensures.exact lib)

pub returns-then-mode-eq-DIRECTORY-clause-exact : goal.returns-then-mode-eq-DIRECTORY-clause-exact
returns-then-mode-eq-DIRECTORY-clause-exact g c = λ lib.
    not_file c.in_ok-found.found.inode (sym c.mode.ensures ∙ c.if-mode-eq-DIRECTORY.true)
    ∙ in_file (latest (g.S.Store.state_of c.args.store.now).lives) c.args.fs.number c.args.number (Ok c.in_ok-found.found.inode) (c.in_ok-found.ensures.exact lib)
