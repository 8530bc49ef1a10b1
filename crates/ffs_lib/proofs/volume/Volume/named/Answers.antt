use Rattle.std.proofs.Common.{sym, ◌∙◌}
use Rattle.ffs_lib.proofs.Common.{IsSlot, err_from_is_err_and, first_named, latest}
use Rattle.ffs_lib.proofs.Kept.{on_ok}
use Rattle.ffs_lookup.proofs.ForCallers.{badly_named, if_some_ok, named_is, nothing_named, same_ok}
use Rattle.ffs_lib.proofs.volume.Volume.named.Goals as goal

pub returns-in_err-found-clause-exact : goal.returns-in_err-found-clause-exact
returns-in_err-found-clause-exact g c = λ lib.
    let p = err_from_is_err_and c.from_residual.result c.from_residual.ensures.1 in
    rw (p.1, p.2) (nothing_named (latest (g.S.Store.state_of c.args.store.now).lives) c.args.self.now.fs.number c.args.directory c.args.name.now _ (c.in_err-found.ensures.exact lib))

pub returns-then-not-is_name-clause-exact : goal.returns-then-not-is_name-clause-exact
returns-then-not-is_name-clause-exact g c = λ lib.
    badly_named (latest (g.S.Store.state_of c.args.store.now).lives) c.args.self.now.fs.number c.args.directory c.args.name.now c.in_ok-found.found.inode (c.in_ok-found.ensures.exact lib) (sym c.if-not-is_name.ensures)

pub returns-clause-slot : goal.returns-clause-slot
returns-clause-slot g c = if_some_ok (λ slot. IsSlot (g.S.Store.state_of c.args.store.now) c.args.self.now.fs.number slot) c.in_ok-find_entry.field-0 c.ok_or.result _ c.ok_or.ensures.value c.in_ok-find_entry.ensures.slot

pub returns-clause-exact : goal.returns-clause-exact
returns-clause-exact g c = λ lib.
    c.ok_or.ensures.value
    ∙ named_is _ c.args.self.now.fs.number c.args.directory c.args.name.now _ _ (c.in_ok-found.ensures.exact lib) (sym c.if-not-is_name.ensures)
    (same_ok _ (first_named _ _ c.args.name.now) (c.in_ok-find_entry.ensures.exact lib))

pub returns-clause-directory : goal.returns-clause-directory
returns-clause-directory g c = on_ok c.ok_or.result (c.in_ok-found.found, c.in_ok-found.ensures.found, c.in_ok-found.ensures.exact)
