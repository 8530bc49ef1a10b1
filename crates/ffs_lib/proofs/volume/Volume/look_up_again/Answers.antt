use Rattle.std.proofs.Common.{Bool, Err, Ok, ap, sym, ◌∙◌, if◌then◌else◌}
use Rattle.ffs_lib.proofs.Common.{Exists, err_from_is_err_and, latest}
use Rattle.ffs_lib.proofs.Refusals.{unname_is, unname_nothing, unname_one}
use Rattle.ffs_lib.proofs.volume.Volume.look_up_again.Goals as goal

pub returns-in_err-slot-clause-exact : goal.returns-in_err-slot-clause-exact
returns-in_err-slot-clause-exact g c = λ lib.
    let p = err_from_is_err_and c.from_residual.result c.from_residual.ensures.1 in
    rw (p.1, p.2) (unname_nothing (latest (g.S.Store.state_of c.args.store.now).lives) c.args.self.now.fs.number c.args.directory c.args.name.now c.args.other.now _ (c.in_err-slot.ensures.exact lib))

pub returns-in_err-kept-clause-exact : goal.returns-in_err-kept-clause-exact
returns-in_err-kept-clause-exact g c = λ lib.
    let p = err_from_is_err_and c.from_residual-in_err-kept.result c.from_residual-in_err-kept.ensures.1 in
    rw (p.1, p.2) (unname_one (latest (g.S.Store.state_of c.args.store.now).lives) c.args.self.now.fs.number c.args.directory c.args.name.now c.args.other.now c.in_ok-slot.slot (Err c.in_err-kept.field-0.0) (c.in_ok-slot.ensures.exact lib) (c.in_err-kept.ensures.exact lib))

pub returns-in_err-find_directory-clause-exact : goal.returns-in_err-find_directory-clause-exact
returns-in_err-find_directory-clause-exact g c = λ lib.
    let p = err_from_is_err_and c.from_residual-in_err-find_directory.result c.from_residual-in_err-find_directory.ensures.1 in
    rw (p.1, p.2) (unname_is (latest (g.S.Store.state_of c.args.store.now).lives) c.args.self.now.fs.number c.args.directory c.args.name.now c.args.other.now c.in_ok-slot.slot c.in_ok-kept.kept (Err c.in_err-find_directory.field-0.0) (c.in_ok-slot.ensures.exact lib) (c.in_ok-kept.ensures.exact lib) (c.in_err-find_directory.ensures.exact lib))

pub returns-then-is_name_more-clause-exact : goal.returns-then-is_name_more-clause-exact
returns-then-is_name_more-clause-exact g c = λ lib.
    sym (ap (λ (x : Bool). if x then Ok c.in_ok-slot.slot else Err Exists) (sym c.is_name_more.ensures ∙ c.if-is_name_more.true))
    ∙ unname_is _ c.args.self.now.fs.number c.args.directory c.args.name.now c.args.other.now c.in_ok-slot.slot c.in_ok-kept.kept (Ok c.in_ok-find_directory.field-0.inode) (c.in_ok-slot.ensures.exact lib) (c.in_ok-kept.ensures.exact lib) (c.in_ok-find_directory.ensures.exact lib)

pub returns-else-is_name_more-clause-exact : goal.returns-else-is_name_more-clause-exact
returns-else-is_name_more-clause-exact g c = λ lib.
    sym (ap (λ (x : Bool). if x then Ok c.in_ok-slot.slot else Err Exists) (sym c.is_name_more.ensures ∙ c.if-is_name_more.false))
    ∙ unname_is _ c.args.self.now.fs.number c.args.directory c.args.name.now c.args.other.now c.in_ok-slot.slot c.in_ok-kept.kept (Ok c.in_ok-find_directory.field-0.inode) (c.in_ok-slot.ensures.exact lib) (c.in_ok-kept.ensures.exact lib) (c.in_ok-find_directory.ensures.exact lib)
