use Rattle.std.proofs.Common.{ap, true, false, ◌∙◌, sym}
use Rattle.std.specs.Prelude.{is_some}
use Rattle.ffs_model.specs.Cuts.{latest}
use Rattle.xnfs_session.proofs.Looks.{new_inode_blocks}
use Rattle.xnfs_session.proofs.session.inode_blocks.Goals as goal

pub returns-in-Some-clause-is : goal.returns-in-Some-clause-is
returns-in-Some-clause-is g c = λ library.
    sym (new_inode_blocks (latest (g.S.Store.state_of c.args.store.now).lives) c.args.fs.number c.in_ok-_root._root c.args.is_new c.in_ok-find_free.field-0 true c.if-is_new.true
    (ap is_some c.in-Some.is) c.in_ok-_root.ensures.exact (c.in_ok-find_free.ensures.exact library))

pub returns-in-None-clause-is : goal.returns-in-None-clause-is
returns-in-None-clause-is g c = λ library.
    sym (new_inode_blocks (latest (g.S.Store.state_of c.args.store.now).lives) c.args.fs.number c.in_ok-_root._root c.args.is_new c.in_ok-find_free.field-0 false c.if-is_new.true
    (ap is_some c.in-None.is) c.in_ok-_root.ensures.exact (c.in_ok-find_free.ensures.exact library))

pub returns-in_err-find_free-clause-is : goal.returns-in_err-find_free-clause-is
returns-in_err-find_free-clause-is g c = λ library.
    let root = c.in_ok-_root.ensures.exact in
    let none = c.in_err-find_free.ensures.exact library in
    absurd (let both = root ∙ sym none in cc)
