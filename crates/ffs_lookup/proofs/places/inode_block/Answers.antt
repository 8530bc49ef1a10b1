use Rattle.std.proofs.Common.{◌∙◌, ap}
use Rattle.std.proofs.lemmas.Result.{err_from_is_err_and}
use Rattle.ffs_model.specs.Cuts.{latest, root}
use Rattle.ffs_lookup.specs.Newest.{unless_zero}
use Rattle.ffs_lookup.proofs.Newest.{in_root_block, no_root_block, not_ok, not_zero, zero_is}
use Rattle.ffs_lookup.proofs.places.inode_block.Goals as goal

pub returns-in_err-root-clause-exact : goal.returns-in_err-root-clause-exact
returns-in_err-root-clause-exact g c =
    let p = err_from_is_err_and c.from_residual.result c.from_residual.ensures.1 in
    rw (p.1, p.2) (no_root_block (latest (g.S.Store.state_of c.args.store.now).lives) c.args.fs.number c.args.index _ c.in_err-root.ensures.exact)

pub returns-in_err-read_block-clause-exact : goal.returns-in_err-read_block-clause-exact
returns-in_err-read_block-clause-exact g c = absurd (not_ok (c.in_err-read_block.ensures.reached 3 (root c.in_ok-root.ensures.root.at c.in_ok-root.ensures.root.there)))

pub returns-then-block-eq0-clause-exact : goal.returns-then-block-eq0-clause-exact
returns-then-block-eq0-clause-exact g c =
    zero_is c.pointer-block.result c.if-block-eq0.true
    ∙ (ap unless_zero c.pointer-block.ensures
    ∙ in_root_block (latest (g.S.Store.state_of c.args.store.now).lives) c.args.fs.number c.args.index c.in_ok-root.root c.in_ok-read_block.field-0.now c.in_ok-root.ensures.exact c.in_ok-read_block.ensures.bytes)

pub returns-else-block-eq0-clause-exact : goal.returns-else-block-eq0-clause-exact
returns-else-block-eq0-clause-exact g c =
    not_zero c.pointer-block.result c.if-block-eq0.false
    ∙ (ap unless_zero c.pointer-block.ensures
    ∙ in_root_block (latest (g.S.Store.state_of c.args.store.now).lives) c.args.fs.number c.args.index c.in_ok-root.root c.in_ok-read_block.field-0.now c.in_ok-root.ensures.exact c.in_ok-read_block.ensures.bytes)
