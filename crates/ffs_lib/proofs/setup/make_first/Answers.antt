use Rattle.std.proofs.Common.{◌≡◌, ◌∙◌, subst, OnErr}
use Rattle.ffs_lib.proofs.Common.{Types, init_of}
use Rattle.ffs_lookup.proofs.ForCallers.{gives_err}
use Rattle.ffs_lib.specs.Making.{top_inodes, without_block}
use Rattle.ffs_lib.proofs.Laws.{begins_by, begins_err, told_by}
use Rattle.ffs_lib.proofs.Making.{first_begun, first_made, first_stage, not_begun, still_found}
use Rattle.ffs_lib.proofs.NewOrder.{made_order}
use Rattle.ffs_lib.proofs.setup.make_first.Goals as goal

pub returns-in_err-block-clause-ends : goal.returns-in_err-block-clause-ends
returns-in_err-block-clause-ends g c = λ T e s found.
    let fs = c.args.fs.number in
    let zeroth = g.S.Store.state_of c.args.store.now in
    let new = g.S.Store.state_of c.init.new.self in
    let given = begins_err (g.S.Store.types_of c.args.store.now) T fs 4 c.first_inodes.result top_inodes zeroth new _ e c.first_inodes.ensures.exact c.in_err-block.ensures.state in
    not_begun T fs zeroth s new (gives_err (init_of T zeroth fs 4 top_inodes) zeroth new _ given) _ (told_by (init_of T zeroth fs 4 top_inodes) zeroth new _ given) c.from_residual.result c.from_residual.ensures.1

pub returns-clause-ends : goal.returns-clause-ends
returns-clause-ends g c = λ T e s found.
    let fs = c.args.fs.number in
    let zeroth = g.S.Store.state_of c.args.store.now in
    let second = g.S.Store.state_of c.attach_first-attached.new.store in
    let new = g.S.Store.state_of c.forgotten.new.store in
    let number = c.in_ok-block.field-0-1 in
    let done = begins_by (g.S.Store.types_of c.args.store.now) T fs 4 c.first_inodes.result top_inodes zeroth _ (c.in_ok-block.block, number) e c.first_inodes.ensures.exact c.in_ok-block.ensures.state in
    let types = c.init.ensures.types ∙ e in
    first_made T fs zeroth s _ number _ done second new c.attach_first-attached.result c.forgotten.result
    (c.attach_first-attached.ensures.ends T types (first_stage T fs zeroth s _ number _ done) (still_found T fs zeroth s _ number _ done c.args.begun found) (first_begun T fs zeroth s _ number _ done))
    c.forgotten.ensures.same c.forgotten.ensures.ok
    (subst (λ (t : Types). OnErr c.forgotten.result (new ≡ without_block t fs c.in_ok-block.block second)) (c.attach_first-attached.ensures.types ∙ types) c.forgotten.ensures.forgotten)

pub returns-clause-order : goal.returns-clause-order
returns-clause-order g c = λ T e s found.
    let fs = c.args.fs.number in
    let zeroth = g.S.Store.state_of c.args.store.now in
    let number = c.in_ok-block.field-0-1 in
    let done = begins_by (g.S.Store.types_of c.args.store.now) T fs 4 c.first_inodes.result top_inodes zeroth _ (c.in_ok-block.block, number) e c.first_inodes.ensures.exact c.in_ok-block.ensures.state in
    made_order T fs _ number zeroth _ (g.S.Store.state_of c.attach_first-attached.new.store) (g.S.Store.state_of c.forgotten.new.store) done c.attach_first-attached.result c.forgotten.result c.forgotten.ensures.same
    (c.attach_first-attached.ensures.order T (c.init.ensures.types ∙ e) (first_stage T fs zeroth s _ number _ done) (still_found T fs zeroth s _ number _ done c.args.begun found) (first_begun T fs zeroth s _ number _ done))
    c.forgotten.ensures.ok
