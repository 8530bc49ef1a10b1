use Rattle.std.proofs.Common.{◌≡◌, ◌∙◌, refl, subst, OnErr}
use Rattle.ffs_lib.proofs.Common.{Types, zero_block}
use Rattle.ffs_lib.specs.Making.{without_block}
use Rattle.ffs_lib.proofs.Laws.{begins_by}
use Rattle.ffs_lib.proofs.Making.{root_follows, root_refused, root_set}
use Rattle.ffs_lib.proofs.setup.make_root.Goals as goal

pub returns-in_err-block-clause-rooted : goal.returns-in_err-block-clause-rooted
returns-in_err-block-clause-rooted g c = λ T e.
    root_refused (g.S.Store.types_of c.args.store.now) T c.args.fs.number (g.S.Store.state_of c.args.store.now) (g.S.Store.state_of c.init.new.self) _ c.from_residual.result e c.in_err-block.ensures.state c.from_residual.ensures.1

pub returns-clause-rooted : goal.returns-clause-rooted
returns-clause-rooted g c = λ T e.
    let second = g.S.Store.state_of c.make_root.new.self in
    let third = g.S.Store.state_of c.forgotten.new.store in
    root_follows T c.args.fs.number (g.S.Store.state_of c.args.store.now) _ second third _ c.in_ok-block.field-0-1
    (begins_by (g.S.Store.types_of c.args.store.now) T _ 3 zero_block zero_block (g.S.Store.state_of c.args.store.now) _ (c.in_ok-block.block, c.in_ok-block.field-0-1) e refl c.in_ok-block.ensures.state)
    c.map_err-made.result c.forgotten.result (root_set _ _ second c.make_root.result c.map_err-made.result c.make_root.ensures.state c.map_err-made.ensures.cases) c.forgotten.ensures.same c.forgotten.ensures.ok
    (subst (λ (t : Types). OnErr c.forgotten.result (third ≡ without_block t c.args.fs.number c.in_ok-block.block second)) (c.make_root.ensures.types ∙ (c.init.ensures.types ∙ e)) c.forgotten.ensures.forgotten)
