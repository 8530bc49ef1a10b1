use Rattle.std.proofs.Common.{inl, refl}
use Rattle.tree_changes.proofs.CopiedBytes.{ended}
use Rattle.tree_changes.proofs.copies.copy_rest.Goals as goal

pub returns-then-at-size-clause-does : goal.returns-then-at-size-clause-does
returns-then-at-size-clause-does g c =
    let after = c.copy_stretches.new.opened in (
      c.in_ok-at.at,
      g.S.Store.state_of after.session.store,
      after.session.volume,
      c.in_ok-at.ensures.does,
      inl (c.if-at-size.true, (refl, refl), refl),
    )

pub returns-clause-does : goal.returns-clause-does
returns-clause-does g c =
    let before = c.args.opened.now in
    let between = c.copy_stretches.new.opened in
    let after = c.write_all.new.self in
    let copied = c.in_ok-at in
    ended (g.S.Store.types_of before.session.store) (g.S.Store.types_of between.session.store) before.folder between.folder copied.ensures.types
    copied.ensures.folder _ c.args.block c.args.copied.now.node copied.at (g.S.Store.state_of before.session.store)
    (g.S.Store.state_of between.session.store) (g.S.Store.state_of after.session.store) before.session.volume between.session.volume
    after.session.volume copied.ensures.does c.if-at-size.false c.write_all.result c.write_all.ensures.does
