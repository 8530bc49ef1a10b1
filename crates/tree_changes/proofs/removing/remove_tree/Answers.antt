use Rattle.std.proofs.Common.{inr, refl}
use Rattle.tree_changes.proofs.Emptied.{tree_removed}
use Rattle.tree_changes.proofs.removing.remove_tree.Goals as goal

pub returns-then-branch-clause-does : goal.returns-then-branch-clause-does
returns-then-branch-clause-does g c =
    let before = c.args.opened.now in
    let middle = c.empty_folder.new.opened in
    let after = c.end_folder.new.opened in
    let empties = c.in_ok-empty_folder.ensures in
    tree_removed (g.S.Store.types_of before.session.store) (g.S.Store.types_of middle.session.store) before.folder middle.folder empties.types empties.folder
    c.args.path.now c.args.number c.args.place.0 c.args.place.1.now before.told middle.told after.told c.end_folder.ensures.told
    (g.S.Store.state_of before.session.store) (g.S.Store.state_of middle.session.store) (g.S.Store.state_of after.session.store)
    before.session.volume middle.session.volume after.session.volume c.in_ok-empty_folder.field-0 c.if-branch.true empties.does c.end_folder.result
    c.end_folder.ensures.does

pub returns-else-branch-clause-does : goal.returns-else-branch-clause-does
returns-else-branch-clause-does g c =
    let middle = c.empty_folder.new.opened in (
      c.in_ok-empty_folder.field-0,
      g.S.Store.state_of middle.session.store,
      middle.session.volume,
      c.in_ok-empty_folder.ensures.does,
      inr (c.if-branch.false, (refl, refl)),
    )
