use Rattle.std.proofs.Common.{inl, refl}
use Rattle.tree_lines.specs.Places.{IsFolder}
use Rattle.tree_changes.proofs.GoneThrough.{tree_set}
use Rattle.tree_changes.proofs.setting.set_one.Goals as goal
use Rattle.tree_changes.proofs.setting.set_one.Goals.{else-is_recursive-via-else-is_recursive, else-is_recursive-via-then-is_recursive+else-is_folder}

pub returns-then-is_folder-clause-below : goal.returns-then-is_folder-clause-below
returns-then-is_folder-clause-below g c =
    let before = c.args.opened.now in
    let middle = c.set_node.new.opened in
    let after = c.set_below.new.opened in
    let set = c.in_ok-set_node.ensures in
    λ recursive. tree_set c.args.setting.now (g.S.Store.types_of before.session.store) (g.S.Store.types_of middle.session.store) before.folder middle.folder
    set.types set.folder c.args.path.now before.told middle.told after.told set.told (g.S.Store.state_of before.session.store)
    (g.S.Store.state_of middle.session.store) (g.S.Store.state_of after.session.store) before.session.volume middle.session.volume after.session.volume
    c.in_ok-node.node c.in_ok-node.ensures set.does (c.if-is_folder.ensures.0 refl) c.set_below.result c.set_below.ensures.ends c.set_below.ensures.does

pub returns-clause-below : goal.returns-clause-below
returns-clause-below g c =
    let middle = c.set_node.new.opened in
    let set = c.in_ok-set_node.ensures in
    λ recursive.
    let other : ¬ IsFolder c.in_ok-node.node = elim c.else-is_recursive.branch [
      | else-is_recursive-via-then-is_recursive+else-is_folder w ↦ λ folder. let wrong = w.if-is_folder.ensures.1 folder in cc
      | else-is_recursive-via-else-is_recursive w ↦ λ folder. let wrong = w.if-is_recursive.false in cc
    ] in
    (c.in_ok-node.node, g.S.Store.state_of middle.session.store, middle.session.volume, c.in_ok-node.ensures, set.does, inl (other, (refl, refl), set.told))
