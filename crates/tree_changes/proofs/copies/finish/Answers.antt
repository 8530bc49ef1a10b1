use Rattle.tree_changes.proofs.BegunCopies.{finished}
use Rattle.tree_changes.proofs.copies.finish.Goals as goal

pub returns-clause-does : goal.returns-clause-does
returns-clause-does g c =
    let before = c.args.opened.now in
    let between = c.copy_rest.new.opened in
    let after = c.make_name.new.self in
    let copied = c.in_ok-copy_rest.ensures in
    let place = c.args.copied.now.place in
    finished (g.S.Store.types_of before.session.store) (g.S.Store.types_of between.session.store) before.folder between.folder copied.types
    copied.folder _ c.args.copied.now.node place.folder place.name.now c.args.block (g.S.Store.state_of before.session.store)
    (g.S.Store.state_of between.session.store) (g.S.Store.state_of after.session.store) before.session.volume between.session.volume
    after.session.volume copied.does c.make_name.result c.make_name.ensures.does
