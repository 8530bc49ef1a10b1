use Rattle.tree_puts.proofs.Foldered.{folder_made}
use Rattle.tree_puts.proofs.tree_in.new_folder.Goals as goal

pub returns-clause-does : goal.returns-clause-does
returns-clause-does g c =
    let before = c.args.volume.now in
    let after = c.make_name.new.self in
    folder_made (g.S.Store.types_of before.session.store) before.folder (g.S.Store.state_of before.session.store) (g.S.Store.state_of after.session.store)
    before.session.volume after.session.volume c.args.goods c.new_attributes-attributes.result c.new_attributes-attributes.ensures.rights c.make_name.result
    c.make_name.ensures.does
