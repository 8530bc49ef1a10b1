use Rattle.tree_changes.specs.Files.{TruncateIn}
use Rattle.tree_changes.proofs.Changing.{changed_answered}
use Rattle.tree_changes.proofs.times.truncate_one.Goals as goal

pub returns-clause-does : goal.returns-clause-does
returns-clause-does g c =
    let before = c.args.opened.now in
    let between = c.find_or_create.new.opened in
    let after = c.make.new.self in
    let found = c.in_ok-number in
    changed_answered (TruncateIn c.args.size) (g.S.Store.types_of before.session.store) (g.S.Store.types_of between.session.store) before.folder between.folder
    found.ensures.types found.ensures.folder c.args.path.now (g.S.Store.state_of before.session.store) (g.S.Store.state_of between.session.store)
    (g.S.Store.state_of after.session.store) before.session.volume between.session.volume after.session.volume found.number found._is_new found.ensures.does
    c.make.result c.make.ensures.does
