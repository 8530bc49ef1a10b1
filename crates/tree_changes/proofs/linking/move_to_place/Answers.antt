use Rattle.std.proofs.Common.{List, subst, ℕ}
use Rattle.tree_lines.specs.Answers.{Answers}
use Rattle.tree_changes.specs.Moving.{RenameIn}
use Rattle.tree_changes.proofs.linking.move_to_place.Goals as goal

pub returns-clause-does : goal.returns-clause-does
returns-clause-does g c =
    let before = c.args.opened.now in
    let after = c.make_name.new.self in
    let place = c.args.copied.now.place in
    subst (λ (name : List ℕ). Answers (RenameIn (g.S.Store.types_of before.session.store) before.folder place.folder name place.folder place.name.now
    (g.S.Store.state_of before.session.store) (g.S.Store.state_of after.session.store) before.session.volume after.session.volume) c.make_name.result)
    c.as_bytes.ensures.value c.make_name.ensures.does
