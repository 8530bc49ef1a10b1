use Rattle.std.proofs.Common.{List, subst, ℕ}
use Rattle.tree_lines.specs.Answers.{Answers}
use Rattle.tree_changes.specs.Removing.{UnlinkIn}
use Rattle.tree_changes.proofs.NamesBeside.{some_answer}
use Rattle.tree_changes.proofs.linking.take_back.Goals as goal

pub returns-clause-does : goal.returns-clause-does
returns-clause-does g c =
    let before = c.args.opened.now in
    let after = c.make-unlinked.new.self in
    let T = g.S.Store.types_of before.session.store in
    let old = g.S.Store.state_of before.session.store in
    let new = g.S.Store.state_of after.session.store in
    let place = c.args.copied.now.place in
    let made = subst (λ (name : List ℕ). Answers (UnlinkIn T before.folder place.folder name old new before.session.volume after.session.volume)
    c.make-unlinked.result) c.as_bytes.ensures.value c.make-unlinked.ensures.does in
    some_answer (UnlinkIn T before.folder place.folder c.args.name.now old new before.session.volume after.session.volume) c.make-unlinked.result made
