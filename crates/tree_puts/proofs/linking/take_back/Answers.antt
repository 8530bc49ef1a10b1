use Rattle.std.proofs.Common.{ℕ, List, inr, subst}
use Rattle.tree_puts.specs.Actions.{Calls}
use Rattle.tree_puts.specs.Actions.Action.{unlinks}
use Rattle.tree_puts.proofs.Performed.{by_plan, one_done, some_answer}
use Rattle.tree_puts.proofs.linking.take_back.Goals as goal

pub returns-clause-does : goal.returns-clause-does
returns-clause-does g c =
    let before = c.args.volume.now in
    let T = g.S.Store.types_of before.session.store in
    let old = g.S.Store.state_of before.session.store in
    let after = c.make-unlinked.new.self in
    let directory = c.args.goods.place.folder in
    let result = c.make-unlinked.result in
    by_plan (one_done T before.folder old (g.S.Store.state_of after.session.store) before.session.volume after.session.volume
    (unlinks directory c.as_bytes.result.now) result c.make-unlinked.ensures.does)
    (λ actions so. inr (some_answer (unlinks directory c.args.name.now) result actions
    (subst (λ (l : List ℕ). Calls (unlinks directory l) result actions) c.as_bytes.ensures.value so)))
