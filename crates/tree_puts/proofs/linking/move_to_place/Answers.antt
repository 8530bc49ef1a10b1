use Rattle.std.proofs.Common.{◌∙◌, ℕ, List, Result, Ok, Err, refl, subst, sym}
use Rattle.std.specs.Prelude.{IsErr, IsOk}
use Rattle.tree_puts.specs.Actions.{Calls}
use Rattle.tree_puts.specs.Actions.Action.{renames}
use Rattle.tree_puts.specs.Linking.{TakesBack}
use Rattle.tree_puts.proofs.Performed.{by_plan, else_done, one_done, stays_done}
use Rattle.tree_puts.proofs.linking.move_to_place.Goals as goal

ok_of : {A E : Type 0} (result : Result A E) → (IsErr result → ⊥) → IsOk result
ok_of (Ok answer) not = refl
ok_of (Err fault) not = absurd (not refl)

pub returns-then-is_err-clause-does : goal.returns-then-is_err-clause-does
returns-then-is_err-clause-does g c =
    let before = c.args.volume.now in
    let T = g.S.Store.types_of before.session.store in
    let old = g.S.Store.state_of before.session.store in
    let after = c.make_name-done.new.self in
    let call = renames c.args.goods.place.folder c.args.name.now c.args.goods.place.name.now in
    else_done (Calls call) (TakesBack c.args.goods c.args.name.now) c.make_name-done.result (sym c.is_err.ensures.value ∙ c.if-is_err.true)
    (by_plan (one_done T before.folder old (g.S.Store.state_of after.session.store) before.session.volume after.session.volume
    (renames c.args.goods.place.folder c.as_bytes.result.now c.args.goods.place.name.now) c.make_name-done.result c.make_name-done.ensures.does)
    (λ actions so. subst (λ (l : List ℕ). Calls (renames c.args.goods.place.folder l c.args.goods.place.name.now) c.make_name-done.result actions)
    c.as_bytes.ensures.value so)) c.make_name-done.ensures.types c.make_name-done.ensures.folder c.take_back.ensures.does

pub returns-else-is_err-clause-does : goal.returns-else-is_err-clause-does
returns-else-is_err-clause-does g c =
    let before = c.args.volume.now in
    let T = g.S.Store.types_of before.session.store in
    let old = g.S.Store.state_of before.session.store in
    let after = c.make_name-done.new.self in
    let call = renames c.args.goods.place.folder c.args.name.now c.args.goods.place.name.now in
    stays_done (Calls call) (TakesBack c.args.goods c.args.name.now) c.make_name-done.result (ok_of c.make_name-done.result (λ (is : IsErr c.make_name-done.result).
    let value = c.is_err.ensures.value in let not_so = c.if-is_err.false in cc))
    (by_plan (one_done T before.folder old (g.S.Store.state_of after.session.store) before.session.volume after.session.volume
    (renames c.args.goods.place.folder c.as_bytes.result.now c.args.goods.place.name.now) c.make_name-done.result c.make_name-done.ensures.does)
    (λ actions so. subst (λ (l : List ℕ). Calls (renames c.args.goods.place.folder l c.args.goods.place.name.now) c.make_name-done.result actions)
    c.as_bytes.ensures.value so))
