use Rattle.std.proofs.Common.{◌∙◌, length, sym, take}
use Rattle.tree_puts.specs.Arriving.{Finishes, IsGivenUp}
use Rattle.tree_puts.proofs.Performed.{else_done, gave_up}
use Rattle.tree_puts.proofs.arriving.Arriving.finish_or_give_up.Goals as goal

pub returns-then-is_err-clause-does : goal.returns-then-is_err-clause-does
returns-then-is_err-clause-does g c wide within =
    let between = c.finish-done.new.volume in
    let after = c.give_up.new.self in
    else_done (Finishes c.args.goods c.args.block (length c.args.piece.now) (take c.args.first c.args.piece.now)) (IsGivenUp c.args.block) c.finish-done.result
    (sym c.is_err.ensures.value ∙ c.if-is_err.true) (c.finish-done.ensures.does wide within) c.finish-done.ensures.types c.finish-done.ensures.folder
    (gave_up (g.S.Store.types_of between.session.store) between.folder (g.S.Store.state_of between.session.store) (g.S.Store.state_of after.session.store)
    between.session.volume after.session.volume c.args.block between.is_broken c.give_up.ensures.does (λ same. rw same) (λ same. rw same))
