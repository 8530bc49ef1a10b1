use Rattle.std.proofs.Common.{ap, ◌∙◌, length, refl, subst, sym}
use Rattle.ffs_lib.proofs.Common.{err_from_is_err_and}
use Rattle.ffs_lib.specs.Edits.{data_of_pointers}
use Rattle.ffs_lib.specs.Steps.{Tells}
use Rattle.ffs_lib.specs.Reclaiming.{Emptied}
use Rattle.ffs_lib.proofs.Laws.{no_memory, some_items}
use Rattle.ffs_lib.proofs.Reclaiming.{emptied_put, emptied_refused}
use Rattle.ffs_lib.proofs.reclaim.empty_pointers.Goals as goal

pub returns-in_err-dropped-clause-put : goal.returns-in_err-dropped-clause-put
returns-in_err-dropped-clause-put g c = λ T e under.
    let p = err_from_is_err_and c.from_residual-in_err-dropped.result c.from_residual-in_err-dropped.ensures.1 in
    subst (Emptied T c.args.fs.number _ _ _) (sym p.1)
    (refl, c.if-block-eq0.false, ap length c.in_ok-read_block.ensures.bytes ∙ c.in_ok-read_block.ensures.whole, subst (Tells _) (sym p.2) (no_memory _))

pub returns-in_err-put-clause-put : goal.returns-in_err-put-clause-put
returns-in_err-put-clause-put g c = λ T e under.
    let bytes = c.in_ok-read_block.ensures.bytes in
    emptied_refused T c.args.fs.number c.args.block (g.S.Store.state_of c.args.store.now) (g.S.Store.state_of c.put.new.store) c.in_err-put.field-0.0 c.deref.result.now c.if-block-eq0.false
    (ap length bytes ∙ c.in_ok-read_block.ensures.whole) (c.deref.ensures.value ∙ (c.in_ok-dropped.ensures ∙ ap data_of_pointers (sym bytes))) (c.in_err-put.ensures.put T e)
    c.from_residual-in_err-put.result c.from_residual-in_err-put.ensures.1

pub returns-clause-put : goal.returns-clause-put
returns-clause-put g c = λ T e under.
    let bytes = c.in_ok-read_block.ensures.bytes in
    emptied_put T c.args.fs.number c.args.block (g.S.Store.state_of c.args.store.now) (g.S.Store.state_of c.put.new.store) c.in_ok-put.field-0 c.deref.result.now c.if-block-eq0.false
    (ap length bytes ∙ c.in_ok-read_block.ensures.whole) (c.deref.ensures.value ∙ (c.in_ok-dropped.ensures ∙ ap data_of_pointers (sym bytes))) (some_items _ _ c.deref.result.now c.is_empty.ensures c.if-is_empty.false c.deref.ensures.len) (c.in_ok-put.ensures.put T e)
