use Rattle.std.proofs.Common.{◌≡◌, ◌∙◌, [], ◌∷◌, subst, OnErr}
use Rattle.ffs_lib.proofs.Common.{Types, forget_of}
use Rattle.ffs_lib.specs.Edits.{edit_at}
use Rattle.ffs_lib.specs.Steps.{left_by}
use Rattle.ffs_lib.proofs.Laws.{attached_put}
use Rattle.ffs_lib.proofs.put.attach.Goals as goal

pub returns-clause-put : goal.returns-clause-put
returns-clause-put g c = λ T e.
    let middle = g.S.Store.state_of c.put-attached.new.store in
    let new = g.S.Store.state_of c.forgotten.new.store in
    attached_put T c.args.fs.number c.args.added.0 c.args.block (edit_at c.args.offset c.args.bytes.now (c.args.added ∷ []) [] c.args.after) (g.S.Store.state_of c.args.store.now) middle new c.put-attached.result c.forgotten.result (c.put-attached.ensures.put T e)
    c.forgotten.ensures.same c.forgotten.ensures.ok
    (subst (λ (t : Types). OnErr c.forgotten.result (new ≡ left_by (forget_of t middle c.args.fs.number c.args.added.0) middle)) (c.put-attached.ensures.types ∙ e) c.forgotten.ensures.forgotten)
