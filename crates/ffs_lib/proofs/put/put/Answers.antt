use Rattle.std.proofs.Common.{subst}
use Rattle.ffs_lib.proofs.Common.{Types}
use Rattle.ffs_lib.specs.Edits.{edit_at}
use Rattle.ffs_lib.specs.Steps.{Proposed}
use Rattle.ffs_lib.proofs.Laws.{refused_put}
use Rattle.ffs_lib.proofs.put.put.Goals as goal

pub returns-in_err-propose-clause-put : goal.returns-in_err-propose-clause-put
returns-in_err-propose-clause-put g c = λ T e.
    let old = g.S.Store.state_of c.args.store.now in
    let edit = edit_at c.args.offset c.args.bytes.now c.args.adds.now c.args.drops.now c.args.after in
    subst (λ (t : Types). Proposed t c.args.fs.number c.args.block edit old (g.S.Store.state_of c.propose.new.self) c.from_residual-in_err-propose.result) e
    (refused_put (g.S.Store.types_of c.args.store.now) c.args.fs.number c.args.block _ edit c.in_ok-edit.ensures old _ c.in_err-propose.field-0.0 c.from_residual-in_err-propose.result c.in_err-propose.ensures.state c.from_residual-in_err-propose.ensures.1)
