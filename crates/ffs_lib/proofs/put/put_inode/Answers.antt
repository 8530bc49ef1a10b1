use Rattle.std.proofs.Common.{ℕ, List, ◌*◌, subst}
use Rattle.ffs_lib.specs.Edits.{edit_at}
use Rattle.ffs_lib.specs.Steps.{Proposed}
use Rattle.ffs_lib.proofs.put.put_inode.Goals as goal

pub returns-clause-put : goal.returns-clause-put
returns-clause-put g c = λ T e.
    subst (λ (b : List ℕ). Proposed T c.args.fs.number c.args.block (edit_at (64 * c.args.place) b c.args.adds.now c.args.drops.now c.args.after) (g.S.Store.state_of c.args.store.now) (g.S.Store.state_of c.put.new.store) c.put.result) c.bytes-bytes.ensures.bytes
    (c.put.ensures.put T e)
