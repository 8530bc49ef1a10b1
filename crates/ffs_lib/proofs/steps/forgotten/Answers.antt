use Rattle.ffs_lib.proofs.Common.{forget_of}
use Rattle.ffs_lib.proofs.Kept.{forgets, on_err}
use Rattle.ffs_lib.proofs.Laws.{exactly_left}
use Rattle.ffs_lib.proofs.steps.forgotten.Goals as goal

pub returns-then-is_err-clause-keeps : goal.returns-then-is_err-clause-keeps
returns-then-is_err-clause-keeps g c =
    forgets (g.S.Store.types_of c.args.store.now) c.args.fs.number c.args.fs.few c.args.fs.number c.args.block (g.S.Store.state_of c.args.store.now) (g.S.Store.state_of c.forget.new.self) c.forget.result c.forget.ensures.state

pub returns-then-is_err-clause-forgotten : goal.returns-then-is_err-clause-forgotten
returns-then-is_err-clause-forgotten g c =
    on_err c.args.attached (exactly_left (forget_of (g.S.Store.types_of c.args.store.now) _ c.args.fs.number c.args.block) _ (g.S.Store.state_of c.forget.new.self) c.forget.result c.forget.ensures.state)
