use Rattle.ffs_model.specs.Cuts.{latest}
use Rattle.xnfs_session.specs.Sessions.{is_used}
use Rattle.xnfs_session.proofs.Looks.{UsedTo}
use Rattle.xnfs_session.proofs.session.Session.usage.Given as goal

abbrev pub invariant-loop-index : goal.invariant-loop-index
invariant-loop-index g l = UsedTo (is_used (latest (g.S.Store.state_of l.self.store).lives) l.self.fs) l.index l.used_inodes
