use Rattle.std.proofs.Common.{rules, ap, subst}
use Rattle.xn_kernel.specs.FlushedStates.{KeepsNewest}
use Rattle.xnfs_session.specs.Kept.{KeepsVolumes}
use Rattle.xnfs_session.specs.Sessions.{SessionValue}
use Rattle.xnfs_session.proofs.Flushed.{newest_is_kept, volume_is_kept, volumes_are_kept}
use Rattle.xnfs_session.proofs.session.Session.flush_waves.Goals as goal

pub invariant_of-self : goal.invariant_of-self
invariant_of-self g c = (
  volume_is_kept (g.S.Store.types_of c.self.inside.store) (g.S.Store.types_of c.flush_waves.new.self) (g.S.Store.state_of c.self.inside.store)
      (g.S.Store.state_of c.flush_waves.new.self) c.flush_waves.result c.self.inside.volume c.flush_waves.ensures.types c.flush_waves.ensures.waves c.flush_waves.ensures.err (search rules)
      c.self.invariant.0,
  c.self.invariant.1,
)

pub returns-clause-newest : goal.returns-clause-newest
returns-clause-newest g c =
    subst (λ (store : g.row.S.Denot). KeepsNewest (g.S.Store.state_of store).lives (g.S.Store.state_of c.flush_waves.new.self).lives) (ap (λ (v : SessionValue g.row.S.Denot). v.store) c.self.view_is)
    (newest_is_kept (g.S.Store.types_of c.self.inside.store) (g.S.Store.state_of c.self.inside.store) (g.S.Store.state_of c.flush_waves.new.self) c.flush_waves.result
    c.self.inside.volume c.flush_waves.ensures.waves c.flush_waves.ensures.err c.self.invariant.0)

pub returns-clause-keeps : goal.returns-clause-keeps
returns-clause-keeps g c =
    subst (λ (store : g.row.S.Denot). KeepsVolumes (g.S.Store.types_of store) (g.S.Store.state_of store) (g.S.Store.types_of c.flush_waves.new.self) (g.S.Store.state_of c.flush_waves.new.self))
    (ap (λ (v : SessionValue g.row.S.Denot). v.store) c.self.view_is)
    (volumes_are_kept (g.S.Store.types_of c.self.inside.store) (g.S.Store.types_of c.flush_waves.new.self) (g.S.Store.state_of c.self.inside.store)
    (g.S.Store.state_of c.flush_waves.new.self) c.flush_waves.result c.flush_waves.ensures.types c.flush_waves.ensures.waves c.flush_waves.ensures.err)
