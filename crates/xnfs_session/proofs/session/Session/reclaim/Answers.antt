use Rattle.std.proofs.Common.{ℕ, subst}
use Rattle.ffs_lookup.specs.Counts.{if_idle}
use Rattle.ffs_lookup.specs.FileValues.{files_of}
use Rattle.ffs_lookup.specs.Newest.{mapped}
use Rattle.ffs_lookup.specs.Repairs.{repair_at}
use Rattle.ffs_lib.specs.Reclaiming.{LeftByRepair, needs, reclaimed, reclaimed_stages}
use Rattle.ffs_lib.specs.Orders.{InOrder}
use Rattle.ffs_lib.specs.RepairOrder.{reclaimed_parts}
use Rattle.ffs_lib.specs.Stages.{Does}
use Rattle.ffs_lib.specs.Steps.{newest_block}
use Rattle.xnfs_session.proofs.session.Session.reclaim.Goals as goal

pub returns-clause-answers : goal.returns-clause-answers
returns-clause-answers g c =
    subst (λ v. Does (g.S.Store.types_of v.store) v.fs (if_idle (g.S.Store.state_of v.store) v.fs (reclaimed (files_of (newest_block (g.S.Store.state_of v.store)) v.fs))) (reclaimed_stages (files_of (newest_block (g.S.Store.state_of v.store)) v.fs))
    (g.S.Store.state_of v.store) (g.S.Store.state_of c.reclaim.new.store) (mapped (λ repairs. repair_at repairs.each) c.reclaim.result)) c.self.view_is c.reclaim.ensures.answers

pub returns-clause-inodes : goal.returns-clause-inodes
returns-clause-inodes g c =
    subst (λ v. (n : ℕ) → LeftByRepair (newest_block (g.S.Store.state_of v.store)) (newest_block (g.S.Store.state_of c.reclaim.new.store)) v.fs n (needs (files_of (newest_block (g.S.Store.state_of v.store)) v.fs) n)) c.self.view_is
    c.reclaim.ensures.inodes

pub returns-clause-order : goal.returns-clause-order
returns-clause-order g c =
    subst (λ v. InOrder (g.S.Store.types_of v.store) v.fs (reclaimed_parts (files_of (newest_block (g.S.Store.state_of v.store)) v.fs) v.fs) (g.S.Store.state_of v.store) (g.S.Store.state_of c.reclaim.new.store) c.reclaim.result)
    c.self.view_is c.reclaim.ensures.order
