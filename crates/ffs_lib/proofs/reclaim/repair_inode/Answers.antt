use Rattle.std.proofs.Common.{subst, sym}
use Rattle.ffs_lib.proofs.Common.{GiveUp, Repair, SetLinks, latest}
use Rattle.ffs_lib.specs.Orders.{Orders}
use Rattle.ffs_lib.specs.RepairOrder.{repaired_edits}
use Rattle.ffs_lib.proofs.Orders.{order_err}
use Rattle.ffs_lib.specs.Reclaiming.{MayRepair, RepairedOne}
use Rattle.ffs_lib.proofs.Reclaiming.{repair_fails}
use Rattle.ffs_lib.proofs.reclaim.repair_inode.Goals as goal

pub returns-in_err-give_up-in-GiveUp-clause-ends : goal.returns-in_err-give_up-in-GiveUp-clause-ends
returns-in_err-give_up-in-GiveUp-clause-ends g c = λ T array e s may.
    let p = c.in_err-give_up-in-GiveUp.ensures.ends T array e s (subst (MayRepair _ c.args.fs.number c.args.number) c.in-GiveUp.is may) in
    repair_fails T c.args.fs.number array _ (g.S.Store.state_of c.give_up.new.store) c.args.number c.args.repair GiveUp c.in-GiveUp.is c.in_err-give_up-in-GiveUp.field-0.0 p c.from_residual.result c.from_residual.ensures.1

pub returns-in_err-set_links-in-SetLinks-clause-ends : goal.returns-in_err-set_links-in-SetLinks-clause-ends
returns-in_err-set_links-in-SetLinks-clause-ends g c = λ T array e s may.
    let p = c.in_err-set_links-in-SetLinks.ensures.ends T array e s (subst (MayRepair _ c.args.fs.number c.args.number) c.in-SetLinks.is may) in
    repair_fails T c.args.fs.number array _ (g.S.Store.state_of c.set_links.new.store) c.args.number c.args.repair (SetLinks c.in-SetLinks.links) c.in-SetLinks.is c.in_err-set_links-in-SetLinks.field-0.0 p
    c.from_residual-in_err-set_links-in-SetLinks.result c.from_residual-in_err-set_links-in-SetLinks.ensures.1

pub returns-in_ok-give_up-in-GiveUp-clause-ends : goal.returns-in_ok-give_up-in-GiveUp-clause-ends
returns-in_ok-give_up-in-GiveUp-clause-ends g c = λ T array e s may.
    let p = c.in_ok-give_up-in-GiveUp.ensures.ends T array e s (subst (MayRepair _ c.args.fs.number c.args.number) c.in-GiveUp.is may) in
    (p.0, subst (RepairedOne _ (g.S.Store.state_of c.give_up.new.store) c.args.fs.number c.args.number) (sym c.in-GiveUp.is) p.1)

pub returns-in_ok-set_links-in-SetLinks-clause-ends : goal.returns-in_ok-set_links-in-SetLinks-clause-ends
returns-in_ok-set_links-in-SetLinks-clause-ends g c = λ T array e s may.
    let p = c.in_ok-set_links-in-SetLinks.ensures.ends T array e s (subst (MayRepair _ c.args.fs.number c.args.number) c.in-SetLinks.is may) in
    (p.0, subst (RepairedOne _ (g.S.Store.state_of c.set_links.new.store) c.args.fs.number c.args.number) (sym c.in-SetLinks.is) p.1)

pub returns-in_err-give_up-in-GiveUp-clause-order : goal.returns-in_err-give_up-in-GiveUp-clause-order
returns-in_err-give_up-in-GiveUp-clause-order g c = λ T array e s.
    let fs = c.args.fs.number in
    let old = g.S.Store.state_of c.args.store.now in
    let new = g.S.Store.state_of c.give_up.new.store in
    subst (λ (r : Repair). Orders T fs (repaired_edits (latest old.lives) fs c.args.number r) old new c.from_residual.result) (sym c.in-GiveUp.is)
    (order_err T fs (repaired_edits (latest old.lives) fs c.args.number GiveUp) old new (c.in_err-give_up-in-GiveUp.ensures.order T array e s) _ c.from_residual.result c.from_residual.ensures.1)

pub returns-in_err-set_links-in-SetLinks-clause-order : goal.returns-in_err-set_links-in-SetLinks-clause-order
returns-in_err-set_links-in-SetLinks-clause-order g c = λ T array e s.
    let fs = c.args.fs.number in
    let old = g.S.Store.state_of c.args.store.now in
    let new = g.S.Store.state_of c.set_links.new.store in
    subst (λ (r : Repair). Orders T fs (repaired_edits (latest old.lives) fs c.args.number r) old new c.from_residual-in_err-set_links-in-SetLinks.result) (sym c.in-SetLinks.is)
    (order_err T fs (repaired_edits (latest old.lives) fs c.args.number (SetLinks c.in-SetLinks.links)) old new (c.in_err-set_links-in-SetLinks.ensures.order T array e s) _ c.from_residual-in_err-set_links-in-SetLinks.result c.from_residual-in_err-set_links-in-SetLinks.ensures.1)
