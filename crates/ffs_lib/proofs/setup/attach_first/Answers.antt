use Rattle.std.proofs.Common.{◌≡◌, ◌∙◌, ℕ, inl}
use Rattle.ffs_lib.proofs.Common.{empty_volume, files_of, latest}
use Rattle.ffs_lib.specs.Making.{StopsFirst}
use Rattle.ffs_lib.proofs.Laws.{fails}
use Rattle.ffs_lib.proofs.Making.{attached}
use Rattle.ffs_lib.proofs.NewOrder.{attached_order}
use Rattle.ffs_lib.proofs.setup.attach_first.Goals as goal

pub returns-in_err-prepare_root-clause-ends : goal.returns-in_err-prepare_root-clause-ends
returns-in_err-prepare_root-clause-ends g c = λ T e s found b.
    let new = g.S.Store.state_of c.prepare_root.new.store in
    let h = c.in_err-prepare_root.ensures.ends T c.args.block e s found b in
    fails (λ x. (n : ℕ) → files_of (latest new.lives) _ n ≡ empty_volume n) (StopsFirst T _ (λ s. s) c.args.block _ new) h.0 c.from_residual.result _ c.from_residual.ensures.1 (h.1.0, inl h.1.1)

pub returns-clause-ends : goal.returns-clause-ends
returns-clause-ends g c = λ T e s found b.
    let h = c.in_ok-prepare_root.ensures.ends T c.args.block e s found b in
    attached T c.args.fs.number (g.S.Store.state_of c.args.store.now) (g.S.Store.state_of c.prepare_root.new.store) (g.S.Store.state_of c.put_pointer.new.store) c.args.block c.ranges.block.fits h.0 h.1.0 h.1.1 h.1.2
    c.put_pointer.result (λ r at. c.put_pointer.ensures.put T r (c.prepare_root.ensures.types ∙ e) at)

pub returns-clause-order : goal.returns-clause-order
returns-clause-order g c = λ T e s found b.
    let h = c.in_ok-prepare_root.ensures.ends T c.args.block e s found b in
    attached_order T c.args.fs.number c.args.block (g.S.Store.state_of c.args.store.now) (g.S.Store.state_of c.prepare_root.new.store) (g.S.Store.state_of c.put_pointer.new.store) (c.in_ok-prepare_root.ensures.order T e s found) h.1.0
    c.put_pointer.result (λ r at. c.put_pointer.ensures.put T r (c.prepare_root.ensures.types ∙ e) at)
