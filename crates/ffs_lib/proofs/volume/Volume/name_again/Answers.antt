use Rattle.std.proofs.Common.{◌≡◌, ◌+◌, ◌∙◌, ℕ, inl, inr, subst, IfOk}
use Rattle.ffs_lib.specs.Orders.{Acts, entered_action}
use Rattle.ffs_lib.proofs.Orders.{names_err, names_then}
use Rattle.ffs_lib.proofs.Common.{entry_of, latest}
use Rattle.ffs_lib.specs.Steps.{Enters, NamesAgain, StopsEntering, StopsNaming}
use Rattle.ffs_lib.proofs.Entering.{directory_from}
use Rattle.ffs_lib.proofs.Laws.{fails, match_then}
use Rattle.ffs_lib.proofs.Moving.{directory_to}
use Rattle.ffs_lib.proofs.volume.Volume.name_again.Goals as goal

pub returns-in_err-added-clause-ends : goal.returns-in_err-added-clause-ends
returns-in_err-added-clause-ends g c = λ T array own to e s is fewer dir room.
    let x = c.in_err-added.ensures.ends T array own e s is fewer in
    fails _ _ x.0 c.from_residual.result _ c.from_residual.ensures.1 (x.1.0, inl x.1.1)

pub returns-clause-ends : goal.returns-clause-ends
returns-clause-ends g c = λ T array own to e s is fewer dir room.
    let v = latest (g.S.Store.state_of c.add_link.new.store).lives in
    let x = c.in_ok-added.ensures.ends T array own e s is fewer in
    let at = directory_from (latest (g.S.Store.state_of c.args.store.now).lives) _ _ to dir in
    let to1 = x.1.1.before _ to at.0 in
    let y = c.enter.ensures.ends T array to1.after (c.add_link.ensures.types ∙ e) x.0 x.1.0 (directory_to v _ _ to1.after to1.found (to1.mode ∙ at.1)) (to1.room ∙ room) in
    let old = g.S.Store.state_of c.args.store.now in
    let first = g.S.Store.state_of c.add_link.new.store in
    let n = c.args.inode in (
      y.0,
      match_then (Enters first _ _ _ c.args.name.now n) (NamesAgain old _ _ _ c.args.name.now n) (StopsEntering T _ first _ _ (entry_of n c.args.name.now)) (StopsNaming T _ old _ _ c.args.name.now n) c.enter.result
          (λ _ z. (record { middle = v; linked = x.1.1; entered = z.0 }, z.1)) (λ fault r. inr (first, x.1.1, r)) y.1,
    )

pub returns-in_err-added-clause-order : goal.returns-in_err-added-clause-order
returns-in_err-added-clause-order g c = λ T array own to e s is fewer dir room.
    let l = c.in_err-added.ensures.order T array own e s is fewer in
    names_err T c.args.self.now.fs.number c.args.directory c.args.inode c.args.name.now (g.S.Store.state_of c.args.store.now) (g.S.Store.state_of c.add_link.new.store) l.0 _ c.from_residual.result c.from_residual.ensures.1

pub returns-clause-order : goal.returns-clause-order
returns-clause-order g c = λ T array own to e s is fewer dir room.
    let first = g.S.Store.state_of c.add_link.new.store in
    let new = g.S.Store.state_of c.enter.new.store in
    let v = latest first.lives in
    let fs = c.args.self.now.fs.number in
    let x = c.in_ok-added.ensures.ends T array own e s is fewer in
    let l = c.in_ok-added.ensures.order T array own e s is fewer in
    let at = directory_from (latest (g.S.Store.state_of c.args.store.now).lives) fs _ to dir in
    let to1 = x.1.1.before _ to at.0 in
    let y = c.enter.ensures.order T array to1.after (c.add_link.ensures.types ∙ e) x.0 x.1.0 (directory_to v fs _ to1.after to1.found (to1.mode ∙ at.1)) (to1.room ∙ room) in
    names_then T fs _ c.args.inode c.args.name.now _ first new l.0 c.enter.result
    (subst (λ (k : ℕ). Acts T fs (entered_action v fs c.args.directory (entry_of c.args.inode c.args.name.now) k) first new c.enter.result × IfOk c.enter.result (λ (j : ℕ). new.next ≡ j + 1)) l.1.0 y)
