use Rattle.std.proofs.Common.{◌≡◌, ◌∙◌, Bool, Err, Ok, ap, sym, true, false}
use Rattle.ffs_lib.proofs.Common.{latest, make_in, slot_now}
use Rattle.ffs_lib.specs.Making.{IsBegun, StopsRooting, with_root}
use Rattle.ffs_lib.proofs.Laws.{fails}
use Rattle.ffs_lib.proofs.Making.{prepared, prepared_by}
use Rattle.ffs_lib.proofs.NewOrder.{rooted_new, rooted_there}
use Rattle.ffs_lib.proofs.setup.prepare_root.Goals as goal

pub returns-then-begun-clause-ends : goal.returns-then-begun-clause-ends
returns-then-begun-clause-ends g c = λ T block e s found b.
    let old = g.S.Store.state_of c.args.store.now in
    let there : Ok true ≡ make_in (latest old.lives) c.args.fs.number = ap (λ (t : Bool). Ok t) (sym c.if-begun.true) ∙ found in
    (s, (there, b, prepared_by T c.args.fs.number old s there))

pub returns-in_err-make_root-clause-ends : goal.returns-in_err-make_root-clause-ends
returns-in_err-make_root-clause-ends g c = λ T block e s found b.
    let fs = c.args.fs.number in
    let old = g.S.Store.state_of c.args.store.now in
    let new = g.S.Store.state_of c.make_root.new.store in
    let none : Ok false ≡ make_in (latest old.lives) fs = ap (λ (t : Bool). Ok t) (sym c.if-begun.false) ∙ found in
    let h = prepared T fs old s none block b new (Err c.in_err-make_root.field-0.0) (c.in_err-make_root.ensures.rooted T e) in
    fails (λ x. (Ok true ≡ make_in (latest new.lives) fs) × IsBegun new fs block × (new ≡ with_root T fs old)) (λ fault. ((slot_now old fs).0 ≡ 0) × StopsRooting T fs (λ s. s) old new fault) h.0
    c.from_residual.result _ c.from_residual.ensures.1 h.1

pub returns-clause-ends : goal.returns-clause-ends
returns-clause-ends g c = λ T block e s found b.
    let none : Ok false ≡ make_in (latest (g.S.Store.state_of c.args.store.now).lives) c.args.fs.number = ap (λ (t : Bool). Ok t) (sym c.if-begun.false) ∙ found in
    prepared T _ _ s none block b (g.S.Store.state_of c.make_root.new.store) (Ok c.in_ok-make_root.field-0) (c.in_ok-make_root.ensures.rooted T e)

pub returns-then-begun-clause-order : goal.returns-then-begun-clause-order
returns-then-begun-clause-order g c = λ T e s found.
    rooted_there T c.args.fs.number (g.S.Store.state_of c.args.store.now) (ap (λ (t : Bool). Ok t) (sym c.if-begun.true) ∙ found)

pub returns-clause-order : goal.returns-clause-order
returns-clause-order g c = λ T e s found.
    rooted_new T c.args.fs.number (g.S.Store.state_of c.args.store.now) (g.S.Store.state_of c.make_root.new.store) c.in_ok-make_root.field-0 (ap (λ (t : Bool). Ok t) (sym c.if-begun.false) ∙ found) (c.in_ok-make_root.ensures.rooted T e)
