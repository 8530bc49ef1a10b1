use Rattle.std.proofs.Common.{◌∙◌, ◌*◌, ◌+◌, Some, ap, inl, refl, subst, sym, Bool, if◌then◌else◌}
use Rattle.ffs_lib.proofs.Common.{latest}
use Rattle.ffs_model.proofs.ForCallers.{later_then, given_later}
use Rattle.ffs_lib.specs.Orders.{Action, act_of}
use Rattle.ffs_lib.specs.Writes.{LastGiven, WaitsOn}
use Rattle.ffs_lib.proofs.Actions.{adds_far, adds_hole, data_made, last_made, pointers_none}
use Rattle.ffs_lib.proofs.DataLaws.{puts_after, puts_none, stops_after, stops_now}
use Rattle.ffs_lib.proofs.Laws.{fails}
use Rattle.ffs_lib.proofs.Waiting.{waits_same, waits_then}
use Rattle.ffs_lib.proofs.Owners.{direct_block}
use Rattle.ffs_lib.proofs.data.add_block.Goals as goal

pub returns-in_err-added-clause-ends : goal.returns-in_err-added-clause-ends
returns-in_err-added-clause-ends g c = λ T array inode e s is hole long given.
    let old = g.S.Store.state_of c.args.store.now in
    let low = c.if-index-lt-DIRECT_POINTERS.true in
    let x = c.in_err-added.ensures.ends T array inode e s is (sym (direct_block (latest old.lives) inode c.args.index low) ∙ hole) given.0 in
    let none = ap (λ (a : Action). act_of T c.args.fs.number a old) (sym (pointers_none (latest old.lives) _ _ inode c.args.index c.args.last.edit is (inl low))) in
    fails _ _ x.0 c.from_residual.result _ c.from_residual.ensures.1 (x.1.0, stops_after T _ _ _ old old _ _ c.args.last _ (puts_none old _ _ 0) (waits_same _ _ old c.args.last) none (stops_now T _ _ _ old _ _ c.args.last _ x.1.1))

pub returns-then-index-lt-DIRECT_POINTERS-clause-ends : goal.returns-then-index-lt-DIRECT_POINTERS-clause-ends
returns-then-index-lt-DIRECT_POINTERS-clause-ends g c = λ T array inode e s is hole long given.
    let old = g.S.Store.state_of c.args.store.now in
    let new = g.S.Store.state_of c.add_direct.new.store in
    let last = c.args.last in
    let entry = c.in_ok-added.added in
    let low = c.if-index-lt-DIRECT_POINTERS.true in
    let x = c.in_ok-added.ensures.ends T array inode e s is (sym (direct_block (latest old.lives) inode _ low) ∙ hole) given.0 in
    let a = x.1.1 in
    let none = ap (λ (a : Action). act_of T c.args.fs.number a old) (sym (pointers_none (latest old.lives) _ _ inode _ last.edit is (inl low))) in
    let adds = sym (adds_hole (latest old.lives) _ _ inode _ is low hole) in (
      x.0,
      record {
        puts = x.1.0.0.0;
        given = (given_later old new x.1.0.0.0.later last.edit given.0, x.1.0.0.1);
        made = data_made T _ _ _ c.args.at c.args.bytes.now last.edit old old new none a.0;
        last_is = ap (λ (t : Bool). record { edit = if t then last.edit else Some entry; size = Some entry }) adds ∙ last_made _ old.next new.next entry last a.1 a.2;
        waits = x.1.0.1 last refl;
      },
    )

pub returns-in_err-pointers-clause-ends : goal.returns-in_err-pointers-clause-ends
returns-in_err-pointers-clause-ends g c = λ T array inode e s is hole long given.
    let far = c.if-index-lt-DIRECT_POINTERS.false in
    let x = c.in_err-pointers.ensures.ends T array inode c.args.index far e s is (long far) given.0 in
    fails _ _ x.0 c.from_residual-in_err-pointers.result _ c.from_residual-in_err-pointers.ensures.1
    (x.1.0, stops_now T c.args.fs.number _ _ (g.S.Store.state_of c.args.store.now) (g.S.Store.state_of c.pointers_of.new.store) c.args.number c.args.last _ x.1.1)

pub returns-in_err-added-2-clause-ends : goal.returns-in_err-added-2-clause-ends
returns-in_err-added-2-clause-ends g c = λ T array inode e s is hole long given.
    let old = g.S.Store.state_of c.args.store.now in
    let first = g.S.Store.state_of c.pointers_of.new.store in
    let far = c.if-index-lt-DIRECT_POINTERS.false in
    let k = c.in_ok-pointers.ensures.ends T array inode c.args.index far e s is (long far) given.0 in
    let p = k.1.0.0 in
    let x = c.in_err-added-2.ensures.ends T array _ p.after (c.pointers_of.ensures.types ∙ e) k.0 p.file p.points p.there p.long (p.holes c.args.index far c.requires.few hole)
    (given_later old first p.puts.later c.args.last.edit given.0) in
    fails _ _ x.0 c.from_residual-in_err-added-2.result _ c.from_residual-in_err-added-2.ensures.1 (x.1.0, stops_after T _ _ _ old first _ _ c.args.last _ p.puts (k.1.0.1 c.args.last refl) k.1.1 (stops_now T _ _ _ first _ _ c.args.last _ x.1.1))

pub returns-clause-ends : goal.returns-clause-ends
returns-clause-ends g c = λ T array inode e s is hole long given.
    let old = g.S.Store.state_of c.args.store.now in
    let first = g.S.Store.state_of c.pointers_of.new.store in
    let new = g.S.Store.state_of c.add_pointed.new.store in
    let last = c.args.last in
    let entry = c.in_ok-added-2.added in
    let far = c.if-index-lt-DIRECT_POINTERS.false in
    let k = c.in_ok-pointers.ensures.ends T array inode _ far e s is (long far) given.0 in
    let p = k.1.0.0 in
    let x = c.in_ok-added-2.ensures.ends T array _ p.after (c.pointers_of.ensures.types ∙ e) k.0 p.file p.points p.there p.long (p.holes _ far c.requires.few hole)
    (given_later old first p.puts.later last.edit given.0) in
    let adds = sym (adds_far (latest old.lives) _ _ inode _ is far) in (
      x.0,
      record {
        puts = puts_after old first new _ _ (512 * c.args.index + c.args.at) c.args.bytes.now p.puts x.1.0.0.0;
        given = subst (LastGiven new) (sym c.next_after.ensures) (x.1.0.0.1, x.1.0.0.1);
        made = data_made T _ _ _ c.args.at c.args.bytes.now last.edit old first new k.1.1 x.1.1.0;
        last_is = c.next_after.ensures
            ∙ (ap (λ (t : Bool). record { edit = if t then last.edit else Some entry; size = Some entry }) adds ∙ last_made _ old.next new.next entry last x.1.1.1 (later_then old.next first.next entry p.puts.later x.1.1.2));
        waits = subst (WaitsOn _ _ old new last) (sym c.next_after.ensures) (waits_then _ _ old first new last last _ (k.1.0.1 last refl) (x.1.0.1 last refl));
      },
    )
