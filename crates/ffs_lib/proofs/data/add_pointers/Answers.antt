use Rattle.std.proofs.Common.{◌∙◌, Err, Ok, ap, length, refl, subst, sym}
use Rattle.ffs_lib.proofs.Common.{IsLibrary, fields_of, init_of, latest, zero_block}
use Rattle.ffs_model.proofs.ForCallers.{pointers_begun}
use Rattle.ffs_lookup.proofs.ForCallers.{gives_err}
use Rattle.ffs_lib.specs.WriteOrder.{indirect_edit}
use Rattle.ffs_lib.proofs.Tests.{never}
use Rattle.ffs_lib.proofs.Actions.{home_there, pointers_is}
use Rattle.ffs_lib.proofs.DataLaws.{begun_again, not_begun, pointers_ends}
use Rattle.ffs_lib.proofs.Laws.{begins_by, begins_err, fails, same_stage, short_told, told_by}
use Rattle.ffs_lib.proofs.data.add_pointers.Goals as goal

pub returns-in_err-block-clause-ends : goal.returns-in_err-block-clause-ends
returns-in_err-block-clause-ends g c = λ T array inode index far e s is none given.
    let old = g.S.Store.state_of c.args.store.now in
    let gave = begins_err (g.S.Store.types_of c.args.store.now) T _ 5 _ zero_block old _ c.in_err-block.field-0.0 e refl c.in_err-block.ensures.state in
    let same = gives_err (init_of T old _ 5 zero_block) old _ _ gave in
    let told = told_by (init_of T old _ 5 zero_block) old _ _ gave in
    let home = home_there (latest old.lives) _ _ inode is in
    fails _ _ (same_stage s same) c.from_residual.result _ c.from_residual.ensures.1 (
      short_told (init_of T old _ 5 zero_block) (pointers_begun T s.library old _) _ told,
      not_begun T _ old _ _ 5 zero_block home.0 (indirect_edit _ inode c.args.after) _ (pointers_is (latest old.lives) _ _ home.0 inode index c.args.after home.1 is far none) same _ told,
    )

pub returns-in_err-home-clause-ends : goal.returns-in_err-home-clause-ends
returns-in_err-home-clause-ends g c = λ T array inode index far e s is none given.
    let number = c.in_ok-block.field-0-1 in
    let done = begins_by (g.S.Store.types_of c.args.store.now) T c.args.fs.number 5 _ zero_block (g.S.Store.state_of c.args.store.now) _ (c.in_ok-block.block, number) e refl c.in_ok-block.ensures.state in
    let again = begun_again T _ array _ _ s c.args.number inode is 5 zero_block _ number done in
    absurd (never inode _ (again ∙ sym (c.in_err-home.ensures.exact (subst IsLibrary (sym (c.init.ensures.types ∙ e)) s.library))))

pub returns-in_err-attach-clause-ends : goal.returns-in_err-attach-clause-ends
returns-in_err-attach-clause-ends g c = λ T array inode index far e s is none given.
    let number = c.in_ok-block.field-0-1 in
    let done = begins_by (g.S.Store.types_of c.args.store.now) T c.args.fs.number 5 _ zero_block (g.S.Store.state_of c.args.store.now) _ (c.in_ok-block.block, number) e refl c.in_ok-block.ensures.state in
    let types = c.init.ensures.types ∙ e in
    let exact = c.in_ok-home.ensures.exact (subst IsLibrary (sym types) s.library) in
    let whole = ap length c.bytes.ensures.bytes ∙ c.bytes.ensures.whole in
    let set = ap fields_of c.bytes.ensures.bytes ∙ c.set_indirect.ensures.fields in
    let x = pointers_ends T _ array _ _ s c.args.number inode is none _ number done c.args.after given c.in_ok-home.field-0 c.in_ok-home.ensures.found exact c.bytes.result.now whole set (c.bytes.ensures.bytes ∙ c.set_indirect.ensures.bytes) index far _ (Err c.in_err-attach.field-0.0) (c.in_err-attach.ensures.put T types) in
    fails _ _ x.0 c.from_residual-in_err-attach.result _ c.from_residual-in_err-attach.ensures.1 x.1

pub returns-clause-ends : goal.returns-clause-ends
returns-clause-ends g c = λ T array inode index far e s is none given.
    let number = c.in_ok-block.field-0-1 in
    let done = begins_by (g.S.Store.types_of c.args.store.now) T c.args.fs.number 5 _ zero_block (g.S.Store.state_of c.args.store.now) _ (c.in_ok-block.block, number) e refl c.in_ok-block.ensures.state in
    let types = c.init.ensures.types ∙ e in
    let exact = c.in_ok-home.ensures.exact (subst IsLibrary (sym types) s.library) in
    let whole = ap length c.bytes.ensures.bytes ∙ c.bytes.ensures.whole in
    let set = ap fields_of c.bytes.ensures.bytes ∙ c.set_indirect.ensures.fields in
    let x = pointers_ends T _ array _ _ s c.args.number inode is none _ number done c.args.after given c.in_ok-home.field-0 c.in_ok-home.ensures.found exact c.bytes.result.now whole set (c.bytes.ensures.bytes ∙ c.set_indirect.ensures.bytes) index far _ (Ok c.in_ok-attach.field-0) (c.in_ok-attach.ensures.put T types) in
    (x.0, (x.1.0, x.1.1.0))
