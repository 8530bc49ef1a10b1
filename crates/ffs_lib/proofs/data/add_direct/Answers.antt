use Rattle.std.proofs.Common.{◌∙◌, ap, length, subst, sym}
use Rattle.ffs_lib.proofs.Common.{IsLibrary, fields_of, init_of, latest, put, zero_block}
use Rattle.ffs_model.proofs.ForCallers.{data_begun}
use Rattle.ffs_lookup.proofs.ForCallers.{gives_err}
use Rattle.ffs_lib.specs.WriteOrder.{direct_edit}
use Rattle.ffs_lib.proofs.Tests.{never}
use Rattle.ffs_lib.proofs.Actions.{direct_is, home_there}
use Rattle.ffs_lib.proofs.DataLaws.{begun_again, direct_ends, not_begun}
use Rattle.ffs_lib.proofs.DataShort.{block_long}
use Rattle.ffs_lib.proofs.Laws.{begins_by, begins_err, fails, same_stage, short_told, told_by}
use Rattle.ffs_lib.proofs.Owners.{direct_block}
use Rattle.ffs_lib.proofs.data.add_direct.Goals as goal

pub returns-in_err-block-clause-ends : goal.returns-in_err-block-clause-ends
returns-in_err-block-clause-ends g c = λ T array inode e s is hole given.
    let old = g.S.Store.state_of c.args.store.now in
    let gave = begins_err (g.S.Store.types_of c.args.store.now) T _ 2 _ _ old _ c.in_err-block.field-0.0 e c.block_with.ensures c.in_err-block.ensures.state in
    let same = gives_err (init_of T old _ 2 _) old _ _ gave in
    let told = told_by (init_of T old _ 2 _) old _ _ gave in
    let home = home_there (latest old.lives) _ _ inode is in
    fails _ _ (same_stage s same) c.from_residual.result _ c.from_residual.ensures.1 (
      short_told (init_of T old _ 2 _) (data_begun T old s.keeps.consistent _ _ (block_long c.args.at c.args.bytes.now c.requires.within)) _ told,
      not_begun T _ old _ _ 2 _ home.0 (direct_edit _ inode c.args.index c.args.after) _ (direct_is (latest old.lives) _ _ home.0 inode c.args.index c.args.at c.args.bytes.now c.args.after home.1 is
          (direct_block (latest old.lives) inode c.args.index c.requires.few ∙ hole) c.requires.few) same _ told,
    )

pub returns-in_err-home-clause-ends : goal.returns-in_err-home-clause-ends
returns-in_err-home-clause-ends g c = λ T array inode e s is hole given.
    let zeroth = g.S.Store.state_of c.args.store.now in
    let first = g.S.Store.state_of c.init.new.self in
    let number = c.in_ok-block.field-0-1 in
    let bytes = put zero_block c.args.at c.args.bytes.now in
    let done = begins_by (g.S.Store.types_of c.args.store.now) T c.args.fs.number 2 _ bytes zeroth first (c.in_ok-block.block, number) e c.block_with.ensures c.in_ok-block.ensures.state in
    let again = begun_again T c.args.fs.number array zeroth first s c.args.number inode is 2 bytes _ number done in
    absurd (never inode _ (again ∙ sym (c.in_err-home.ensures.exact (subst IsLibrary (sym (c.init.ensures.types ∙ e)) s.library))))

pub returns-clause-ends : goal.returns-clause-ends
returns-clause-ends g c = λ T array inode e s is hole given.
    let number = c.in_ok-block.field-0-1 in
    let done = begins_by (g.S.Store.types_of c.args.store.now) T c.args.fs.number 2 _ (put zero_block c.args.at c.args.bytes.now) (g.S.Store.state_of c.args.store.now) _ (c.in_ok-block.block, number) e c.block_with.ensures c.in_ok-block.ensures.state in
    let types = c.init.ensures.types ∙ e in
    let file = c.in_ok-home.ensures.found in
    let exact = c.in_ok-home.ensures.exact (subst IsLibrary (sym types) s.library) in
    let whole = ap length c.bytes.ensures.bytes ∙ c.bytes.ensures.whole in
    let set = ap fields_of c.bytes.ensures.bytes ∙ c.set_direct.ensures.fields in
    direct_ends T c.args.fs.number array _ _ s c.args.number inode is c.args.index c.args.at c.args.bytes.now c.requires.few hole c.requires.within c.in_ok-block.block number done c.args.after given c.in_ok-home.field-0 file exact c.bytes.result.now whole set (c.bytes.ensures.bytes ∙ c.set_direct.ensures.bytes) _ c.attach.result (c.attach.ensures.put T types)
