use Rattle.std.proofs.Common.{◌≡◌, ◌∙◌, ℕ, List, Err, Ok, ap, refl, length, subst, sym}
use Rattle.ffs_lib.proofs.Common.{IsLibrary, file_block, latest, word_at}
use Rattle.ffs_lookup.proofs.ForCallers.{not_ok, same_ok}
use Rattle.ffs_lib.specs.WriteOrder.{data_parts}
use Rattle.ffs_lib.specs.Writes.{PutsParts}
use Rattle.ffs_lib.proofs.Tests.{never}
use Rattle.ffs_lib.proofs.DataLaws.{there_data}
use Rattle.ffs_lib.proofs.Laws.{fails}
use Rattle.ffs_lib.proofs.data.write_block.Goals as goal

pub returns-in_err-file-clause-ends : goal.returns-in_err-file-clause-ends
returns-in_err-file-clause-ends g c = λ T array inode e s is given.
    absurd (never inode _ (is ∙ sym (c.in_err-file.ensures.exact (subst IsLibrary (sym e) s.library))))

pub returns-in_err-block-clause-ends : goal.returns-in_err-block-clause-ends
returns-in_err-block-clause-ends g c = λ T array inode e s is given.
    absurd (never _ _ (sym (c.in_err-block.ensures.exact (subst IsLibrary (sym e) s.library))))

pub returns-then-block-eq0-clause-ends : goal.returns-then-block-eq0-clause-ends
returns-then-block-eq0-clause-ends g c = λ T array inode e s is given.
    let old = g.S.Store.state_of c.args.store.now in
    let same = same_ok c.in_ok-file.file.inode inode (c.in_ok-file.ensures.exact (subst IsLibrary (sym e) s.library) ∙ sym is) in
    let hole : file_block (latest old.lives) inode c.args.index ≡ 0 = ap (λ (m : List ℕ). file_block (latest old.lives) m c.args.index) (sym same) ∙ (sym c.in_ok-block.ensures.block ∙ c.if-block-eq0.true) in
    c.add_block.ensures.ends T array inode e s is hole (λ far some. ap (λ (m : List ℕ). length (latest old.lives (word_at m 56))) (sym same) ∙ c.in_ok-block.ensures.long far (λ z. some (ap (λ (m : List ℕ). word_at m 56) (sym same) ∙ z))) given

pub returns-in_err-read_block-clause-ends : goal.returns-in_err-read_block-clause-ends
returns-in_err-read_block-clause-ends g c = λ T array inode e s is given.
    absurd (not_ok (c.in_err-read_block.ensures.reached 2 (c.in_ok-block.ensures.reached (subst IsLibrary (sym e) s.library) c.if-block-eq0.false)))

pub returns-in_err-edit-clause-ends : goal.returns-in_err-edit-clause-ends
returns-in_err-edit-clause-ends g c = λ T array inode e s is given.
    let long = ap length c.in_ok-read_block.ensures.bytes ∙ c.in_ok-read_block.ensures.whole in
    let exact = c.in_ok-file.ensures.exact (subst IsLibrary (sym e) s.library) in
    let x = there_data T c.args.fs.number array (g.S.Store.state_of c.args.store.now) s c.args.number c.in_ok-file.file c.in_ok-file.ensures.found exact c.args.index c.in_ok-block.block c.args.at c.args.bytes.now c.requires.few (sym c.in_ok-block.ensures.block)
    c.if-block-eq0.false long c.requires.within c.args.last.edit c.args.last refl c.requires.some given.0 (g.S.Store.state_of c.put.new.store) (Err c.in_err-edit.field-0.0) (c.in_err-edit.ensures.put T e) in
    fails _ _ x.0 c.from_residual-in_err-edit.result _ c.from_residual-in_err-edit.ensures.1 x.1

pub returns-clause-ends : goal.returns-clause-ends
returns-clause-ends g c = λ T array inode e s is given.
    let long = ap length c.in_ok-read_block.ensures.bytes ∙ c.in_ok-read_block.ensures.whole in
    let exact = c.in_ok-file.ensures.exact (subst IsLibrary (sym e) s.library) in
    let x = there_data T _ array _ s _ c.in_ok-file.file c.in_ok-file.ensures.found exact _ c.in_ok-block.block _ _ c.requires.few (sym c.in_ok-block.ensures.block)
    c.if-block-eq0.false long c.requires.within c.args.last.edit _ refl c.requires.some given.0 _ (Ok c.in_ok-edit.edit) (c.in_ok-edit.ensures.put T e) in
    (x.0, subst (PutsParts T _ (data_parts _ _ _ _ _ c.args.last.edit) _ _ _ _ _ _ _) (sym c.next_after.ensures) x.1)
