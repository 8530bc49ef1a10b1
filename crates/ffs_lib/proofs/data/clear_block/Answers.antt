use Rattle.std.proofs.Common.{◌≡◌, ◌∙◌, ◌+◌, ◌-◌, ℕ, List, true, Err, Ok, ap, arith, drop, length, replicate, subst, sym, take}
use Rattle.ffs_lib.proofs.Common.{IsLibrary, byte_in, file_block, latest}
use Rattle.ffs_lib.specs.WriteOrder.{zeros_parts}
use Rattle.ffs_lib.specs.Writes.{PutsParts}
use Rattle.ffs_lib.proofs.Actions.{zeros_all, zeros_by, zeros_hole, zeros_none, zeros_not}
use Rattle.ffs_lib.proofs.DataLaws.{there_zeros}
use Rattle.ffs_lib.proofs.Laws.{fails}
use Rattle.ffs_lib.proofs.Parting.{zero_part, zeros_held, zeros_puts}
use Rattle.ffs_lib.proofs.data.clear_block.Goals as goal

pub returns-then-block-eq0-clause-ends : goal.returns-then-block-eq0-clause-ends
returns-then-block-eq0-clause-ends g c = λ T array inode e s is given.
    let v = latest (g.S.Store.state_of c.args.store.now).lives in
    let found = c.in_ok-file.file in
    let exact = c.in_ok-file.ensures.exact (subst IsLibrary (sym e) s.library) in
    let hole : file_block v found.inode c.args.index ≡ 0 = sym c.in_ok-block.ensures.block ∙ c.if-block-eq0.true in
    let n = c.args.number in (
      s,
      zeros_none T _ _ n c.args.index c.args.at c.args.count c.args.last given
          (zeros_puts _ _ n found.inode exact c.args.index c.args.at c.args.count c.requires.within (λ k lo hi. ap (λ (b : ℕ). byte_in v b k) hole))
          (zeros_hole v _ n found.inode c.args.index c.args.at c.args.count c.args.last.edit exact hole),
    )

pub returns-then-are_zeros-clause-ends : goal.returns-then-are_zeros-clause-ends
returns-then-are_zeros-clause-ends g c = λ T array inode e s is given.
    let v = latest (g.S.Store.state_of c.args.store.now).lives in
    let found = c.in_ok-file.file in
    let exact = c.in_ok-file.ensures.exact (subst IsLibrary (sym e) s.library) in
    let at = c.args.at in
    let count = c.args.count in
    let held = c.in_ok-held.ensures.bytes in
    let long = c.in_ok-held.ensures.whole in
    let k : at + count - at ≡ count = omega arith in
    let bare = ap (λ (m : List ℕ). take count (drop at m)) held ∙ zero_part _ at count _ k (omega (arith, long, c.requires.within)) (c.are_zeros.ensures.0 c.if-are_zeros.true) in
    let points = sym c.in_ok-block.ensures.block in
    let n = c.args.number in (
      s,
      zeros_none T _ _ n c.args.index at count c.args.last given
          (zeros_puts _ _ n found.inode exact c.args.index at count c.requires.within (λ j lo hi. zeros_held v c.in_ok-block.block (file_block v found.inode c.args.index) at count j points c.if-block-eq0.false bare lo hi))
          (zeros_by _ _ n found.inode c.args.index at count _ c.args.last.edit exact points c.if-block-eq0.false true (zeros_all _ count bare)),
    )

pub returns-in_err-edit-clause-ends : goal.returns-in_err-edit-clause-ends
returns-in_err-edit-clause-ends g c = λ T array inode e s is given.
    let old = g.S.Store.state_of c.args.store.now in
    let exact = c.in_ok-file.ensures.exact (subst IsLibrary (sym e) s.library) in
    let long = ap length c.in_ok-held.ensures.bytes ∙ c.in_ok-held.ensures.whole in
    let k : c.args.at + c.args.count - c.args.at ≡ c.args.count = omega arith in
    let other = zeros_not (latest old.lives c.in_ok-block.block) _ _ _ _ c.in_ok-held.ensures.bytes k c.are_zeros.ensures.1 c.if-are_zeros.false in
    let x = there_zeros T c.args.fs.number array old s c.args.number c.in_ok-file.file c.in_ok-file.ensures.found exact c.args.index c.in_ok-block.block _ _ c.requires.few (sym c.in_ok-block.ensures.block) c.if-block-eq0.false long c.requires.within c.requires.some other c.args.last given.0
    (g.S.Store.state_of c.put.new.store) (Err c.in_err-edit.field-0.0) (c.in_err-edit.ensures.put T e) in
    fails _ _ x.0 c.from_residual-in_err-edit.result _ c.from_residual-in_err-edit.ensures.1 x.1

pub returns-clause-ends : goal.returns-clause-ends
returns-clause-ends g c = λ T array inode e s is given.
    let old = g.S.Store.state_of c.args.store.now in
    let exact = c.in_ok-file.ensures.exact (subst IsLibrary (sym e) s.library) in
    let long = ap length c.in_ok-held.ensures.bytes ∙ c.in_ok-held.ensures.whole in
    let k : c.args.at + c.args.count - c.args.at ≡ c.args.count = omega arith in
    let other = zeros_not (latest old.lives c.in_ok-block.block) _ _ _ _ c.in_ok-held.ensures.bytes k c.are_zeros.ensures.1 c.if-are_zeros.false in
    let x = there_zeros T _ array old s _ c.in_ok-file.file c.in_ok-file.ensures.found exact _ c.in_ok-block.block _ _ c.requires.few (sym c.in_ok-block.ensures.block) c.if-block-eq0.false long c.requires.within c.requires.some other _ given.0 _ (Ok c.in_ok-edit.edit)
    (c.in_ok-edit.ensures.put T e) in
    (x.0, subst (PutsParts T _ (zeros_parts _ _ _ _ _ c.args.last.edit) old _ _ _ _ (replicate _ 0) _) (sym c.next_after.ensures) x.1)
