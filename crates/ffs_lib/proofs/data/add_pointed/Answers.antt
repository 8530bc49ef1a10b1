use Rattle.std.proofs.Common.{◌≡◌, ◌∙◌, ◌*◌, ◌+◌, ◌-◌, ◌<◌, ℕ, List, [], ◌∷◌, Some, ap, arith, subst, sym}
use Rattle.ffs_lib.proofs.Common.{file_block, init_of, latest, put, zero_block}
use Rattle.ffs_model.proofs.ForCallers.{data_begun}
use Rattle.ffs_lookup.proofs.ForCallers.{gives_err}
use Rattle.ffs_lib.specs.Edits.{edit_at}
use Rattle.ffs_lib.specs.Steps.{Attached, Ends}
use Rattle.ffs_lib.specs.WriteOrder.{data_action, pointed_edit}
use Rattle.ffs_lib.specs.Writes.{ActedBy, PutsBy, StopsAction, WaitsAfter}
use Rattle.ffs_lib.proofs.Actions.{pointed_is}
use Rattle.ffs_lib.proofs.DataLaws.{not_begun, pointed_ends}
use Rattle.ffs_lib.proofs.DataShort.{block_long}
use Rattle.ffs_lib.proofs.Laws.{begins_by, begins_err, fails, same_stage, short_told, told_by}
use Rattle.ffs_lib.proofs.Writing.{indirect_block}
use Rattle.ffs_lib.proofs.data.add_pointed.Goals as goal

pub returns-in_err-block-clause-ends : goal.returns-in_err-block-clause-ends
returns-in_err-block-clause-ends g c = λ T array n inode e s is points there long none given.
    let old = g.S.Store.state_of c.args.store.now in
    let index = c.args.index in
    let gave = begins_err (g.S.Store.types_of c.args.store.now) T _ 2 _ _ old _ c.in_err-block.field-0.0 e c.block_with.ensures c.in_err-block.ensures.state in
    let same = gives_err (init_of T old _ 2 _) old _ _ gave in
    let told = told_by (init_of T old _ 2 _) old _ _ gave in
    let at : 12 + (index - 12) ≡ index = omega (arith, c.requires.far) in
    let hole : file_block (latest old.lives) inode index ≡ 0 = ap (file_block (latest old.lives) inode) (sym at) ∙ (indirect_block (latest old.lives) inode c.args.pointers (index - 12) points there ∙ none) in
    fails _ _ (same_stage s same) c.from_residual.result _ c.from_residual.ensures.1 (
      short_told (init_of T old _ 2 _) (data_begun T old s.keeps.consistent _ _ (block_long c.args.at c.args.bytes.now c.requires.within)) _ told,
      not_begun T _ old _ n 2 _ c.args.pointers (pointed_edit index c.args.after) _ (pointed_is (latest old.lives) _ n inode index c.args.pointers c.args.at c.args.bytes.now c.args.after is hole c.requires.far points) same _ told,
    )

pub returns-clause-ends : goal.returns-clause-ends
returns-clause-ends g c = λ T array n inode e s is points there long none given.
    let zeroth = g.S.Store.state_of c.args.store.now in
    let first = g.S.Store.state_of c.init.new.self in
    let new = g.S.Store.state_of c.attach.new.store in
    let fs = c.args.fs.number in
    let place : ℕ = c.args.index - 12 in
    let at = c.args.at in
    let bytes = c.args.bytes.now in
    let last = c.args.pointers in
    let block = c.in_ok-block.block in
    let number = c.in_ok-block.field-0-1 in
    let low : place < 128 = omega (arith, c.requires.far, c.requires.few) in
    let same : 12 + place ≡ c.args.index = omega (arith, c.requires.far) in
    let done = begins_by (g.S.Store.types_of c.args.store.now) T fs 2 _ (put zero_block at bytes) zeroth first (block, number) e c.block_with.ensures c.in_ok-block.ensures.state in
    let types = c.init.ensures.types ∙ e in
    let put_done = subst (λ (b : List ℕ). Attached T fs block last (edit_at (4 * place) b ((block, 2) ∷ []) [] c.args.after) first new c.attach.result) c.pointer_bytes.ensures.bytes (c.attach.ensures.put T types) in
    subst (λ (i : ℕ). Ends T fs array new c.attach.result (λ entry. (PutsBy zeroth new fs n (512 * i + at) bytes entry × WaitsAfter fs n zeroth new c.args.after (λ last. record { edit = Some entry; size = Some entry })) × ActedBy T fs (data_action (latest zeroth.lives) fs n i at bytes c.args.after) zeroth new entry)
    (StopsAction T fs (data_action (latest zeroth.lives) fs n i at bytes c.args.after) zeroth new n)) same
    (pointed_ends T fs array zeroth first s n inode is last place at bytes points there low long none c.requires.within block number c.is_word.ensures done c.args.after given new c.attach.result put_done)
