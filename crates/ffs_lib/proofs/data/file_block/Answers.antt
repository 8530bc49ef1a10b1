use Rattle.std.proofs.Common.{◌-◌, sym, ◌∙◌, ap, arith}
use Rattle.ffs_lib.proofs.Common.{latest, library_layout, pointer_word, step}
use Rattle.ffs_model.proofs.ForCallers.{data_owned, library_reads, under_direct}
use Rattle.ffs_lib.proofs.Edited.{pointers_reached}
use Rattle.ffs_lookup.proofs.ForCallers.{found_has, not_ok}
use Rattle.ffs_lib.proofs.data.file_block.Goals as goal

pub returns-then-index-lt-DIRECT_POINTERS-clause-reached : goal.returns-then-index-lt-DIRECT_POINTERS-clause-reached
returns-then-index-lt-DIRECT_POINTERS-clause-reached g c = λ lib there.
    let state = g.S.Store.state_of c.args.store.now in
    let file = c.args.file.now in
    let is = c.requires.file.is in
    under_direct _ library_layout (library_reads _ lib) (latest state.lives) c.args.fs.number _ file.block file.place c.direct.result is.stands.inodes
    (found_has state c.args.fs.number c.args.number file is c.args.index c.direct.result c.if-index-lt-DIRECT_POINTERS.true (sym c.direct.ensures) there)

pub returns-in_err-read_block-clause-exact : goal.returns-in_err-read_block-clause-exact
returns-in_err-read_block-clause-exact g c = λ lib.
    absurd (not_ok (c.in_err-read_block.ensures.reached 5
    (pointers_reached (g.S.Store.types_of c.args.store.now) lib (g.S.Store.state_of c.args.store.now) c.args.fs.number c.args.number c.args.file.now c.requires.file.is c.indirect-indirect.result
    (sym c.indirect-indirect.ensures) c.if-indirect-eq0.false)))

pub returns-clause-reached : goal.returns-clause-reached
returns-clause-reached g c = λ lib there.
    step {b = c.indirect-indirect.result} {t = 5} (pointers_reached _ lib _ c.args.fs.number c.args.number c.args.file.now c.requires.file.is _ (sym c.indirect-indirect.ensures) c.if-indirect-eq0.false)
    (data_owned _ lib (latest (g.S.Store.state_of c.args.store.now).lives _) (c.args.index - 12) c.pointer.result (omega arith)
    (ap (λ m. pointer_word m (c.args.index - 12)) c.in_ok-read_block.ensures.bytes ∙ sym c.pointer.ensures) there)
