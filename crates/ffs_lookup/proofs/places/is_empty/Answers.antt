use Rattle.std.proofs.Common.{sym, arith, ◌+◌, ◌∙◌, ap, Ok, refl}
use Rattle.ffs_model.specs.Cuts.{latest}
use Rattle.ffs_model.proofs.ForCallers.{library_reads, under_direct}
use Rattle.ffs_model.specs.Library.{library_layout}
use Rattle.ffs_lookup.proofs.Finding.{found_has}
use Rattle.ffs_lookup.proofs.Newest.{not_ok}
use Rattle.ffs_lookup.proofs.Walks.{empty_all, empty_more, empty_past, not_empty}
use Rattle.ffs_lookup.proofs.places.is_empty.Goals as goal

pub returns-in_err-bytes : goal.returns-in_err-bytes
returns-in_err-bytes g c = λ n lib dir.
    let state = g.S.Store.state_of c.args.store.now in
    let found = c.args.directory.now in
    let block = c.direct-block in
    absurd (not_ok (c.in_err-bytes.ensures.reached 2
    (under_direct _ library_layout (library_reads _ lib) (latest state.lives) c.args.fs.number _ found.block found.place block.result dir.is.stands.inodes
    (found_has state c.args.fs.number n found dir.is c.loop-i.i block.result (omega arith) (sym block.ensures) c.if-block-eq0.false))))

pub loop-i-preserved-then-block-eq0 : goal.loop-i-preserved-then-block-eq0
loop-i-preserved-then-block-eq0 g c =
    empty_past (latest (g.S.Store.state_of c.args.store.now).lives) c.args.directory.now.inode c.loop-i.i (c.loop-i.i + 1) refl c.loop-i.invariant (sym c.direct-block.ensures ∙ c.if-block-eq0.true)

pub loop-i-preserved : goal.loop-i-preserved
loop-i-preserved g c =
    empty_more (latest (g.S.Store.state_of c.args.store.now).lives) c.args.directory.now.inode c.loop-i.i (c.loop-i.i + 1) refl c.loop-i.invariant
    c.direct-block.result c.in_ok-bytes.bytes.now (sym c.direct-block.ensures) c.if-block-eq0.false c.in_ok-bytes.ensures.bytes (sym c.has_entries.ensures ∙ c.if-has_entries.false)

pub returns-then-has_entries : goal.returns-then-has_entries
returns-then-has_entries g c = λ n lib dir.
    ap Ok (not_empty (latest (g.S.Store.state_of c.args.store.now).lives) c.args.directory.now.inode c.loop-i.i (c.loop-i.i + 1) refl c.loop-i.invariant
    c.direct-block.result c.in_ok-bytes.bytes.now (sym c.direct-block.ensures) c.if-block-eq0.false c.in_ok-bytes.ensures.bytes (omega arith) (sym c.has_entries.ensures ∙ c.if-has_entries.true))

pub returns : goal.returns
returns g c = λ n lib dir.
    ap Ok (empty_all (latest (g.S.Store.state_of c.args.store.now).lives) c.args.directory.now.inode c.loop-i.i (omega arith) c.loop-i.invariant)
