use Rattle.std.proofs.Common.{sym, arith, ◌+◌, ◌∙◌, ap, Ok, refl}
use Rattle.ffs_model.specs.Cuts.{latest}
use Rattle.ffs_model.proofs.ForCallers.{library_reads, under_direct}
use Rattle.ffs_model.specs.Library.{library_layout}
use Rattle.ffs_lookup.proofs.Finding.{found_has, slot_is}
use Rattle.ffs_lookup.proofs.Newest.{not_ok}
use Rattle.ffs_lookup.proofs.Walks.{first_is, none_all, none_more, none_past}
use Rattle.ffs_lookup.proofs.places.find_entry.Goals as goal

pub returns-in-Some-clause-slot : goal.returns-in-Some-clause-slot
returns-in-Some-clause-slot g c =
    let block = c.direct-block in
    let place = c.in-Some.ensures.entry in
    slot_is (g.S.Store.state_of c.args.store.now) c.args.fs.number c.args.number c.args.directory.now c.requires c.loop-i.i block.result (omega arith) (sym block.ensures) c.if-block-eq0.false
    c.in_ok-bytes.bytes.now c.in_ok-bytes.ensures.bytes c.in_ok-bytes.ensures.whole c.in-Some.place c.entry_inode-inode.result place.0 place.1 c.entry_inode-inode.ensures

pub returns-in-Some-clause-exact : goal.returns-in-Some-clause-exact
returns-in-Some-clause-exact g c = λ lib.
    ap Ok (first_is (latest (g.S.Store.state_of c.args.store.now).lives) c.args.directory.now.inode c.args.name.now c.loop-i.i (c.loop-i.i + 1) refl c.loop-i.invariant
    c.direct-block.result c.in_ok-bytes.bytes.now (sym c.direct-block.ensures) c.if-block-eq0.false c.in_ok-bytes.ensures.bytes c.in-Some.place c.entry_inode-inode.result (omega arith) c.in-Some.ensures.exact c.entry_inode-inode.ensures)

pub returns-in_err-bytes-clause-exact : goal.returns-in_err-bytes-clause-exact
returns-in_err-bytes-clause-exact g c = λ lib.
    let state = g.S.Store.state_of c.args.store.now in
    let found = c.args.directory.now in
    let stands = c.requires.is.stands in
    let block = c.direct-block in
    absurd (not_ok (c.in_err-bytes.ensures.reached 2
    (under_direct _ library_layout (library_reads _ lib) (latest state.lives) c.args.fs.number _ found.block found.place block.result stands.inodes
    (found_has state c.args.fs.number c.args.number found c.requires.is c.loop-i.i block.result (omega arith) (sym block.ensures) c.if-block-eq0.false))))

pub loop-i-preserved-then-block-eq0 : goal.loop-i-preserved-then-block-eq0
loop-i-preserved-then-block-eq0 g c =
    none_past (latest (g.S.Store.state_of c.args.store.now).lives) c.args.directory.now.inode c.args.name.now c.loop-i.i (c.loop-i.i + 1) refl c.loop-i.invariant (sym c.direct-block.ensures ∙ c.if-block-eq0.true)

pub loop-i-preserved : goal.loop-i-preserved
loop-i-preserved g c =
    none_more (latest (g.S.Store.state_of c.args.store.now).lives) c.args.directory.now.inode c.args.name.now c.loop-i.i (c.loop-i.i + 1) refl c.loop-i.invariant
    c.direct-block.result c.in_ok-bytes.bytes.now (sym c.direct-block.ensures) c.if-block-eq0.false c.in_ok-bytes.ensures.bytes c.in_default.ensures.exact

pub returns-clause-exact : goal.returns-clause-exact
returns-clause-exact g c = λ lib.
    ap Ok (none_all (latest (g.S.Store.state_of c.args.store.now).lives) c.args.directory.now.inode c.args.name.now c.loop-i.i (omega arith) c.loop-i.invariant)
