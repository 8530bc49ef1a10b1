use Rattle.std.proofs.Common.{◌+◌, ◌∙◌, arith, refl, sym}
use Rattle.ffs_model.specs.Cuts.{latest}
use Rattle.ffs_model.specs.Library.{library_layout}
use Rattle.ffs_model.proofs.ForCallers.{library_reads, under_direct}
use Rattle.ffs_lookup.proofs.Finding.{found_has, gap_is}
use Rattle.ffs_lookup.proofs.Newest.{not_ok}
use Rattle.ffs_lookup.proofs.Rooms.{gap_found, gap_none, gap_past, gap_place, no_room, pointer_left, pointer_place}
use Rattle.ffs_lookup.proofs.places.find_room.Goals as goal

pub returns-in-Some-clause-room : goal.returns-in-Some-clause-room
returns-in-Some-clause-room g c =
    let block = c.direct-block in
    gap_is (g.S.Store.state_of c.args.store.now) c.args.fs.number c.args.number c.args.directory.now c.requires c.loop-i.i block.result (omega arith) (sym block.ensures) c.if-block-eq0.false
    c.in_ok-read_block.field-0.now c.in_ok-read_block.ensures.bytes c.in_ok-read_block.ensures.whole c.in-Some.place c.in-Some.ensures.gap.0 c.in-Some.ensures.gap.1

pub returns-in-Some-clause-exact : goal.returns-in-Some-clause-exact
returns-in-Some-clause-exact g c = λ lib.
    gap_found (latest (g.S.Store.state_of c.args.store.now).lives) c.args.directory.now.inode c.loop-i.i (c.loop-i.i + 1) refl c.direct-block.result c.in_ok-read_block.field-0.now
    (sym c.direct-block.ensures) c.if-block-eq0.false c.in_ok-read_block.ensures.bytes (omega arith) c.in-Some.place c.in-Some.ensures.exact

pub returns-in-Some-clause-place : goal.returns-in-Some-clause-place
returns-in-Some-clause-place g c =
    gap_place (latest (g.S.Store.state_of c.args.store.now).lives) c.args.directory.now.inode c.loop-i.i (c.loop-i.i + 1) refl c.direct-block.result c.in_ok-read_block.field-0.now
    (sym c.direct-block.ensures) c.if-block-eq0.false c.in_ok-read_block.ensures.bytes (omega arith) c.loop-i.invariant c.in-Some.place c.in-Some.ensures.exact

pub returns-in_err-read_block-clause-exact : goal.returns-in_err-read_block-clause-exact
returns-in_err-read_block-clause-exact g c = λ lib.
    let state = g.S.Store.state_of c.args.store.now in
    let found = c.args.directory.now in
    let stands = c.requires.is.stands in
    let block = c.direct-block in
    absurd (not_ok (c.in_err-read_block.ensures.reached 2
    (under_direct _ library_layout (library_reads _ lib) (latest state.lives) c.args.fs.number _ found.block found.place block.result stands.inodes
    (found_has state c.args.fs.number c.args.number found c.requires.is c.loop-i.i block.result (omega arith) (sym block.ensures) c.if-block-eq0.false))))

pub loop-i-preserved-then-block-eq0 : goal.loop-i-preserved-then-block-eq0
loop-i-preserved-then-block-eq0 g c =
    gap_past (latest (g.S.Store.state_of c.args.store.now).lives) c.args.directory.now.inode c.loop-i.i (c.loop-i.i + 1) refl c.loop-i.invariant (sym c.direct-block.ensures ∙ c.if-block-eq0.true)

pub loop-i-preserved : goal.loop-i-preserved
loop-i-preserved g c =
    gap_none (latest (g.S.Store.state_of c.args.store.now).lives) c.args.directory.now.inode c.loop-i.i (c.loop-i.i + 1) refl c.direct-block.result c.in_ok-read_block.field-0.now
    (sym c.direct-block.ensures) c.if-block-eq0.false c.in_ok-read_block.ensures.bytes c.loop-i.invariant c.in_default.ensures.exact

pub returns-in-Some-empty_direct-clause-exact : goal.returns-in-Some-empty_direct-clause-exact
returns-in-Some-empty_direct-clause-exact g c = λ lib.
    pointer_left (latest (g.S.Store.state_of c.args.store.now).lives) c.args.directory.now.inode c.loop-i.i (omega arith) c.loop-i.invariant _ c.in-Some-empty_direct.ensures.exact

pub returns-in-Some-empty_direct-clause-place : goal.returns-in-Some-empty_direct-clause-place
returns-in-Some-empty_direct-clause-place g c =
    pointer_place (latest (g.S.Store.state_of c.args.store.now).lives) c.args.directory.now.inode c.loop-i.i (omega arith) c.loop-i.invariant _ c.in-Some-empty_direct.ensures.exact

pub returns-in-None-clause-exact : goal.returns-in-None-clause-exact
returns-in-None-clause-exact g c = λ lib.
    (refl, no_room (latest (g.S.Store.state_of c.args.store.now).lives) c.args.directory.now.inode c.loop-i.i (omega arith) c.loop-i.invariant c.in-None.ensures.exact)
