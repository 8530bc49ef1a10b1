use Rattle.std.proofs.Common.{◌≡◌, ◌+◌, ◌++◌, ◌∙◌, ℕ, ap, append_assoc, arith, refl, subst, sym, append-nil}
use Rattle.ffs_model.specs.Cuts.{latest}
use Rattle.ffs_model.specs.Library.{library_layout}
use Rattle.ffs_model.proofs.ForCallers.{library_reads, under_direct}
use Rattle.ffs_lookup.specs.Counts.{AreCounts, numbers_in}
use Rattle.ffs_lookup.proofs.Counting.{directory_more, directory_past, first_numbers}
use Rattle.ffs_lookup.proofs.Finding.{found_has}
use Rattle.ffs_lookup.proofs.Newest.{not_ok}
use Rattle.ffs_lookup.proofs.counts.NameCounts.add_directory.Goals as goal

pub loop-i-init : goal.loop-i-init
loop-i-init g c = λ numbers a. subst (λ xs. AreCounts xs c.args.self.now) (sym (append-nil numbers)) a

pub loop-i-preserved-then-block-eq0 : goal.loop-i-preserved-then-block-eq0
loop-i-preserved-then-block-eq0 g c = λ numbers a.
    subst (λ xs. AreCounts (numbers ++ xs) c.loop-i.self) (sym (directory_past _ _ c.loop-i.i (c.loop-i.i + 1) refl (sym c.direct-block.ensures ∙ c.if-block-eq0.true)))
    (c.loop-i.invariant numbers a)

pub loop-i-preserved : goal.loop-i-preserved
loop-i-preserved g c = λ numbers a.
    let content = latest (g.S.Store.state_of c.args.store.now).lives in
    let before = first_numbers content _ c.loop-i.i in
    let same : (numbers ++ before) ++ numbers_in c.in_ok-read_block.field-0.now ≡ numbers ++ first_numbers content c.args.directory.now.inode (c.loop-i.i + 1) =
    append_assoc numbers before _
    ∙ ap (λ xs. numbers ++ xs) (sym (directory_more content _ c.loop-i.i (c.loop-i.i + 1) refl c.direct-block.result _ (sym c.direct-block.ensures) c.if-block-eq0.false c.in_ok-read_block.ensures.bytes)) in
    subst (λ xs. AreCounts xs c.add_block.new.self) same (c.add_block.ensures (numbers ++ before) (c.loop-i.invariant numbers a))

pub returns-in_err-read_block-clause-done : goal.returns-in_err-read_block-clause-done
returns-in_err-read_block-clause-done g c = λ lib.
    let state = g.S.Store.state_of c.args.store.now in
    let found = c.args.directory.now in
    let block = c.direct-block in
    absurd (not_ok (c.in_err-read_block.ensures.reached 2
    (under_direct _ library_layout (library_reads _ lib) (latest state.lives) c.args.fs.number _ found.block found.place block.result c.requires.is.stands.inodes
    (found_has state c.args.fs.number c.args.number found c.requires.is c.loop-i.i block.result (omega arith) (sym block.ensures) c.if-block-eq0.false))))

pub returns-clause-counts : goal.returns-clause-counts
returns-clause-counts g c = λ numbers a.
    let content = latest (g.S.Store.state_of c.args.store.now).lives in
    let all : c.loop-i.i ≡ 12 = omega arith in
    subst (λ (n : ℕ). AreCounts (numbers ++ first_numbers content c.args.directory.now.inode n) c.loop-i.self) all (c.loop-i.invariant numbers a)
