use Rattle.std.proofs.Common.{◌≡◌, ◌+◌, ◌∙◌, ap, arith, refl, sym}
use Rattle.ffs_model.specs.Cuts.{latest, root}
use Rattle.ffs_model.specs.Library.{library_layout, pointer_word}
use Rattle.ffs_model.proofs.ForCallers.{library_reads, under_inodes}
use Rattle.std.specs.List.{list_any, range_with_len}
use Rattle.ffs_lookup.specs.Newest.{has_free_at, has_free_inode, number_in}
use Rattle.ffs_lookup.proofs.Finding.{free_is, pointer_is}
use Rattle.ffs_lookup.proofs.Newest.{not_ok}
use Rattle.ffs_lookup.proofs.Rooms.{free_at_found, free_at_full, free_at_none, free_here, free_lowest, free_more}
use Rattle.ffs_lookup.proofs.Walks.{same_ok}
use Rattle.ffs_lookup.proofs.places.find_free.Goals as goal

pub returns-in-Some-clause-free : goal.returns-in-Some-clause-free
returns-in-Some-clause-free g c =
    free_is (g.S.Store.state_of c.args.store.now) c.args.fs.number c.in_ok-root.root c.loop-index.index c.in-Some.place c.pointer-block.result _
    c.in_ok-read_block.field-0.now c.in_ok-read_block-2.field-0.now c.in_ok-root.ensures.root c.in_ok-read_block.ensures.bytes (omega arith) (sym c.pointer-block.ensures) c.if-block-eq0.false
    c.in_ok-read_block-2.ensures.bytes c.in_ok-read_block-2.ensures.whole c.in-Some.ensures.free.0 c.in-Some.ensures.free.1 refl

pub returns-in-Some-clause-exact : goal.returns-in-Some-clause-exact
returns-in-Some-clause-exact g c = λ lib top e.
    let content = latest (g.S.Store.state_of c.args.store.now).lives in
    let same : c.in_ok-root.root ≡ top = same_ok c.in_ok-root.root top (c.in_ok-root.ensures.exact ∙ sym e) in
    free_here content c.in_ok-root.root c.loop-index.index c.pointer-block.result c.in_ok-read_block.field-0.now c.in_ok-read_block.ensures.bytes c.pointer-block.ensures (omega arith)
    (free_at_found content c.pointer-block.result c.in_ok-read_block-2.field-0.now c.in_ok-read_block-2.ensures.bytes c.if-block-eq0.false c.in-Some.place c.in-Some.ensures.exact)
    ∙ ap (has_free_inode content) same

pub returns-in-Some-clause-lowest : goal.returns-in-Some-clause-lowest
returns-in-Some-clause-lowest g c = λ top e.
    let content = latest (g.S.Store.state_of c.args.store.now).lives in
    let same : c.in_ok-root.root ≡ top = same_ok c.in_ok-root.root top (c.in_ok-root.ensures.exact ∙ sym e) in
    free_lowest content c.in_ok-root.root c.loop-index.index c.pointer-block.result c.in_ok-read_block.field-0.now c.in_ok-read_block.ensures.bytes c.pointer-block.ensures (omega arith) c.loop-index.invariant
    (free_at_found content c.pointer-block.result _ c.in_ok-read_block-2.ensures.bytes c.if-block-eq0.false c.in-Some.place c.in-Some.ensures.exact)
    _ c.in_ok-read_block-2.ensures.bytes c.in-Some.place c.in-Some.ensures.exact
    ∙ ap (number_in content) same

pub returns-in_err-read_block-clause-exact : goal.returns-in_err-read_block-clause-exact
returns-in_err-read_block-clause-exact g c = λ lib. absurd (not_ok (c.in_err-read_block.ensures.reached 3 (root c.in_ok-root.ensures.root.at c.in_ok-root.ensures.root.there)))

pub returns-in_err-read_block-2-clause-exact : goal.returns-in_err-read_block-2-clause-exact
returns-in_err-read_block-2-clause-exact g c = λ lib.
    let T = g.S.Store.types_of c.args.store.now in
    let content = latest (g.S.Store.state_of c.args.store.now).lives in
    let index = c.loop-index.index in
    absurd (not_ok (c.in_err-read_block-2.ensures.reached 4
    (under_inodes T library_layout (library_reads T lib) content c.args.fs.number index c.pointer-block.result (record {
      root = c.in_ok-root.root;
      is_root = c.in_ok-root.ensures.root;
      points = pointer_is (content c.in_ok-root.root) index (omega arith) ∙ (ap (λ m. pointer_word m index) c.in_ok-read_block.ensures.bytes ∙ sym c.pointer-block.ensures);
      there = c.if-block-eq0.false;
    }))))

pub loop-index-preserved-then-block-eq0 : goal.loop-index-preserved-then-block-eq0
loop-index-preserved-then-block-eq0 g c =
    let content = latest (g.S.Store.state_of c.args.store.now).lives in
    free_more content c.in_ok-root.root c.loop-index.index c.pointer-block.result c.in_ok-read_block.field-0.now c.in_ok-read_block.ensures.bytes c.pointer-block.ensures (c.loop-index.index + 1) refl c.loop-index.invariant
    (free_at_none content c.pointer-block.result (content c.pointer-block.result) refl c.if-block-eq0.true)

pub loop-index-preserved : goal.loop-index-preserved
loop-index-preserved g c =
    let content = latest (g.S.Store.state_of c.args.store.now).lives in
    free_more content c.in_ok-root.root c.loop-index.index c.pointer-block.result c.in_ok-read_block.field-0.now c.in_ok-read_block.ensures.bytes c.pointer-block.ensures (c.loop-index.index + 1) refl c.loop-index.invariant
    (free_at_full content c.pointer-block.result c.in_ok-read_block-2.field-0.now c.in_ok-read_block-2.ensures.bytes c.if-block-eq0.false c.in_default.ensures.exact)

pub returns-clause-exact : goal.returns-clause-exact
returns-clause-exact g c = λ lib top e.
    let content = latest (g.S.Store.state_of c.args.store.now).lives in
    let same : c.in_ok-root.root ≡ top = same_ok c.in_ok-root.root top (c.in_ok-root.ensures.exact ∙ sym e) in
    let all : c.loop-index.index ≡ 16 = omega arith in
    sym (ap (λ n. list_any (λ i. has_free_at content (pointer_word (content c.in_ok-root.root) i)) (range_with_len 0 n)) (sym all) ∙ c.loop-index.invariant) ∙ ap (has_free_inode content) same

pub returns-clause-lowest : goal.returns-clause-lowest
returns-clause-lowest g c = λ top e.
    let content = latest (g.S.Store.state_of c.args.store.now).lives in
    let same : c.in_ok-root.root ≡ top = same_ok c.in_ok-root.root top (c.in_ok-root.ensures.exact ∙ sym e) in
    let all : c.loop-index.index ≡ 16 = omega arith in
    ap (has_free_inode content) (sym same) ∙ (ap (λ n. list_any (λ i. has_free_at content (pointer_word (content c.in_ok-root.root) i)) (range_with_len 0 n)) (sym all) ∙ c.loop-index.invariant)
