use Rattle.std.proofs.Common.{◌∙◌, ◌+◌, ◌*◌, ℕ, [], None, ap, arith, subst, sym, w16}
use Rattle.ffs_lib.proofs.Common.{IsLibrary, latest, put, to_le_bytes}
use Rattle.ffs_lib.specs.Edits.{edit_at}
use Rattle.ffs_lib.specs.Orders.{Edits, Orders}
use Rattle.ffs_lib.proofs.Tests.{never}
use Rattle.ffs_lib.proofs.Laws.{at_home, finishes, home_of, link_more, more_short}
use Rattle.ffs_lib.proofs.Orders.{linked_is, numbered, one_order}
use Rattle.ffs_lib.proofs.PairLaws.{pairs_at_home}
use Rattle.ffs_lib.proofs.put.add_link.Goals as goal

pub returns-clause-ends : goal.returns-clause-ends
returns-clause-ends g c = λ T array inode e s is fewer.
    let found = c.in_ok-block.field-0 in
    let at = c.in_ok-block.ensures.found in
    let exact = c.in_ok-block.ensures.exact (subst IsLibrary (sym e) s.library) in
    finishes T _ found.block (edit_at (64 * found.place) _ [] [] None) array _ _ _ _ s c.put_inode.result (c.put_inode.ensures.put T e)
    (more_short T _ array _ s _ found at exact _ c.put_inode.ensures.whole _ c.set_links.ensures.fields)
    (λ entry done. let x = link_more T _ array _ s _ found at exact _ c.put_inode.ensures.whole _ c.set_links.ensures.fields _ (omega (arith, c.links-links.ensures)) entry done in (x.0, (x.1, x.2)))
    (λ fault same told. at_home T _ _ _ _ found.block found.place at.stands same fault (edit_at (64 * found.place) _ [] [] None, told))

pub returns-clause-pairs : goal.returns-clause-pairs
returns-clause-pairs g c = λ T array e s.
    let found = c.in_ok-block.field-0 in
    let at = c.in_ok-block.ensures.found in
    pairs_at_home T c.args.fs.number array (g.S.Store.state_of c.args.store.now) s (g.S.Store.state_of c.put_inode.new.store) c.args.number found.block found.place at.stands (edit_at (64 * found.place) c.set_links.new.self [] [] None) c.put_inode.result (c.put_inode.ensures.put T e)

pub returns-in_err-block-clause-order : goal.returns-in_err-block-clause-order
returns-in_err-block-clause-order g c = λ T array inode e s is fewer. absurd (never inode _ (is ∙ sym (c.in_err-block.ensures.exact (subst IsLibrary (sym e) s.library))))

pub returns-clause-order : goal.returns-clause-order
returns-clause-order g c = λ T array inode e s is fewer.
    let old = g.S.Store.state_of c.args.store.now in
    let new = g.S.Store.state_of c.put_inode.new.store in
    let found = c.in_ok-block.field-0 in
    let at = c.in_ok-block.ensures.found.stands in
    let exact = c.in_ok-block.ensures.exact (subst IsLibrary (sym e) s.library) in
    let done = c.put_inode.ensures.put T e in
    let bytes = c.set_links.ensures.bytes ∙ ap (λ (k : ℕ). put found.inode 2 (to_le_bytes w16 (k + 1))) c.links-links.ensures in (
      subst (λ (edits : Edits). Orders T c.args.fs.number edits old new c.put_inode.result) (linked_is (latest old.lives) _ _ found.block found.place found.inode c.set_links.new.self (home_of old _ _ found.block found.place at) at.at exact bytes)
          (one_order T _ found.block (edit_at (64 * found.place) c.set_links.new.self [] [] None) old new c.put_inode.result done),
      numbered T _ found.block (edit_at (64 * found.place) c.set_links.new.self [] [] None) old new c.put_inode.result done,
    )
