use Rattle.std.proofs.Common.{◌≡◌, ◌-◌, ◌≤◌, ◌*◌, ◌∙◌, ℕ, List, [], ◌∷◌, None, ap, arith, inl, refl, subst, sym, w16}
use Rattle.ffs_lib.proofs.Common.{IsLibrary, KeepsNumber, SetLinks, inode_links, latest, library_layout, put, to_le_bytes}
use Rattle.ffs_lookup.proofs.ForCallers.{same_ok}
use Rattle.ffs_lib.specs.Edits.{edit_at}
use Rattle.ffs_lib.specs.Orders.{Edits, Orders}
use Rattle.ffs_lib.specs.RepairOrder.{repaired_edits}
use Rattle.ffs_lib.specs.Steps.{Proposed}
use Rattle.ffs_lib.proofs.Laws.{finishes, home_of, more_short}
use Rattle.ffs_lib.proofs.Orders.{none_order, one_order}
use Rattle.ffs_lib.proofs.RepairOrder.{at_inode}
use Rattle.ffs_lib.proofs.Reclaiming.{links_go, nothing_repaired, set_no_keep}
use Rattle.ffs_lib.proofs.reclaim.set_links.Goals as goal

pub returns-clause-ends : goal.returns-clause-ends
returns-clause-ends g c = λ T array e s may.
    let old = g.S.Store.state_of c.args.store.now in
    let found = c.in_ok-block.field-0 in
    let is = c.in_ok-block.ensures.found in
    let exact = c.in_ok-block.ensures.exact (subst IsLibrary (sym e) s.library) in
    let edit = edit_at (64 * found.place) _ [] [] None in
    let has = may.0 in
    let same : has.inode ≡ found.inode = same_ok has.inode found.inode (has.found ∙ sym exact) in
    let less : c.args.links ≤ inode_links found.inode = let lt = may.1 in let links = ap inode_links same in omega (arith, lt, links) in
    let spare = subst (λ (i : List ℕ). KeepsNumber library_layout old.lives c.args.fs.number None (inode_links i - c.args.links) c.args.number) same has.spares in
    finishes T _ found.block edit array old _ _ _ s c.put_inode.result (c.put_inode.ensures.put T e)
    (more_short T _ array old s _ found is exact _ c.put_inode.ensures.whole _ c.set_links.ensures.fields)
    (links_go T _ array old s _ found is exact _ c.put_inode.ensures.whole _ c.set_links.ensures.fields less spare _)
    (λ fault same told. nothing_repaired T _ old _ _ (SetLinks _) (set_no_keep _) found.inode exact same found.block (inl (home_of old _ _ found.block found.place is.stands)) fault (edit, told))

pub returns-in_err-block-clause-order : goal.returns-in_err-block-clause-order
returns-in_err-block-clause-order g c = λ T array e s.
    let old = g.S.Store.state_of c.args.store.now in
    none_order T c.args.fs.number (repaired_edits (latest old.lives) c.args.fs.number c.args.number (SetLinks c.args.links)) old old refl _ c.from_residual.result c.from_residual.ensures.1

pub returns-clause-order : goal.returns-clause-order
returns-clause-order g c = λ T array e s.
    let old = g.S.Store.state_of c.args.store.now in
    let new = g.S.Store.state_of c.put_inode.new.store in
    let found = c.in_ok-block.field-0 in
    let at = c.in_ok-block.ensures.found.stands in
    let exact = c.in_ok-block.ensures.exact (subst IsLibrary (sym e) s.library) in
    let put1 = subst (λ (b : List ℕ). Proposed T c.args.fs.number found.block (edit_at (64 * found.place) b [] [] None) old new c.put_inode.result) c.set_links.ensures.bytes (c.put_inode.ensures.put T e) in
    subst (λ (edits : Edits). Orders T c.args.fs.number edits old new c.put_inode.result) (at_inode (latest old.lives) _ _ found.block found.place found.inode (λ h p m. (h, edit_at (64 * p) (put m 2 (to_le_bytes w16 c.args.links)) [] [] None) ∷ []) (home_of old _ _ found.block found.place at) at.at exact)
    (one_order T _ found.block (edit_at (64 * found.place) (put found.inode 2 (to_le_bytes w16 c.args.links)) [] [] None) old new c.put_inode.result put1)
