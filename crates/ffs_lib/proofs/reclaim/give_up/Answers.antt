use Rattle.std.proofs.Common.{rules, ◌≡◌, ◌∙◌, ◌*◌, ℕ, List, [], ◌∷◌, None, Option, ap, inr, refl, replicate, subst, sym}
use Rattle.ffs_lib.proofs.Common.{GiveUp, IsLibrary, KeepsNumber, Types, inode_links, latest, library_layout, propose_of}
use Rattle.ffs_lookup.proofs.ForCallers.{same_ok}
use Rattle.ffs_lib.specs.Edits.{data_of_inode, edit_at}
use Rattle.ffs_lib.specs.Outcomes.{HasNoData}
use Rattle.ffs_lib.specs.RepairOrder.{repaired_edits}
use Rattle.ffs_lib.specs.Steps.{Proposed, ShortEdit, Stage}
use Rattle.ffs_lib.specs.Reclaiming.{emptying}
use Rattle.ffs_lib.proofs.Tests.{never}
use Rattle.ffs_lib.proofs.Laws.{fails, finishes, home_of, no_memory, same_stage, short_told}
use Rattle.ffs_lib.proofs.Orders.{none_order, one_order}
use Rattle.ffs_lib.proofs.RepairOrder.{gives_up_order}
use Rattle.ffs_lib.proofs.Reclaiming.{Empties, empties, empties_short, give_no_keep, given_up_then, inode_goes, inode_short, nothing_repaired, pointers_emptied, reached_pointers}
use Rattle.ffs_lib.proofs.reclaim.give_up.Given.{Over}
use Rattle.ffs_lib.proofs.reclaim.give_up.Goals.{In_ok-empty_pointers}
use Rattle.ffs_lib.proofs.reclaim.give_up.Goals as goal

emptied_so : (g : Over) (c : In_ok-empty_pointers g) (T : Types) (array : ℕ → Option ℕ) → g.S.Store.types_of c.args.store.now ≡ T → Stage T c.args.fs.number array (g.S.Store.state_of c.args.store.now) →
    Empties T c.args.fs.number array (g.S.Store.state_of c.args.store.now) (g.S.Store.state_of c.empty_pointers.new.store) c.args.number c.in_ok-found.found.inode c.indirect.result
emptied_so g c T array e s =
    let is = c.in_ok-found.ensures.found in
    let exact = c.in_ok-found.ensures.exact (subst IsLibrary (sym e) s.library) in
    let points = sym c.indirect.ensures in
    let under = reached_pointers T c.args.fs.number array _ s c.args.number c.in_ok-found.found is exact c.indirect.result points in
    let put = c.in_ok-empty_pointers.ensures.put T e under in
    record { exact = exact; under = under; put = put; leaves = empties T c.args.fs.number array _ s c.args.number c.in_ok-found.found is exact c.indirect.result points (g.S.Store.state_of c.empty_pointers.new.store) put }

pub returns-in_err-found-clause-order : goal.returns-in_err-found-clause-order
returns-in_err-found-clause-order g c = λ T array e s.
    let old = g.S.Store.state_of c.args.store.now in
    none_order T c.args.fs.number (repaired_edits (latest old.lives) c.args.fs.number c.args.number GiveUp) old old refl _ c.from_residual.result c.from_residual.ensures.1

pub returns-in_err-empty_pointers : goal.returns-in_err-empty_pointers
returns-in_err-empty_pointers g c =
    let old = g.S.Store.state_of c.args.store.now in
    let is = c.in_ok-found.ensures.found in
    let points = sym c.indirect.ensures in
    let edit = emptying old _ in
    record {
      types = search rules;
      ends = λ T array e s may.
          let exact = c.in_ok-found.ensures.exact (subst IsLibrary (sym e) s.library) in
          let p = c.in_err-empty_pointers.ensures.put T e (reached_pointers T _ array old s _ _ is exact _ points) in
          fails _ _ (same_stage s p.0) c.from_residual-in_err-empty_pointers.result _ c.from_residual-in_err-empty_pointers.ensures.1
          (short_told (propose_of T old _ _ edit) (empties_short T _ array old s _ _ is exact _ points p.1 p.2) _ p.3, nothing_repaired T _ old _ _ GiveUp give_no_keep c.in_ok-found.found.inode exact p.0 _ (inr (sym points)) _ (edit, p.3));
      order = λ T array e s.
          let exact = c.in_ok-found.ensures.exact (subst IsLibrary (sym e) s.library) in
          let p = c.in_err-empty_pointers.ensures.put T e (reached_pointers T _ array old s _ c.in_ok-found.found c.in_ok-found.ensures.found exact c.indirect.result (sym c.indirect.ensures)) in
          none_order T _ (repaired_edits (latest old.lives) _ _ GiveUp) old (g.S.Store.state_of c.empty_pointers.new.store) p.0 _ c.from_residual-in_err-empty_pointers.result c.from_residual-in_err-empty_pointers.ensures.1;
    }

pub returns-in_err-found-2 : goal.returns-in_err-found-2
returns-in_err-found-2 g c =
    let p = (goal.at.returns-in_err-found-2 g c).In_ok-empty_pointers in
    let types = c.empty_pointers.ensures.types in
    record {
      types = search rules;
      ends = λ T array e s may. absurd (never _ _ ((emptied_so g p T array e s).leaves.same ∙ sym (c.in_err-found-2.ensures.exact (subst IsLibrary (sym (types ∙ e)) s.library))));
      order = λ T array e s. absurd (never _ _ ((emptied_so g p T array e s).leaves.same ∙ sym (c.in_err-found-2.ensures.exact (subst IsLibrary (sym (types ∙ e)) s.library))));
    }

pub returns-in_err-drops : goal.returns-in_err-drops
returns-in_err-drops g c =
    let first = g.S.Store.state_of c.empty_pointers.new.store in
    let again = c.in_ok-found-2.found in
    let at = c.in_ok-found-2.ensures.found.stands in
    let home = home_of first _ _ again.block again.place at in
    let edit = emptying first again.block in
    let from = c.from_residual-in_err-drops.ensures.1 in
    let p = (goal.at.returns-in_err-drops g c).In_ok-empty_pointers in
    record {
      types = search rules;
      ends = λ T array e s may.
          let d = emptied_so g p T array e s in
          fails _ _ d.leaves.stage c.from_residual-in_err-drops.result _ from
          (refl, pointers_emptied T _ array _ first first _ _ d.exact d.leaves refl again.block home _ (edit, no_memory (propose_of T first _ again.block edit)));
      order = λ T array e s.
          let d = emptied_so g p T array e s in
          gives_up_order T s.library _ s.few _ first first s.keeps.consistent _ _ d.exact c.indirect.result (sym c.indirect.ensures) d.under d.put again.block again.place home at.at c.from_residual-in_err-drops.result
          (none_order T _ ((again.block, edit_at (64 * again.place) (replicate 64 0) [] (data_of_inode _) None) ∷ []) first first refl _ c.from_residual-in_err-drops.result from);
    }

pub returns : goal.returns
returns g c =
    let fs = c.args.fs.number in
    let n = c.args.number in
    let first = g.S.Store.state_of c.empty_pointers.new.store in
    let new = g.S.Store.state_of c.put_inode.new.store in
    let again = c.in_ok-found-2.found in
    let is = c.in_ok-found-2.ensures.found in
    let home = home_of first fs n again.block again.place is.stands in
    let edit = edit_at (64 * again.place) _ [] c.deref.result.now None in
    let p = (goal.at.returns g c).In_ok-empty_pointers in
    record {
      types = search rules;
      ends = λ T array e s may.
          let d = emptied_so g p T array e s in
          let k = d.leaves in
          let types = c.empty_pointers.ensures.types ∙ e in
          let exact = c.in_ok-found-2.ensures.exact (subst IsLibrary (sym types) s.library) in
          let same : again.inode ≡ c.in_ok-found.found.inode = same_ok again.inode _ (exact ∙ sym k.same) in
          let own : may.inode ≡ again.inode = same_ok may.inode _ (may.found ∙ sym d.exact) ∙ sym same in
          let none : HasNoData T (latest first.lives) again.inode = subst (λ (i : List ℕ). HasNoData T (latest first.lives) i) (sym same) k.none in
          let spare : KeepsNumber library_layout first.lives fs None (inode_links again.inode) n = subst (λ (i : List ℕ). KeepsNumber library_layout first.lives fs None (inode_links i) n) own (k.spares n (inode_links may.inode) may.some may.spares) in
          finishes T fs again.block edit array first new _ _ k.stage c.put_inode.result (c.put_inode.ensures.put T types)
          (subst (λ (ds : List ℕ). ShortEdit T first fs again.block (edit_at (64 * again.place) c.free.result [] ds None)) (sym (c.deref.ensures.value ∙ c.in_ok-drops.ensures)) (inode_short T fs array first k.stage n again is exact none _ c.free.ensures))
          (λ entry done.
          let x = inode_goes T fs array first k.stage n again is exact none _ c.free.ensures spare new _ entry done in
          (x.0, given_up_then T fs array _ first new n _ k x.1))
          (λ fault left told. pointers_emptied T fs array _ first new n _ d.exact k left again.block home fault (edit, told));
      order = λ T array e s.
          let d = emptied_so g p T array e s in
          let types = c.empty_pointers.ensures.types ∙ e in
          let same : again.inode ≡ c.in_ok-found.found.inode = same_ok again.inode _ (c.in_ok-found-2.ensures.exact (subst IsLibrary (sym types) s.library) ∙ sym d.leaves.same) in
          gives_up_order T s.library fs s.few _ first new s.keeps.consistent n _ d.exact c.indirect.result (sym c.indirect.ensures) d.under d.put again.block again.place home is.stands.at c.put_inode.result
          (one_order T fs again.block (edit_at (64 * again.place) (replicate 64 0) [] (data_of_inode _) None) first new c.put_inode.result
          (subst (λ (ds : List ℕ). Proposed T fs again.block (edit_at (64 * again.place) (replicate 64 0) [] ds None) first new c.put_inode.result) (c.deref.ensures.value ∙ (c.in_ok-drops.ensures ∙ ap data_of_inode same))
          (subst (λ (b : List ℕ). Proposed T fs again.block (edit_at (64 * again.place) b [] c.deref.result.now None) first new c.put_inode.result) c.free.ensures (c.put_inode.ensures.put T types))));
    }
