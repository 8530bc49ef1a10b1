use Rattle.std.proofs.Common.{rules, ◌≡◌, ◌∙◌, ◌*◌, ◌-◌, ℕ, List, [], Err, Option, Some, ap, arith, refl, replicate, subst, sym, inl, inr, w16}
use Rattle.ffs_lib.proofs.Common.{IsLibrary, Kernel, NoMemory, Types, inode_links, latest, propose_of, put, to_le_bytes, word_at}
use Rattle.ffs_lookup.proofs.ForCallers.{same_ok}
use Rattle.ffs_lib.specs.Edits.{data_of_inode, edit_at}
use Rattle.ffs_lib.specs.Orders.{Edits, Orders, free_edit, links_edit, taken_edits}
use Rattle.ffs_lib.specs.Outcomes.{HasNoData}
use Rattle.ffs_lib.specs.Steps.{MayLose, Proposed, ShortEdit, Stage, clearing}
use Rattle.ffs_lib.proofs.Tests.{never}
use Rattle.ffs_lib.proofs.Orders.{more_links, none_order, one_order, order_err, taken_is, taken_last}
use Rattle.ffs_lib.proofs.Laws.{Drops, at_pointers, data_taken, drops, drops_short, fails, finishes, free_short, frees, given_up, home_of, link_less, link_short, no_memory, nothing_taken, same_stage, short_told}
use Rattle.ffs_lib.proofs.PairLaws.{direct_dropped, pairs_at_home, pairs_dropped, pairs_same, pairs_then}
use Rattle.ffs_lib.proofs.TurnLaws.{data_waits, free_waits, link_waits, on_proposed}
use Rattle.ffs_lib.proofs.put.take_link.Given.{Over}
use Rattle.ffs_lib.proofs.put.take_link.Goals.{In_ok-dropped}
use Rattle.ffs_lib.proofs.put.take_link.Goals as goal

dropped_so : (g : Over) (c : In_ok-dropped g) (T : Types) (array : ℕ → Option ℕ) → g.S.Store.types_of c.args.store.now ≡ T → Stage T c.args.fs.number array (g.S.Store.state_of c.args.store.now) → MayLose (g.S.Store.state_of c.args.store.now) c.args.fs.number c.args.number c.args.after →
    Drops T c.args.fs.number array (g.S.Store.state_of c.args.store.now) (g.S.Store.state_of c.drop_data.new.store) c.args.number c.in_ok-block.field-0.inode c.indirect.result c.args.after c.in_ok-dropped.dropped
dropped_so g c T array e s m =
    let is = c.in_ok-block.ensures.found in
    let exact = c.in_ok-block.ensures.exact (subst IsLibrary (sym e) s.library) in
    let points = sym c.indirect.ensures in
    let under = at_pointers T c.args.fs.number array _ s c.args.number c.args.after m.some _ is exact c.indirect.result points m.can m.given in
    let put = c.in_ok-dropped.ensures.put T e under in
    record { exact = exact; under = under; put = put; leaves = drops T c.args.fs.number array _ s c.args.number c.args.after m.some _ is exact c.indirect.result points m.can m.given (g.S.Store.state_of c.drop_data.new.store) c.in_ok-dropped.dropped put }

pub returns-in_err-block-clause-order : goal.returns-in_err-block-clause-order
returns-in_err-block-clause-order g c = λ T array e s m.
    let old = g.S.Store.state_of c.args.store.now in
    none_order T c.args.fs.number (taken_edits (latest old.lives) c.args.fs.number c.args.number c.args.after old.next) old old refl _ c.from_residual.result c.from_residual.ensures.1

pub returns-then-links-gt1 : goal.returns-then-links-gt1
returns-then-links-gt1 g c =
    let old = g.S.Store.state_of c.args.store.now in
    let new = g.S.Store.state_of c.put_inode.new.store in
    let found = c.in_ok-block.field-0 in
    let is = c.in_ok-block.ensures.found in
    let links = c.links-links.ensures in
    let more = c.if-links-gt1.true in
    record {
      types = search rules;
      ends = λ T array e s m.
          let exact = c.in_ok-block.ensures.exact (subst IsLibrary (sym e) s.library) in
          finishes T _ found.block (edit_at (64 * found.place) _ [] [] (Some c.args.after)) array old new _ _ s c.put_inode.result (c.put_inode.ensures.put T e)
          (link_short T _ array old s _ c.args.after found is exact m.can m.given _ c.put_inode.ensures.whole _ c.set_links.ensures.fields)
          (link_less T _ array old s _ c.args.after found is exact m.can m.given _ c.put_inode.ensures.whole _ c.set_links.ensures.fields new (omega (arith, links, more)) (omega (arith, links, more)))
          (λ fault same told. nothing_taken T _ old new _ found.inode exact same found.block (inl (home_of old _ _ found.block found.place is.stands)) fault (edit_at (64 * found.place) _ [] [] (Some c.args.after), told));
      order = λ T array e s m.
          let exact = c.in_ok-block.ensures.exact (subst IsLibrary (sym e) s.library) in
          let bytes = c.set_links.ensures.bytes ∙ ap (λ (k : ℕ). put found.inode 2 (to_le_bytes w16 (k - 1))) links in
          subst (λ (edits : Edits). Orders T c.args.fs.number edits old new c.put_inode.result)
          (more_links (latest old.lives (word_at found.inode 56)) found.block found.place found.inode c.args.after old.next (omega (arith, links, more))
          ∙ taken_is (latest old.lives) _ _ found.block found.place found.inode c.args.after old.next (home_of old _ _ found.block found.place is.stands) is.stands.at exact)
          (one_order T _ found.block (links_edit found.place found.inode (inode_links found.inode - 1) c.args.after) old new c.put_inode.result
          (subst (λ (b : List ℕ). Proposed T c.args.fs.number found.block (edit_at (64 * found.place) b [] [] (Some c.args.after)) old new c.put_inode.result) bytes (c.put_inode.ensures.put T e)));
      waits = λ T array i a e s m other k.
          let exact = c.in_ok-block.ensures.exact (subst IsLibrary (sym e) s.library) in
          on_proposed T _ found.block (edit_at (64 * found.place) c.set_links.new.self [] [] (Some c.args.after)) old new (MayLose new _ i a) c.put_inode.result (c.put_inode.ensures.put T e)
          (link_waits T _ array old s i a k _ c.args.after other found c.in_ok-block.ensures.found exact c.set_links.new.self c.put_inode.ensures.whole _ c.set_links.ensures.fields (omega (arith, links, more)) new);
      pairs = λ T array e s m.
          pairs_at_home T c.args.fs.number array (g.S.Store.state_of c.args.store.now) s (g.S.Store.state_of c.put_inode.new.store) c.args.number found.block found.place c.in_ok-block.ensures.found.stands
          (edit_at (64 * found.place) c.set_links.new.self [] [] (Some c.args.after)) c.put_inode.result (c.put_inode.ensures.put T e);
    }

pub returns-in_err-dropped : goal.returns-in_err-dropped
returns-in_err-dropped g c =
    let old = g.S.Store.state_of c.args.store.now in
    let is = c.in_ok-block.ensures.found in
    let points = sym c.indirect.ensures in
    let edit = clearing old _ c.args.after in
    record {
      types = search rules;
      ends = λ T array e s m.
          let exact = c.in_ok-block.ensures.exact (subst IsLibrary (sym e) s.library) in
          let p = c.in_err-dropped.ensures.put T e (at_pointers T _ array old s _ c.args.after m.some _ is exact _ points m.can m.given) in
          fails _ _ (same_stage s p.0) c.from_residual-in_err-dropped.result _ c.from_residual-in_err-dropped.ensures.1
          (short_told (propose_of T old _ _ edit) (drops_short T _ array old s _ c.args.after m.some _ is exact _ points m.can m.given p.1 p.2) _ p.3, nothing_taken T _ old _ _ c.in_ok-block.field-0.inode exact p.0 _ (inr (sym points)) _ (edit, p.3));
      order = λ T array e s m.
          let p = c.in_err-dropped.ensures.put T e (at_pointers T _ array old s _ c.args.after m.some _ is (c.in_ok-block.ensures.exact (subst IsLibrary (sym e) s.library)) c.indirect.result points m.can m.given) in
          none_order T _ (taken_edits (latest old.lives) _ _ c.args.after old.next) old (g.S.Store.state_of c.drop_data.new.store) p.0 _ c.from_residual-in_err-dropped.result c.from_residual-in_err-dropped.ensures.1;
      waits = search rules;
      pairs = λ T array e s m.
          let under = at_pointers T _ array old s _ c.args.after m.some _ is (c.in_ok-block.ensures.exact (subst IsLibrary (sym e) s.library)) _ points m.can m.given in
          pairs_same _ old (g.S.Store.state_of c.drop_data.new.store) (c.in_err-dropped.ensures.put T e under).0;
    }

pub returns-in_err-found : goal.returns-in_err-found
returns-in_err-found g c =
    let p = (goal.at.returns-in_err-found g c).In_ok-dropped in
    let types = c.drop_data.ensures.types in
    record {
      types = search rules;
      ends = λ T array e s m. absurd (never _ _ ((dropped_so g p T array e s m).leaves.same ∙ sym (c.in_err-found.ensures.exact (subst IsLibrary (sym (types ∙ e)) s.library))));
      order = λ T array e s m. absurd (never _ _ ((dropped_so g p T array e s m).leaves.same ∙ sym (c.in_err-found.ensures.exact (subst IsLibrary (sym (types ∙ e)) s.library))));
      waits = search rules;
      pairs = λ T array e s m. absurd (never _ _ ((dropped_so g p T array e s m).leaves.same ∙ sym (c.in_err-found.ensures.exact (subst IsLibrary (sym (types ∙ e)) s.library))));
    }

pub returns-in_err-drops : goal.returns-in_err-drops
returns-in_err-drops g c =
    let after = c.args.after in
    let old = g.S.Store.state_of c.args.store.now in
    let first = g.S.Store.state_of c.drop_data.new.store in
    let again = c.in_ok-found.found in
    let at = c.in_ok-found.ensures.found.stands in
    let few = c.if-links-gt1.false in
    let edit = clearing first again.block after in
    let from = c.from_residual-in_err-drops.ensures.1 in
    let p = (goal.at.returns-in_err-drops g c).In_ok-dropped in
    record {
      types = search rules;
      ends = λ T array e s m.
          let d = dropped_so g p T array e s m in
          fails _ _ d.leaves.stage c.from_residual-in_err-drops.result _ from
          (refl, data_taken T _ array old first first _ _ _ d.exact (omega (arith, c.links-links.ensures, few)) d.leaves refl again.block again.place at _ (edit, no_memory (propose_of T first _ again.block edit)));
      order = λ T array e s m.
          let d = dropped_so g p T array e s m in
          order_err T _ (taken_edits (latest old.lives) _ _ after old.next) old first
          (taken_last T s.library _ s.few old first first s.keeps.consistent _ _ d.exact (omega (arith, c.links-links.ensures, few)) c.indirect.result (sym c.indirect.ensures) after _ d.under d.put again.block again.place (home_of first _ _ again.block again.place at) at.at
          (Err (Kernel NoMemory)) (refl, no_memory (propose_of T first _ again.block (free_edit again.place _ _)))) _ c.from_residual-in_err-drops.result from;
      waits = search rules;
      pairs = λ T array e s m. let d = dropped_so g p T array e s m in pairs_dropped T _ array old s first c.indirect.result after d.under _ d.put;
    }

pub returns : goal.returns
returns g c =
    let fs = c.args.fs.number in
    let old = g.S.Store.state_of c.args.store.now in
    let first = g.S.Store.state_of c.drop_data.new.store in
    let new = g.S.Store.state_of c.put_inode-2.new.store in
    let inode = c.in_ok-block.field-0.inode in
    let dropped = c.in_ok-dropped.dropped in
    let again = c.in_ok-found.found in
    let is = c.in_ok-found.ensures.found in
    let at = is.stands in
    let links = c.links-links.ensures in
    let few = c.if-links-gt1.false in
    let edit = edit_at (64 * again.place) _ [] c.deref.result.now (Some dropped) in
    let p = (goal.at.returns g c).In_ok-dropped in
    record {
      types = search rules;
      ends = λ T array e s m.
          let d = dropped_so g p T array e s m in
          let k = d.leaves in
          let types = c.drop_data.ensures.types ∙ e in
          let exact = c.in_ok-found.ensures.exact (subst IsLibrary (sym types) s.library) in
          let same : again.inode ≡ inode = same_ok again.inode inode (exact ∙ sym k.same) in
          let own : inode_links m.inode ≡ inode_links inode = ap inode_links (same_ok m.inode inode (m.found ∙ sym d.exact)) in
          let one : inode_links inode ≡ 1 = omega (arith, links, few, own, m.linked) in
          let none : HasNoData T (latest first.lives) again.inode = subst (λ (i : List ℕ). HasNoData T (latest first.lives) i) (sym same) k.none in
          finishes T fs again.block edit array first new _ _ k.stage c.put_inode-2.result (c.put_inode-2.ensures.put T types)
          (subst (λ (ds : List ℕ). ShortEdit T first fs again.block (edit_at (64 * again.place) c.free.result [] ds (Some dropped))) (sym (c.deref.ensures.value ∙ c.in_ok-drops.ensures)) (free_short T fs array first k.stage _ dropped again is exact k.can k.given none _ c.free.ensures))
          (λ entry done.
          let x = frees T fs array first k.stage _ dropped again is exact k.can k.given none _ c.free.ensures new (ap inode_links same ∙ one) _ entry done in
          (x.0, given_up (latest old.lives) (latest first.lives) (latest new.lives) fs _ inode d.exact (omega (arith, one)) k.others x.1 x.2))
          (λ fault left told. data_taken T fs array old first new _ inode dropped d.exact (omega (arith, links, few)) k left again.block again.place at fault (edit, told));
      order = λ T array e s m.
          let d = dropped_so g p T array e s m in
          let types = c.drop_data.ensures.types ∙ e in
          let same : again.inode ≡ inode = same_ok again.inode inode (c.in_ok-found.ensures.exact (subst IsLibrary (sym types) s.library) ∙ sym d.leaves.same) in
          taken_last T s.library fs s.few old first new s.keeps.consistent _ inode d.exact (omega (arith, links, few)) _ (sym c.indirect.ensures) _ dropped d.under d.put again.block again.place (home_of first fs _ again.block again.place at) at.at
          c.put_inode-2.result
          (subst (λ (ds : List ℕ). Proposed T fs again.block (edit_at (64 * again.place) (replicate 64 0) [] ds (Some dropped)) first new c.put_inode-2.result) ((c.deref.ensures.value ∙ c.in_ok-drops.ensures) ∙ ap data_of_inode same)
          (subst (λ (b : List ℕ). Proposed T fs again.block (edit_at (64 * again.place) b [] c.deref.result.now (Some dropped)) first new c.put_inode-2.result) c.free.ensures (c.put_inode-2.ensures.put T types)));
      waits = λ T array i a e s m other k.
          let d = dropped_so g p T array e s m in
          let types = c.drop_data.ensures.types ∙ e in
          let later = data_waits T fs array old s i a k _ _ _ other d.under first dropped inode d.put d.leaves in
          on_proposed T fs again.block edit first new (MayLose new fs i a) c.put_inode-2.result (c.put_inode-2.ensures.put T types)
          (free_waits T fs array first d.leaves.stage i a later _ dropped other again is (c.in_ok-found.ensures.exact (subst IsLibrary (sym types) s.library)) _ c.free.ensures _ new);
      pairs = λ T array e s m.
          let d = dropped_so g p T array e s m in
          pairs_then fs old first new (direct_dropped T fs array old s first _ _ d.under dropped d.put) (pairs_dropped T fs array old s first _ _ d.under dropped d.put)
          (pairs_at_home T fs array first d.leaves.stage new _ again.block again.place at edit c.put_inode-2.result (c.put_inode-2.ensures.put T (c.drop_data.ensures.types ∙ e)));
    }
