use Rattle.std.proofs.Common.{◌≡◌, ◌∙◌, None, Ok, refl, rules, subst, sym, true, ◌==◌}
use Rattle.ffs_lib.proofs.Common.{Slot, files_of, latest, replaced}
use Rattle.ffs_lookup.proofs.ForCallers.{same_ok}
use Rattle.ffs_lib.specs.Orders.{InOrder, Orders, removed_edits, replaced_parts}
use Rattle.ffs_lib.specs.Replacing.{NamesStand, Replaced, replace_in}
use Rattle.ffs_lib.specs.Stages.{replaced_stages}
use Rattle.ffs_lib.specs.Volumes.{edits_of}
use Rattle.ffs_lib.proofs.Tests.{never}
use Rattle.ffs_lib.proofs.Laws.{staged}
use Rattle.ffs_lib.proofs.Replaced.{another_done, at_one_place, itself_done, one_slot, other_place, same_done}
use Rattle.ffs_lib.proofs.Replacing.{can_replace}
use Rattle.ffs_lib.proofs.Staged.{does_fault, unnames}
use Rattle.ffs_lib.proofs.StagedTurns.{does_by, finds_first, same_does}
use Rattle.ffs_lib.proofs.ValueReplaced.{replaced_told}
use Rattle.ffs_lib.proofs.volume.Volume.replace.Goals as goal

pub returns-in_err-from : goal.returns-in_err-from
returns-in_err-from g c =
    let T = g.S.Store.types_of c.args.store.now in
    let fs = c.args.self.now.fs in
    let old = g.S.Store.state_of c.args.store.now in
    let u = latest old.lives in
    let d = c.args.directory in
    let name = c.args.name.now in
    let other = c.args.other in
    let other_name = c.args.other_name.now in
    record {
      types = search rules;
      answers =
          does_fault T fs.number (replace_in u fs.number d name other other_name) (replaced (files_of u fs.number) d name other other_name) (replaced_stages (files_of u fs.number) d name other other_name) old old c.from_residual.result
          (replaced_told u fs.number d name other other_name) (search rules);
      inodes = λ from to is. absurd (never (from, to) _ (is ∙ sym (c.in_err-from.ensures.exact c.requires.library)));
      keeps = search rules;
      stands = λ from to is apart. absurd (never (from, to) _ (is ∙ sym (c.in_err-from.ensures.exact c.requires.library)));
      order = λ from to is apart. absurd (never (from, to) _ (is ∙ sym (c.in_err-from.ensures.exact c.requires.library)));
      one_file = λ from to is apart one. absurd (never (from, to) _ (is ∙ sym (c.in_err-from.ensures.exact c.requires.library)));
    }

pub returns-then-is_same_place : goal.returns-then-is_same_place
returns-then-is_same_place g c =
    let fs = c.args.self.now.fs in
    let old = g.S.Store.state_of c.args.store.now in
    let h = c.requires.keeps.consistent in
    let exact = c.in_ok-from.ensures.exact c.requires.library in
    record {
      types = search rules;
      answers =
          let x = can_replace (latest old.lives) fs.number _ c.args.name.now _ c.args.other_name.now _ _ exact in
          does_by (g.S.Store.types_of c.args.store.now) c.requires.library old h fs.number fs.few _ c.args.name.now _ c.args.other_name.now _ _ x true (c.in_ok-from.from.inode == c.in_ok-from.to.inode) (sym c.if-is_same_place.ensures) refl old (Ok tt) (refl, λ n. refl);
      inodes = λ first second is.
          let pair : (c.in_ok-from.from, c.in_ok-from.to) ≡ (first, second) = same_ok (c.in_ok-from.from, c.in_ok-from.to) (first, second) (exact ∙ sym is) in
          subst (λ (p : Slot × Slot). Replaced old old fs.number c.args.directory p.0 c.args.other p.1 (Ok tt)) pair (itself_done old fs.number _ _ _ _ c.in_ok-from.ensures.first c.in_ok-from.ensures.second (sym c.if-is_same_place.ensures));
      keeps = search rules;
      stands = λ from to is apart.
          let pair : (c.in_ok-from.from, c.in_ok-from.to) ≡ (from, to) = same_ok (c.in_ok-from.from, c.in_ok-from.to) (from, to) (c.in_ok-from.ensures.exact c.requires.library ∙ sym is) in
          absurd (apart (subst (λ (p : Slot × Slot). p.0.inode ≡ p.1.inode) pair (at_one_place old c.args.self.now.fs.number c.in_ok-from.from c.in_ok-from.to c.in_ok-from.ensures.first c.in_ok-from.ensures.second (sym c.if-is_same_place.ensures))));
      order = λ from to is apart.
          let pair : (c.in_ok-from.from, c.in_ok-from.to) ≡ (from, to) = same_ok (c.in_ok-from.from, c.in_ok-from.to) (from, to) (c.in_ok-from.ensures.exact c.requires.library ∙ sym is) in
          absurd (apart (subst (λ (p : Slot × Slot). p.0.inode ≡ p.1.inode) pair (at_one_place old c.args.self.now.fs.number c.in_ok-from.from c.in_ok-from.to c.in_ok-from.ensures.first c.in_ok-from.ensures.second (sym c.if-is_same_place.ensures))));
      one_file = λ from to is apart one.
          let pair : (c.in_ok-from.from, c.in_ok-from.to) ≡ (from, to) = same_ok (c.in_ok-from.from, c.in_ok-from.to) (from, to) (c.in_ok-from.ensures.exact c.requires.library ∙ sym is) in
          absurd (apart (subst (λ (p : Slot × Slot). p.0 ≡ p.1) pair (one_slot old c.args.self.now.fs.number c.in_ok-from.from c.in_ok-from.to c.in_ok-from.ensures.first c.in_ok-from.ensures.second (sym c.if-is_same_place.ensures))));
    }

pub returns-then-from-to : goal.returns-then-from-to
returns-then-from-to g c =
    let fs = c.args.self.now.fs in
    let old = g.S.Store.state_of c.args.store.now in
    let lib = c.requires.library in
    let h = c.requires.keeps.consistent in
    let exact = c.in_ok-from.ensures.exact lib in
    let b = c.remove.ensures.ends _ (edits_of c.args.self.now.added) refl (staged c.requires fs.few) refl in
    record {
      types = search rules;
      answers =
          let x = can_replace _ fs.number _ _ _ _ c.in_ok-from.from c.in_ok-from.to exact in
          same_does _ lib old h fs.number fs.few _ _ _ _ c.in_ok-from.from c.in_ok-from.to x (sym c.if-is_same_place.ensures) c.if-from-to.true _ b.0.keeps.consistent c.remove.result b.1;
      inodes = λ first second is.
          let pair : (c.in_ok-from.from, c.in_ok-from.to) ≡ (first, second) = same_ok (c.in_ok-from.from, c.in_ok-from.to) (first, second) (exact ∙ sym is) in
          let f = finds_first _ lib old h fs.number fs.few _ _ _ _ _ _ (can_replace _ fs.number _ _ _ _ _ _ exact) in
          subst (λ (p : Slot × Slot). Replaced old (g.S.Store.state_of c.remove.new.store) fs.number c.args.directory p.0 c.args.other p.1 c.remove.result) pair
          (same_done old _ fs.number _ _ _ _ c.remove.result (other_place _ _ (sym c.if-is_same_place.ensures)) c.if-from-to.true (unnames _ lib fs.number fs.few _ _ _ old _ f b.0.keeps.consistent c.remove.result b.1));
      keeps =
          let x = c.remove.ensures.ends (g.S.Store.types_of c.args.store.now) (edits_of c.args.self.now.added) refl (staged c.requires c.args.self.now.fs.few) refl in
          record { library = c.requires.library; keeps = x.0.keeps };
      stands = λ from to is apart.
          let pair : (c.in_ok-from.from, c.in_ok-from.to) ≡ (from, to) = same_ok (c.in_ok-from.from, c.in_ok-from.to) (from, to) (c.in_ok-from.ensures.exact c.requires.library ∙ sym is) in
          absurd (apart (subst (λ (p : Slot × Slot). p.0.inode ≡ p.1.inode) pair c.if-from-to.true));
      order = λ from to is apart.
          let pair : (c.in_ok-from.from, c.in_ok-from.to) ≡ (from, to) = same_ok (c.in_ok-from.from, c.in_ok-from.to) (from, to) (c.in_ok-from.ensures.exact c.requires.library ∙ sym is) in
          absurd (apart (subst (λ (p : Slot × Slot). p.0.inode ≡ p.1.inode) pair c.if-from-to.true));
      one_file = λ first second is apart one.
          let pair : (c.in_ok-from.from, c.in_ok-from.to) ≡ (first, second) = same_ok (c.in_ok-from.from, c.in_ok-from.to) (first, second) (exact ∙ sym is) in
          let T = g.S.Store.types_of c.args.store.now in
          subst (λ (p : Slot × Slot). Orders T fs.number (removed_edits (latest old.lives) fs.number p.0 None old.next) old (g.S.Store.state_of c.remove.new.store) c.remove.result) pair
          (c.remove.ensures.order _ (edits_of c.args.self.now.added) refl (staged c.requires fs.few) refl);
    }

pub returns : goal.returns
returns g c =
    let old = g.S.Store.state_of c.args.store.now in
    let new = g.S.Store.state_of c.name_over.new.store in
    record {
      types = search rules;
      answers = search rules;
      inodes = λ first second is.
          let fs = c.args.self.now.fs in
          let from = c.in_ok-from.from in
          let to = c.in_ok-from.to in
          let pair : (from, to) ≡ (first, second) = same_ok (from, to) (first, second) ((c.in_ok-from.ensures.exact c.requires.library) ∙ sym is) in
          subst (λ (p : Slot × Slot). Replaced old new fs.number c.args.directory p.0 c.args.other p.1 c.name_over.result) pair (another_done old new fs.number _ c.args.other from to c.name_over.result c.if-from-to.false c.name_over.ensures.leaves.3);
      keeps = search rules;
      stands = λ from to is apart.
          let pair : (c.in_ok-from.from, c.in_ok-from.to) ≡ (from, to) = same_ok (c.in_ok-from.from, c.in_ok-from.to) (from, to) (c.in_ok-from.ensures.exact c.requires.library ∙ sym is) in
          subst (λ (p : Slot × Slot). NamesStand old (g.S.Store.state_of c.name_over.new.store) p.0 p.1) pair c.name_over.ensures.leaves.1;
      order = λ from to is apart.
          let fs = c.args.self.now.fs.number in
          let pair : (c.in_ok-from.from, c.in_ok-from.to) ≡ (from, to) = same_ok (c.in_ok-from.from, c.in_ok-from.to) (from, to) (c.in_ok-from.ensures.exact c.requires.library ∙ sym is) in
          subst (λ (p : Slot × Slot). InOrder (g.S.Store.types_of c.args.store.now) fs (replaced_parts fs p.0 p.1 old.next) old (g.S.Store.state_of c.name_over.new.store) c.name_over.result) pair c.name_over.ensures.leaves.4;
      one_file = λ from to is apart one.
          let pair : (c.in_ok-from.from, c.in_ok-from.to) ≡ (from, to) = same_ok (c.in_ok-from.from, c.in_ok-from.to) (from, to) (c.in_ok-from.ensures.exact c.requires.library ∙ sym is) in
          absurd (c.if-from-to.false (subst (λ (p : Slot × Slot). p.0.inode ≡ p.1.inode) (sym pair) one));
    }
