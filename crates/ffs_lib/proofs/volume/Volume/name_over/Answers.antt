use Rattle.std.proofs.Common.{◌≡◌, ◌≢◌, ◌∙◌, ℕ, Err, Ok, inl, inr, refl, sym, ap, subst, None, Some}
use Rattle.ffs_lib.proofs.Common.{IsLibrary, Slot, StayNamed, is_at, latest, library_layout}
use Rattle.ffs_lookup.proofs.ForCallers.{same_ok}
use Rattle.ffs_lib.specs.Orders.{Orders, removed_edits, replaced_parts, taken_edits, turned_edits}
use Rattle.ffs_lib.specs.Replacing.{AreDirect, pair_of}
use Rattle.ffs_lib.specs.Steps.{StopsUnnaming, Unnamed}
use Rattle.ffs_lib.specs.Volumes.{edits_of}
use Rattle.ffs_lib.proofs.Tests.{never}
use Rattle.ffs_lib.proofs.Laws.{staged}
use Rattle.ffs_lib.proofs.Orders.{all_parts, order_in}
use Rattle.ffs_lib.proofs.Replaced.{direct_in_both, home_named, target_named}
use Rattle.ffs_lib.proofs.ReplaceSteps.{Turns, begins}
use Rattle.ffs_lib.proofs.StagedTurns.{all_done, half, half_taken, link_refused, refusal, remove_refused, take_refused, turn_refused}
use Rattle.ffs_lib.proofs.volume.Volume.name_over.Given.{Over}
use Rattle.ffs_lib.proofs.volume.Volume.name_over.Goals.{In_ok-turned}
use Rattle.ffs_lib.proofs.volume.Volume.name_over.Goals as goal

turned_so : (g : Over) (c : In_ok-turned g) → Turns (g.S.Store.types_of c.args.store.now) c.args.self.now.fs.number (edits_of c.args.self.now.added) (g.S.Store.state_of c.args.store.now) (g.S.Store.state_of c.add_link.new.store) (g.S.Store.state_of c.turn.new.store) c.args.directory c.args.name.now c.args.from c.args.to c.in_ok-turned.turned
turned_so g c =
    let T = g.S.Store.types_of c.args.store.now in
    let fs = c.args.self.now.fs.number in
    let old = g.S.Store.state_of c.args.store.now in
    let first = g.S.Store.state_of c.add_link.new.store in
    let second = g.S.Store.state_of c.turn.new.store in
    let p = begins T fs _ old (staged c.requires.volume c.args.self.now.fs.few) _ _ _ _ _ _ c.requires.found c.requires.first c.requires.second c.requires.apart in
    let x = p.found in
    let a = c.in_ok-linked.ensures.ends T _ x.own refl p.stage p.own p.fewer in
    let l = c.in_ok-linked.ensures.order T _ x.own refl p.stage p.own p.fewer in
    let y = c.in_ok-linked.ensures.pairs T _ refl p.stage old.lives _ None p.direct p.named in
    let named = target_named (latest old.lives) fs _ _ _ _ _ _ x p.apart (latest first.lives) a.1.1 in
    let b = c.in_ok-turned.ensures.ends T _ _ c.add_link.ensures.types a.0 named (λ z. p.apart (sym z)) a.1.0 in
    let t = c.in_ok-turned.ensures.order T _ _ c.add_link.ensures.types a.0 named in
    record {
      adds = a.1.1;
      stage = b.0;
      turns = b.1.0;
      may = b.1.1;
      named = c.in_ok-turned.ensures.pairs T _ old.lives _ _ c.add_link.ensures.types a.0 named refl y;
      again = home_named (latest old.lives) fs _ _ _ _ _ _ x p.apart (latest first.lives) a.1.1 (latest second.lives) b.1.0 p.places;
      one = l.0;
      two = subst (λ (n : ℕ). Orders {A = ℕ} T fs (turned_edits c.args.to c.args.from.inode n) first second (Ok c.in_ok-turned.turned)) l.1.0 t.0;
      number = t.1.0 ∙ l.1.1;
    }

pub returns-in_err-linked-clause-leaves : goal.returns-in_err-linked-clause-leaves
returns-in_err-linked-clause-leaves g c =
    let T = g.S.Store.types_of c.args.store.now in
    let old = g.S.Store.state_of c.args.store.now in
    let p = begins _ _ _ _ (staged c.requires.volume c.args.self.now.fs.few) _ _ _ _ _ _ c.requires.found c.requires.first c.requires.second c.requires.apart in
    let a = c.in_err-linked.ensures.ends T _ p.found.own refl p.stage p.own p.fewer in
    let y = c.in_err-linked.ensures.pairs T _ refl p.stage old.lives (pair_of c.args.from c.args.to) None p.direct p.named in
    let r = refusal _ _ _ _ _ _ _ _ _ _ p _ _ a.1.0 (link_refused _ _ _ _ _ _ _ _ _ _ p _ _ a.1.1) c.from_residual.result c.from_residual.ensures.1 in
    let o = order_in T _ (replaced_parts _ c.args.from c.args.to old.next) old _ (inl (c.in_err-linked.ensures.order T _ p.found.own refl p.stage p.own p.fewer).0) _ c.from_residual.result c.from_residual.ensures.1 in
    (record { library = c.requires.volume.library; keeps = a.0.keeps }, y.cuts, r.0, r.1, o)

pub returns-in_err-turned-clause-leaves : goal.returns-in_err-turned-clause-leaves
returns-in_err-turned-clause-leaves g c =
    let T = g.S.Store.types_of c.args.store.now in
    let fs = c.args.self.now.fs.number in
    let old = g.S.Store.state_of c.args.store.now in
    let p = begins _ _ _ _ (staged c.requires.volume c.args.self.now.fs.few) _ _ _ _ _ _ c.requires.found c.requires.first c.requires.second c.requires.apart in
    let a = c.in_ok-linked.ensures.ends T _ p.found.own refl p.stage p.own p.fewer in
    let l = c.in_ok-linked.ensures.order T _ p.found.own refl p.stage p.own p.fewer in
    let y1 = c.in_ok-linked.ensures.pairs T _ refl p.stage old.lives _ None p.direct p.named in
    let first = g.S.Store.state_of c.add_link.new.store in
    let named = target_named _ _ _ _ _ _ _ _ p.found p.apart (latest first.lives) a.1.1 in
    let b = c.in_err-turned.ensures.ends T _ _ c.add_link.ensures.types a.0 named (λ z. p.apart (sym z)) a.1.0 in
    let y2 = c.in_err-turned.ensures.pairs T _ old.lives _ _ c.add_link.ensures.types a.0 named refl y1 in
    let new = g.S.Store.state_of c.turn.new.store in
    let r = refusal _ _ _ _ _ _ _ _ _ _ p new _ b.1.0 (turn_refused _ _ _ _ _ _ _ _ _ _ p first a.1.1 new _ b.1.1) c.from_residual-in_err-turned.result c.from_residual-in_err-turned.ensures.1 in
    let t1 = subst (λ (n : ℕ). Orders {A = ℕ} T fs (turned_edits c.args.to c.args.from.inode n) first new (Err c.in_err-turned.field-0.0)) l.1.0 (c.in_err-turned.ensures.order T _ _ c.add_link.ensures.types a.0 named).0 in
    let o = order_in T fs (replaced_parts fs _ _ old.next) old new (inr (first, l.0, inl t1)) _ c.from_residual-in_err-turned.result c.from_residual-in_err-turned.ensures.1 in
    (record { library = c.requires.volume.library; keeps = b.0.keeps }, y2.cuts, r.0, r.1, o)

pub returns-in_err-entry-clause-leaves : goal.returns-in_err-entry-clause-leaves
returns-in_err-entry-clause-leaves g c =
    let q = turned_so g (goal.at.returns-in_err-entry-clause-leaves g c).In_ok-turned in
    absurd (never c.args.from _ (q.again ∙ sym (c.in_err-entry.ensures.exact (subst IsLibrary (sym (c.turn.ensures.types ∙ c.add_link.ensures.types)) c.requires.volume.library))))

pub returns-in_err-remove-clause-leaves : goal.returns-in_err-remove-clause-leaves
returns-in_err-remove-clause-leaves g c =
    let T = g.S.Store.types_of c.args.store.now in
    let fs = c.args.self.now.fs.number in
    let old = g.S.Store.state_of c.args.store.now in
    let to = c.args.to in
    let p = begins _ _ _ _ (staged c.requires.volume c.args.self.now.fs.few) _ _ _ _ _ _ c.requires.found c.requires.first c.requires.second c.requires.apart in
    let q = turned_so g (goal.at.returns-in_err-remove-clause-leaves g c).In_ok-turned in
    let first = g.S.Store.state_of c.add_link.new.store in
    let second = g.S.Store.state_of c.turn.new.store in
    let third = g.S.Store.state_of c.remove.new.store in
    let v2 = latest second.lives in
    let types : g.S.Store.types_of c.turn.new.store ≡ T = c.turn.ensures.types ∙ c.add_link.ensures.types in
    let turned = c.in_ok-turned.turned in
    let one : c.in_ok-entry.entry ≡ c.args.from = same_ok _ _ (c.in_ok-entry.ensures.exact (subst IsLibrary (sym types) c.requires.volume.library) ∙ sym q.again) in
    let e = c.in_err-remove.ensures.ends T _ types q.stage q.may.given in
    let direct = subst (λ (y : Slot). AreDirect v2 fs (pair_of y to)) (sym one) (direct_in_both _ _ _ _ _ _ _ _ p.found p.apart v2 (half _ _ _ _ _ _ _ _ _ _ p first q.adds second q.turns).inodes) in
    let before = subst (λ (y : Slot). StayNamed library_layout old.lives second.lives (pair_of y to) (Some turned)) (sym one) q.named in
    let y3 = subst (λ (y : Slot). StayNamed library_layout old.lives third.lives (pair_of y to) (Some turned)) one
    (c.in_err-remove.ensures.pairs T _ old.lives to turned types q.stage refl direct (ap (is_at to) one ∙ p.places) before) in
    let m = subst (λ (y : Slot). Orders {A = Unit {0}} T fs (removed_edits v2 fs y (Some turned) second.next) second third (Err c.in_err-remove.field-0.0)) one (c.in_err-remove.ensures.order T _ types q.stage q.may.given) in
    let three = subst (λ (n : ℕ). Orders {A = Unit {0}} T fs (removed_edits v2 fs c.args.from (Some n) second.next) second third (Err c.in_err-remove.field-0.0)) q.number m in
    let stop = subst (λ (y : Slot). StopsUnnaming T fs second third y c.in_err-remove.field-0.0) one e.1.1 in
    let r = refusal _ _ _ _ _ _ _ _ _ _ p third _ e.1.0 (remove_refused _ _ _ _ _ _ _ _ _ _ p first q.adds second q.turns third e.0.keeps.consistent _ stop) c.from_residual-in_err-remove.result c.from_residual-in_err-remove.ensures.1 in
    let o = order_in T fs (replaced_parts fs _ to old.next) old third (inr (first, q.one, inr (second, q.two, inl three))) _ c.from_residual-in_err-remove.result c.from_residual-in_err-remove.ensures.1 in
    (record { library = c.requires.volume.library; keeps = e.0.keeps }, y3.cuts, r.0, r.1, o)

pub returns-in_err-take_link-clause-leaves : goal.returns-in_err-take_link-clause-leaves
returns-in_err-take_link-clause-leaves g c =
    let T = g.S.Store.types_of c.args.store.now in
    let fs = c.args.self.now.fs.number in
    let old = g.S.Store.state_of c.args.store.now in
    let to = c.args.to in
    let p = begins _ _ _ _ (staged c.requires.volume c.args.self.now.fs.few) _ _ _ _ _ _ c.requires.found c.requires.first c.requires.second c.requires.apart in
    let q = turned_so g (goal.at.returns-in_err-take_link-clause-leaves g c).In_ok-turned in
    let first = g.S.Store.state_of c.add_link.new.store in
    let second = g.S.Store.state_of c.turn.new.store in
    let third = g.S.Store.state_of c.remove.new.store in
    let v2 = latest second.lives in
    let types : g.S.Store.types_of c.turn.new.store ≡ T = c.turn.ensures.types ∙ c.add_link.ensures.types in
    let turned = c.in_ok-turned.turned in
    let one : c.in_ok-entry.entry ≡ c.args.from = same_ok _ _ (c.in_ok-entry.ensures.exact (subst IsLibrary (sym types) c.requires.volume.library) ∙ sym q.again) in
    let e = c.in_ok-remove.ensures.ends T _ types q.stage q.may.given in
    let direct = subst (λ (y : Slot). AreDirect v2 fs (pair_of y to)) (sym one) (direct_in_both _ _ _ _ _ _ _ _ p.found p.apart v2 (half _ _ _ _ _ _ _ _ _ _ p first q.adds second q.turns).inodes) in
    let before = subst (λ (y : Slot). StayNamed library_layout old.lives second.lives (pair_of y to) (Some turned)) (sym one) q.named in
    let y3 = subst (λ (y : Slot). StayNamed library_layout old.lives third.lives (pair_of y to) (Some turned)) one
    (c.in_ok-remove.ensures.pairs T _ old.lives to turned types q.stage refl direct (ap (is_at to) one ∙ p.places) before) in
    let m = subst (λ (y : Slot). Orders {A = Unit {0}} T fs (removed_edits v2 fs y (Some turned) second.next) second third (Ok tt)) one (c.in_ok-remove.ensures.order T _ types q.stage q.may.given) in
    let three = subst (λ (n : ℕ). Orders {A = Unit {0}} T fs (removed_edits v2 fs c.args.from (Some n) second.next) second third (Ok tt)) q.number m in
    let gone = subst (λ (y : Slot). Unnamed v2 (latest third.lives) fs y) one e.1 in
    let away : to.inode ≢ c.in_ok-entry.entry.inode = λ z. p.apart (sym (z ∙ ap (λ (y : Slot). y.inode) one)) in
    let may = c.in_ok-remove.ensures.waits T _ to.inode turned types q.stage q.may.given away q.may in
    let types3 = c.remove.ensures.types ∙ types in
    let k = c.in_err-take_link.ensures.ends T _ types3 e.0 may in
    let taken = half_taken _ _ _ _ _ _ _ _ _ _ p first q.adds second q.turns third gone in
    let y4 = c.in_err-take_link.ensures.pairs T _ types3 e.0 may old.lives (pair_of _ to) (Some turned) (direct_in_both _ _ _ _ _ _ _ _ p.found p.apart (latest third.lives) taken.inodes) y3 in
    let new = g.S.Store.state_of c.take_link.new.store in
    let four = subst (λ (n : ℕ). Orders {A = ℕ} T fs (taken_edits (latest third.lives) fs to.inode n third.next) third new (Err c.in_err-take_link.field-0.0)) q.number (c.in_err-take_link.ensures.order T _ types3 e.0 may) in
    let r = refusal _ _ _ _ _ _ _ _ _ _ p new _ k.1.0 (take_refused _ _ _ _ _ _ _ _ _ _ p first q.adds second q.turns third gone new k.0.keeps.consistent _ k.1.1) c.from_residual-in_err-take_link.result c.from_residual-in_err-take_link.ensures.1 in
    let o = order_in T fs (replaced_parts fs _ to old.next) old new (inr (first, q.one, inr (second, q.two, inr (third, three, inl four)))) _ c.from_residual-in_err-take_link.result c.from_residual-in_err-take_link.ensures.1 in
    (record { library = c.requires.volume.library; keeps = k.0.keeps }, y4.cuts, r.0, r.1, o)

pub returns-clause-leaves : goal.returns-clause-leaves
returns-clause-leaves g c =
    let T = g.S.Store.types_of c.args.store.now in
    let fs = c.args.self.now.fs.number in
    let old = g.S.Store.state_of c.args.store.now in
    let to = c.args.to in
    let lib = c.requires.volume.library in
    let p = begins _ _ _ _ (staged c.requires.volume c.args.self.now.fs.few) _ _ _ _ _ _ c.requires.found c.requires.first c.requires.second c.requires.apart in
    let q = turned_so g (goal.at.returns-clause-leaves g c).In_ok-turned in
    let first = g.S.Store.state_of c.add_link.new.store in
    let second = g.S.Store.state_of c.turn.new.store in
    let third = g.S.Store.state_of c.remove.new.store in
    let v2 = latest second.lives in
    let types : g.S.Store.types_of c.turn.new.store ≡ T = c.turn.ensures.types ∙ c.add_link.ensures.types in
    let turned = c.in_ok-turned.turned in
    let one : c.in_ok-entry.entry ≡ c.args.from = same_ok _ _ (c.in_ok-entry.ensures.exact (subst IsLibrary (sym types) lib) ∙ sym q.again) in
    let e = c.in_ok-remove.ensures.ends T _ types q.stage q.may.given in
    let direct = subst (λ (y : Slot). AreDirect v2 fs (pair_of y to)) (sym one) (direct_in_both _ _ _ _ _ _ _ _ p.found p.apart v2 (half _ _ _ _ _ _ _ _ _ _ p first q.adds second q.turns).inodes) in
    let before = subst (λ (y : Slot). StayNamed library_layout old.lives second.lives (pair_of y to) (Some turned)) (sym one) q.named in
    let y3 = subst (λ (y : Slot). StayNamed library_layout old.lives third.lives (pair_of y to) (Some turned)) one
    (c.in_ok-remove.ensures.pairs T _ old.lives to turned types q.stage refl direct (ap (is_at to) one ∙ p.places) before) in
    let m = subst (λ (y : Slot). Orders {A = Unit {0}} T fs (removed_edits v2 fs y (Some turned) second.next) second third (Ok tt)) one (c.in_ok-remove.ensures.order T _ types q.stage q.may.given) in
    let three = subst (λ (n : ℕ). Orders {A = Unit {0}} T fs (removed_edits v2 fs c.args.from (Some n) second.next) second third (Ok tt)) q.number m in
    let gone = subst (λ (y : Slot). Unnamed v2 (latest third.lives) fs y) one e.1 in
    let away : to.inode ≢ c.in_ok-entry.entry.inode = λ z. p.apart (sym (z ∙ ap (λ (y : Slot). y.inode) one)) in
    let may = c.in_ok-remove.ensures.waits T _ to.inode turned types q.stage q.may.given away q.may in
    let types3 = c.remove.ensures.types ∙ types in
    let k = c.in_ok-take_link.ensures.ends T _ types3 e.0 may in
    let taken = half_taken _ _ _ _ _ _ _ _ _ _ p first q.adds second q.turns third gone in
    let y4 = c.in_ok-take_link.ensures.pairs T _ types3 e.0 may old.lives (pair_of _ to) (Some turned) (direct_in_both _ _ _ _ _ _ _ _ p.found p.apart (latest third.lives) taken.inodes) y3 in
    let new = g.S.Store.state_of c.take_link.new.store in
    let four = subst (λ (n : ℕ). Orders {A = ℕ} T fs (taken_edits (latest third.lives) fs to.inode n third.next) third new (Ok c.in_ok-take_link.field-0)) q.number (c.in_ok-take_link.ensures.order T _ types3 e.0 may) in
    let r = all_done _ _ _ _ _ _ _ _ _ _ p first q.adds second q.turns third gone new k.1 in
    (record { library = lib; keeps = k.0.keeps }, y4.cuts, r.0, r.1, all_parts T fs _ to old first second third new q.one q.two three four)
