use Rattle.std.proofs.Common.{◌≡◌, ◌-◌, ◌∙◌, ℕ, Some, arith, refl, rules, subst, sym, MatchResult, Result, Ok, Err}
use Rattle.ffs_lib.proofs.Common.{FfsFault, IsLibrary, Slot, files_of, is_name, latest, moved, rename_in, renamed}
use Rattle.ffs_lookup.proofs.ForCallers.{first_value, renamed_told, same_ok}
use Rattle.ffs_lib.specs.Orders.{InOrder, Orders, moved_parts, removed_edits}
use Rattle.ffs_lib.specs.Results.{MovedInodes}
use Rattle.ffs_lib.specs.Stages.{renamed_stages}
use Rattle.ffs_lib.specs.Steps.{Stops, StopsNaming, StopsUnnaming, Unnamed}
use Rattle.ffs_lib.proofs.Tests.{never}
use Rattle.ffs_lib.proofs.Laws.{staged, stops_err}
use Rattle.ffs_lib.proofs.BlocksOnce.{blocks_once}
use Rattle.ffs_lib.proofs.Linked.{linked_own}
use Rattle.ffs_lib.proofs.MoveLaws.{moved_inodes, naming_inodes, refused_inodes, still_one, still_there}
use Rattle.ffs_lib.proofs.Orders.{moved_then, naming_stops, order_in}
use Rattle.ffs_lib.proofs.Renaming.{can_move}
use Rattle.ffs_lib.proofs.Staged.{does_fault, does_found}
use Rattle.ffs_lib.proofs.StagedMoves.{answer, naming_stage, rename_stages, stages, unnaming_stage}
use Rattle.ffs_lib.proofs.ValueLists.{both_true}
use Rattle.ffs_lib.proofs.ValueMoved.{moved_leads}
use Rattle.ffs_lib.proofs.volume.Volume.rename.Goals as goal

pub returns-in_err-entered : goal.returns-in_err-entered
returns-in_err-entered g c =
    let T = g.S.Store.types_of c.args.store.now in
    let fs = c.args.self.now.fs in
    let old = g.S.Store.state_of c.args.store.now in
    let u = latest old.lives in
    let name = c.args.name.now in
    let new_name = c.args.new_name.now in
    let slot = c.in_ok-slot.slot in
    let lib = c.requires.library in
    let exact = c.in_ok-slot.ensures.exact lib in
    let x = can_move u fs.number _ name _ new_name slot exact in
    let s = staged c.requires fs.few in
    let new = g.S.Store.state_of c.name_again.new.store in
    let a = c.in_err-entered.ensures.ends T _ x.own x.to refl s x.is_own x.few x.is_to x.room in
    let names = both_true (is_name name) (is_name new_name) x.good c.in_ok-slot.ensures.name in
    let k = answer T lib fs.number fs.few _ name _ new_name slot old x exact in
    let found = first_value u x.from name slot x.first in
    record {
      types = c.name_again.ensures.types;
      answers =
          does_found T fs.number (renamed (files_of u fs.number) _ name _ new_name) (moved (files_of u fs.number) _ (found.at, slot.inode) _ new_name k.0) (renamed_stages (files_of u fs.number) _ name _ new_name)
          (stages T lib fs.number fs.few _ name _ new_name slot old x exact) (λ y. ⊥) (StopsNaming T fs.number old new _ new_name slot.inode) old new c.from_residual-in_err-entered.result k.2
          (rename_stages T lib fs.number fs.few _ name _ new_name slot old x exact names) (λ y none. absurd none) (naming_stage T lib fs.number fs.few _ name _ new_name slot old x exact new)
          (stops_err _ (StopsNaming T fs.number old new _ new_name slot.inode) c.from_residual-in_err-entered.result _ c.from_residual-in_err-entered.ensures.1 a.1);
      inodes = λ found is.
          subst (λ (y : Slot). MovedInodes u (latest new.lives) fs.number c.args.directory c.args.other y.inode) (same_ok slot found (exact ∙ sym is)) (naming_inodes T fs.number _ _ slot.inode new_name old new _ a.1.1);
      order = λ found is.
          let o = c.in_err-entered.ensures.order T _ x.own x.to refl s x.is_own x.few x.is_to x.room in
          subst (λ (y : Slot). InOrder T fs.number (moved_parts fs.number y c.args.other new_name old.next) old new c.from_residual-in_err-entered.result) (same_ok slot found (exact ∙ sym is))
          (order_in T fs.number (moved_parts fs.number slot _ new_name old.next) old new (naming_stops T fs.number slot _ new_name old new c.in_err-entered.field-0.0 o) c.in_err-entered.field-0.0 c.from_residual-in_err-entered.result c.from_residual-in_err-entered.ensures.1);
      keeps = record { library = lib; keeps = a.0.keeps };
    }

pub returns-in_err-entry : goal.returns-in_err-entry
returns-in_err-entry g c =
    let lib = c.requires.library in
    let x = can_move _ _ _ _ _ _ _ (c.in_ok-slot.ensures.exact lib) in
    let a = c.in_ok-entered.ensures.ends _ _ x.own x.to refl (staged c.requires c.args.self.now.fs.few) x.is_own x.few x.is_to x.room in
    absurd (never _ _ (still_there _ _ _ _ _ _ _ _ x a.1.0 ∙ sym (c.in_err-entry.ensures.exact (subst IsLibrary (sym c.name_again.ensures.types) lib))))

pub returns : goal.returns
returns g c =
    let T = g.S.Store.types_of c.args.store.now in
    let fs = c.args.self.now.fs in
    let old = g.S.Store.state_of c.args.store.now in
    let u = latest old.lives in
    let name = c.args.name.now in
    let new_name = c.args.new_name.now in
    let lib = c.requires.library in
    let exact = c.in_ok-slot.ensures.exact lib in
    let x = can_move u fs.number _ name _ new_name _ exact in
    let s = staged c.requires fs.few in
    let a = c.in_ok-entered.ensures.ends T _ x.own x.to refl s x.is_own x.few x.is_to x.room in
    let middle = g.S.Store.state_of c.name_again.new.store in
    let w = latest middle.lives in
    let new = g.S.Store.state_of c.remove.new.store in
    let b = c.remove.ensures.ends T _ c.name_again.ensures.types a.0 a.1.1 in
    let one = still_one u w fs.number _ name _ new_name _ x a.1.0 c.in_ok-entry.entry (c.in_ok-entry.ensures.exact (subst IsLibrary (sym c.name_again.ensures.types) lib)) in
    let linked = linked_own T fs.number _ old c.requires.keeps _ c.in_ok-slot.ensures.slot x.own x.is_own in
    let once = blocks_once T lib middle a.0.keeps.consistent fs.number fs.few in
    let found = first_value u x.from name _ x.first in
    let k = answer T lib fs.number fs.few _ name _ new_name _ old x exact in
    let ends = subst (λ (y : Slot). MatchResult c.remove.result (λ _. Unnamed w (latest new.lives) fs.number y) (Stops (StopsUnnaming T fs.number middle new y))) one b.1 in
    record {
      types = c.remove.ensures.types ∙ c.name_again.ensures.types;
      answers =
          does_found T fs.number (renamed (files_of u fs.number) _ name _ new_name) (moved (files_of u fs.number) _ (found.at, c.in_ok-slot.slot.inode) _ new_name k.0) (renamed_stages (files_of u fs.number) _ name _ new_name)
          (stages T lib fs.number fs.few _ name _ new_name _ old x exact) (λ y. Unnamed w (latest new.lives) fs.number _) (StopsUnnaming T fs.number middle new _) old new c.remove.result k.2
          (rename_stages T lib fs.number fs.few _ name _ new_name _ old x exact (both_true (is_name name) (is_name new_name) x.good c.in_ok-slot.ensures.name))
          (λ y r. moved_leads u w fs.number _ name _ new_name _ x a.1.0 once found k.0 k.1 linked (latest new.lives) r y)
          (unnaming_stage T lib fs.number fs.few _ name _ new_name _ old x exact middle new a.0.keeps.consistent b.0.keeps.consistent a.1.0)
          ends;
      inodes = λ found is.
          subst (λ (y : Slot). MovedInodes u (latest new.lives) fs.number c.args.directory c.args.other y.inode) (same_ok _ found (exact ∙ sym is)) (go c.remove.result ends
          (λ r. moved_inodes u w fs.number _ name _ new_name _ x a.1.0 once k.0 k.1 linked (latest new.lives) r)
          (λ fault stop. refused_inodes u w fs.number _ name _ new_name _ x a.1.0 once k.0 k.1 linked T middle new refl fault stop));
      order = λ found is.
          let o = c.in_ok-entered.ensures.order T _ x.own x.to refl s x.is_own x.few x.is_to x.room in
          let m1 = subst (λ (y : Slot). Orders T fs.number (removed_edits w fs.number y (Some c.in_ok-entered.entered) middle.next) middle new c.remove.result) one (c.remove.ensures.order T _ c.name_again.ensures.types a.0 a.1.1) in
          let number : c.in_ok-entered.entered ≡ middle.next - 1 = omega (arith, o.3) in
          let m2 = subst (λ (k : ℕ). Orders T fs.number (removed_edits w fs.number c.in_ok-slot.slot (Some k) middle.next) middle new c.remove.result) number m1 in
          subst (λ (y : Slot). InOrder T fs.number (moved_parts fs.number y c.args.other new_name old.next) old new c.remove.result) (same_ok _ found (exact ∙ sym is))
          (moved_then T fs.number _ _ new_name old o.0 middle new o.1 o.2 c.remove.result m2);
      keeps = record { library = lib; keeps = b.0.keeps };
    }
  where
    go : {A : Type 0} {P : Type 0} {R : FfsFault → Type 0} {Q : Type 0} (r : Result A FfsFault) → MatchResult r (λ _. P) (Stops R) → (P → Q) → ((fault : FfsFault) → R fault → Q) → Q
    go (Ok y) m f h = f m
    go (Err fault) m f h = h fault m.1

pub returns-in_err-slot-clause-answers : goal.returns-in_err-slot-clause-answers
returns-in_err-slot-clause-answers g c =
    let old = g.S.Store.state_of c.args.store.now in
    let fs = c.args.self.now.fs.number in
    let u = latest old.lives in
    let d = c.args.directory in
    let name = c.args.name.now in
    let other = c.args.other in
    let new_name = c.args.new_name.now in
    does_fault (g.S.Store.types_of c.args.store.now) fs (rename_in u fs d name other new_name) (renamed (files_of u fs) d name other new_name) (renamed_stages (files_of u fs) d name other new_name) old old c.from_residual.result
    (renamed_told u fs d name other new_name) (search rules)

pub returns-in_err-slot-clause-inodes : goal.returns-in_err-slot-clause-inodes
returns-in_err-slot-clause-inodes g c = λ entry e. absurd (never entry _ (e ∙ sym (c.in_err-slot.ensures.exact c.requires.library)))

pub returns-in_err-slot-clause-order : goal.returns-in_err-slot-clause-order
returns-in_err-slot-clause-order g c = λ entry e. absurd (never entry _ (e ∙ sym (c.in_err-slot.ensures.exact c.requires.library)))
