use Rattle.std.proofs.Common.{◌≡◌, ◌∙◌, ℕ, List, None, Some, ap, false, not, refl, subst, sym, vec_len}
use Rattle.std.specs.Prelude.{MatchResult}
use Rattle.tree_lines.specs.Places.{IsFolder}
use Rattle.tree_lines.specs.Telling.{EndsLine}
use Rattle.tree_lines.specs.Walks.{met_of, progress}
use Rattle.tree_changes.specs.CopiedFiles.{CopiesOver, LeavesOver}
use Rattle.tree_changes.specs.CopiedFolders.{LeavesFolder}
use Rattle.tree_changes.specs.CopiedTrees.{CopiesFolderMet, CopiesMet, GoesInto, StopsMet, inner_of}
use Rattle.tree_changes.proofs.TreesCopied.{fault_at, folder_met, folder_stops, no_memory_at, none_met, not_gone_into, other_met, passed_over, stayed_in}
use Rattle.tree_changes.proofs.copying.copy_met.Goals as goal
use Rattle.tree_changes.proofs.copying.copy_met.Goals.{then-is_none, else-is_none}

pub returns-in_default-clause-does : goal.returns-in_default-clause-does
returns-in_default-clause-does g c =
    let before = c.args.opened.now in
    let state = g.S.Store.state_of before.session.store in
    let folders = c.args.folders.now.items in
    let none : inner_of folders ≡ None = sym (ap inner_of c.as_slice.ensures.value) ∙ (sym c.inner_of.ensures ∙ c.in_default.is) in
    none_met (g.S.Store.types_of before.session.store) before.folder (vec_len c.args.copying.now.piece) (met_of c.args.met.0.now)
    (progress c.args.walk.now) (progress c.args.walk.now) before.told before.told folders folders c.args.copying.now c.args.copying.now state state
    before.session.volume before.session.volume none refl refl refl refl refl refl

pub returns-then-not-is_folder-clause-does : goal.returns-then-not-is_folder-clause-does
returns-then-not-is_folder-clause-does g c =
    let before = c.args.opened.now in
    let after = c.copy_other-done.new.opened in
    let T = g.S.Store.types_of before.session.store in
    let old = g.S.Store.state_of before.session.store in
    let new = g.S.Store.state_of after.session.store in
    let folders = c.args.folders.now.items in
    let copying = c.args.copying.now in
    let copied = c.copy_other-done.new.copying in
    let met = met_of c.args.met.0.now in
    let inner = c.in-Some.folder in
    let is : inner_of folders ≡ Some inner = sym (ap inner_of c.as_slice.ensures.value) ∙ (sym c.inner_of.ensures ∙ c.in-Some.is) in
    let other : ¬ IsFolder met.node = λ folder. let h = c.is_folder.ensures.1 folder in let k = c.if-not-is_folder.true in cc in
    let does = subst (λ (n : List ℕ). MatchResult c.copy_other-done.result
    (λ done. CopiesOver T before.folder (vec_len copying.piece) copying copied met.node inner.number n false old new before.session.volume
    after.session.volume)
    (λ fault. LeavesOver T before.folder (vec_len copying.piece) copying copied met.node inner.number n false old new before.session.volume
    after.session.volume)) c.deref.ensures.value c.copy_other-done.ensures.does in
    other_met T before.folder (vec_len copying.piece) met (progress c.args.walk.now) (progress c.args.walk.now) before.told c.go_on.new.self folders folders
    copying copied old new before.session.volume after.session.volume inner is after.told c.copy_other-done.ensures.told c.copy_other-done.result
    c.go_on.result other refl refl c.copy_other-done.ensures.recursive does c.go_on.ensures

pub returns-in_err-into-clause-does : goal.returns-in_err-into-clause-does
returns-in_err-into-clause-does g c =
    let before = c.args.opened.now in
    let after = c.copy_folder_met.new.opened in
    let T = g.S.Store.types_of before.session.store in
    let old = g.S.Store.state_of before.session.store in
    let new = g.S.Store.state_of after.session.store in
    let folders = c.args.folders.now.items in
    let copying = c.args.copying.now in
    let met = met_of c.args.met.0.now in
    let inner = c.in-Some.folder in
    let is : inner_of folders ≡ Some inner = sym (ap inner_of c.as_slice.ensures.value) ∙ (sym c.inner_of.ensures ∙ c.in-Some.is) in
    let folder : IsFolder met.node = c.is_folder.ensures.0 c.if-not-is_folder.false in
    let left = subst (λ (n : List ℕ). LeavesFolder T before.folder met.node inner.number n false old new before.session.volume after.session.volume)
    c.deref.ensures.value c.in_err-into.ensures.does.1 in
    fault_at (λ done. CopiesMet T before.folder (vec_len copying.piece) met (inner_of folders) (progress c.args.walk.now) (progress c.args.walk.now)
    before.told after.told folders folders copying copying old new before.session.volume after.session.volume)
    (λ fault. EndsLine fault
    × StopsMet T before.folder (vec_len copying.piece) met (inner_of folders) copying old new before.session.volume after.session.volume)
    c.from_residual.result c.in_err-into.field-0.0 c.from_residual.ensures.1 (
      c.in_err-into.ensures.does.0,
      folder_stops T before.folder (vec_len copying.piece) met (progress c.args.walk.now) (progress c.args.walk.now) before.told after.told folders folders
          copying copying old new before.session.volume after.session.volume inner is folder left,
    )

pub returns-in_err-push-clause-does : goal.returns-in_err-push-clause-does
returns-in_err-push-clause-does g c =
    let before = c.args.opened.now in
    let after = c.copy_folder_met.new.opened in
    let T = g.S.Store.types_of before.session.store in
    let old = g.S.Store.state_of before.session.store in
    let new = g.S.Store.state_of after.session.store in
    let folders = c.args.folders.now.items in
    let copying = c.args.copying.now in
    let met = met_of c.args.met.0.now in
    let inner = c.in-Some.folder in
    let into = c.in_ok-into.into in
    let far' = progress c.if-is_none.walk in
    let is : inner_of folders ≡ Some inner = sym (ap inner_of c.as_slice.ensures.value) ∙ (sym c.inner_of.ensures ∙ c.in-Some.is) in
    let folder : IsFolder met.node = c.is_folder.ensures.0 c.if-not-is_folder.false in
    let made = subst (λ (n : List ℕ). CopiesFolderMet T before.folder met.node inner.number n false into before.told after.told old new
    before.session.volume after.session.volume) c.deref.ensures.value c.in_ok-into.ensures.does in
    no_memory_at (λ done. CopiesMet T before.folder (vec_len copying.piece) met (inner_of folders) (progress c.args.walk.now) far'
    before.told after.told folders c.push.new.self.items copying copying old new before.session.volume after.session.volume)
    (StopsMet T before.folder (vec_len copying.piece) met (inner_of folders) copying old new before.session.volume after.session.volume)
    c.from_residual-in_err-push.result c.from_residual-in_err-push.ensures.1
    (not_gone_into T before.folder (vec_len copying.piece) met (progress c.args.walk.now) far' before.told after.told folders c.push.new.self.items
    copying copying old new before.session.volume after.session.volume inner is folder into made)

pub returns-clause-does : goal.returns-clause-does
returns-clause-does g c =
    let before = c.args.opened.now in
    let after = c.copy_folder_met.new.opened in
    let T = g.S.Store.types_of before.session.store in
    let old = g.S.Store.state_of before.session.store in
    let new = g.S.Store.state_of after.session.store in
    let folders = c.args.folders.now.items in
    let copying = c.args.copying.now in
    let met = met_of c.args.met.0.now in
    let inner = c.in-Some.folder in
    let into = c.in_ok-into.into in
    let far = progress c.args.walk.now in
    let far' = progress c.if-is_none.walk in
    let is : inner_of folders ≡ Some inner = sym (ap inner_of c.as_slice.ensures.value) ∙ (sym c.inner_of.ensures ∙ c.in-Some.is) in
    let folder : IsFolder met.node = c.is_folder.ensures.0 c.if-not-is_folder.false in
    let made = subst (λ (n : List ℕ). CopiesFolderMet T before.folder met.node inner.number n false into before.told after.told old new
    before.session.volume after.session.volume) c.deref.ensures.value c.in_ok-into.ensures.does in
    let goes : GoesInto into far far' = elim c.if-is_none.branch [
      | then-is_none w ↦ rw (w.walk-is) (passed_over into far (progress w.pass_over.new.self) (c.is_none.ensures ∙ ap not w.if-is_none.true) w.pass_over.ensures)
      | else-is_none w ↦ rw (w.walk-is) (stayed_in into far far (c.is_none.ensures ∙ ap not w.if-is_none.false) refl)
    ] in
    folder_met T before.folder (vec_len copying.piece) met far far' before.told after.told folders c.push.new.self.items copying copying old new
    before.session.volume after.session.volume inner is folder into made goes c.in_ok-push.ensures.items refl
