use Rattle.std.proofs.Common.{◌≡◌, ◌∙◌, ◌∷◌, [], List, ap, length, subst}
use Rattle.std.specs.Prelude.{slice_index_or}
use Rattle.std.proofs.lemmas.Result.{IfOk-weaker}
use Rattle.xn_model.specs.Calls.{Edit, Patch, patched}
use Rattle.edit_list.specs.Undo.{undo_at, undo_of}
use Rattle.edit_list.proofs.Undoing.{undo_of_one, patches_of_edit, undone}
use Rattle.edit_list.proofs.edit.Edit.undo_of.Goals as goal

pub returns-then-is_short-clause-undone : goal.returns-then-is_short-clause-undone
returns-then-is_short-clause-undone c =
    let same = c.as_slice-patches.ensures.value ∙ ap (λ (e : Edit). e.patches) c.self.view_is in
    let bytes = c.args.bytes.now in
    let patches = c.args.self.now.patches in
    let patch = c.index-patches-0-then-is_short.result in
    let one = subst (λ (ps : List Patch). length ps ≡ 1) same c.if-patches-eq1.true in
    let is = subst (λ (ps : List Patch). patch ≡ slice_index_or ps 0 patch) same c.index-patches-0-then-is_short.is in
    ap (patched (patched bytes patches)) (c.undo_of_short.ensures ∙ undo_of_one bytes patches patch one is)
    ∙ undone bytes patches c.told-bytes (patches_of_edit c.args.self.now c.requires)

pub returns-clause-undone : goal.returns-clause-undone
returns-clause-undone c =
    let same = c.as_slice-patches.ensures.value ∙ ap (λ (e : Edit). e.patches) c.self.view_is in
    let back = undone c.args.bytes.now c.args.self.now.patches c.told-bytes (patches_of_edit c.args.self.now c.requires) in
    IfOk-weaker c.undo_of_any.result _ _
    (λ undo are. ap (patched (patched c.args.bytes.now c.args.self.now.patches)) (are ∙ ap (undo_of c.args.bytes.now) same) ∙ back)
    c.undo_of_any.ensures
