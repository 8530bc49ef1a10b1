use Rattle.std.proofs.Common.{◌≡◌, ◌∙◌, ◌<◌, List, ℕ, ap, length, subst, sym}
use Rattle.std.specs.Prelude.{slice_index_or}
use Rattle.xn_model.specs.Calls.{Edit, Patch}
use Rattle.xn_model.specs.Lists.{put}
use Rattle.edit_list.proofs.Puts.{patched_more}
use Rattle.edit_list.proofs.edit.Edit.apply.Goals as goal

pub loop-patch-preserved : goal.loop-patch-preserved
loop-patch-preserved c =
    let same = c.as_slice-patch-items.ensures.value ∙ ap (λ (e : Edit). e.patches) c.self.view_is in
    let at = c.loop-patch.patch-index in
    let patch = c.patch-item.result in
    let within = subst (λ (ps : List Patch). at < length ps) same c.loop-patch-test.true in
    let is = subst (λ (ps : List Patch). patch ≡ slice_index_or ps at patch) same c.patch-item.is in
    c.apply.ensures
    ∙ (ap (λ (m : List ℕ). put m patch.offset patch.bytes) c.loop-patch.invariant
    ∙ sym (patched_more c.args.bytes.now c.args.self.now.patches at patch within is))
