use Rattle.std.proofs.Common.{◌∙◌, ap, [], ◌∷◌, ◌++◌}
use Rattle.xn_model.specs.Root.{with_pointer}
use Rattle.xn_model.specs.Calls.{patched}
use Rattle.xn_state.proofs.Slots.{pointer_undone}
use Rattle.xn_state.proofs.root.pointer_undo.Goals as goal

pub returns : goal.returns
returns c =
    let m = c.args.block.now in
    let place = c.args.place in
    let undo = c.in_ok-push.ensures
    ∙ (λ i. c.none-undo.ensures i ++ record { offset = c.pointer_start-at.ensures i; bytes = c.pointer_bytes.ensures i } ∷ []) in
    λ pointer. ap (patched (with_pointer m place pointer)) undo ∙ pointer_undone m place pointer c.told-block c.requires
