use Rattle.std.proofs.Common.{◌∙◌, ap, [], ◌∷◌, ◌++◌, ◌+◌, ◌*◌}
use Rattle.xn_model.specs.Root.{with_slot}
use Rattle.xn_model.specs.Calls.{patched}
use Rattle.xn_state.proofs.Slots.{slot_undone}
use Rattle.xn_state.proofs.root.slot_undo.Goals as goal

pub returns : goal.returns
returns c =
    let m = c.args.block.now in
    let fs = c.args.fs.number in
    let undo = c.in_ok-push.ensures
    ∙ (λ i. c.none-undo.ensures i ++ record { offset = (c.slot_start-at.ensures ∙ ap (λ x. 72 + 8 * x) c.index.ensures.value) i; bytes = c.slot_bytes.ensures i } ∷ []) in
    λ root. ap (patched (with_slot m fs root)) undo ∙ slot_undone m fs root c.told-block c.args.fs.few
