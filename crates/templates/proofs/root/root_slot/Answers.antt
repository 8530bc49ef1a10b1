use Rattle.std.proofs.Common.{◌≡◌, ◌+◌, ◌*◌, ◌∙◌, ap, arith}
use Rattle.xn_model.specs.Root.{slot, word_at}
use Rattle.templates.proofs.root.root_slot.Goals as goal

pub returns : goal.returns
unfolding slot
returns c =
    let m = c.args.block.now in
    let block = c.slot_start-at.ensures in
    let ty : c.slot_start-at.result + 4 ≡ 76 + 8 * c.args.i = omega (arith, block) in
    λ i. ((c.word_at.ensures ∙ ap (word_at m) block) i, (c.word_at-2.ensures ∙ ap (word_at m) ty) i)
