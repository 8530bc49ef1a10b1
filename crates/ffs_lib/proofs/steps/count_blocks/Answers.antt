use Rattle.std.proofs.Common.{◌+◌, ◌∙◌, List, ℕ, ap, arith, length, refl, sym}
use Rattle.ffs_lib.proofs.Common.{direct_in}
use Rattle.ffs_lib.proofs.Dropping.{counted_more, words_past}
use Rattle.ffs_lib.proofs.steps.count_blocks.Goals.{then-direct-ne0, else-direct-ne0}
use Rattle.ffs_lib.proofs.steps.count_blocks.Goals as goal

pub loop-i-preserved : goal.loop-i-preserved
loop-i-preserved c =
    let word = direct_in c.args.inode.now in
    let low = c.loop-i.invariant.0 in
    let inv = c.loop-i.invariant.1 in
    elim c.if-direct-ne0.branch [
      | then-direct-ne0 w ↦
          let more = counted_more word 2 _ (c.loop-i.i + 1) refl (λ z. w.if-direct-ne0.true (c.direct.ensures ∙ z)) in
          (omega (arith, w.count-is, low), omega (arith, w.count-is, inv, more))
      | else-direct-ne0 w ↦
          (omega (arith, w.count-is, low), w.count-is ∙ (inv ∙ ap (λ (bs : List ℕ). length bs) (sym (words_past word 2 _ (c.loop-i.i + 1) refl (sym c.direct.ensures ∙ w.if-direct-ne0.false)))))
    ]
