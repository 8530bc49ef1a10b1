use Rattle.std.proofs.Common.{◌≡◌, ◌+◌, ◌++◌, ◌∷◌, [], ℕ, Vec, Global, sym, ◌∙◌, ap, refl}
use Rattle.ffs_lib.proofs.Common.{blocks_of, direct_in}
use Rattle.ffs_model.specs.Library.{pointed}
use Rattle.ffs_lib.proofs.Dropping.{words_more, words_past}
use Rattle.ffs_lib.proofs.steps.blocks_of.Goals.{then-block-ne0+in_ok-push, else-block-ne0}
use Rattle.ffs_lib.proofs.steps.blocks_of.Goals as goal

pub loop-i-preserved : goal.loop-i-preserved
loop-i-preserved c =
    let k = c.loop-i.i in
    let inv : c.loop-i.blocks.items ≡ blocks_of (pointed (direct_in c.args.inode.now) k 2) = c.loop-i.invariant in
    let is = c.direct-block.ensures in
    elim c.if-block-ne0.branch [
      | then-block-ne0+in_ok-push w ↦
          ap (λ (b : Vec ℕ Global). b.items) w.blocks-is
          ∙ (w.in_ok-push.ensures.items ∙ ((λ i. inv i ++ is i ∷ []) ∙ sym (words_more _ 2 k (k + 1) refl (λ z. w.if-block-ne0.true (is ∙ z)))))
      | else-block-ne0 w ↦ ap (λ (b : Vec ℕ Global). b.items) w.blocks-is ∙ (inv ∙ sym (words_past _ 2 k (k + 1) refl (sym is ∙ w.if-block-ne0.false)))
    ]
