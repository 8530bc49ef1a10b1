use Rattle.std.proofs.Common.{◌≡◌, ◌+◌, ◌++◌, ◌∷◌, [], ℕ, Vec, Global, sym, ◌∙◌, ap, refl, arith}
use Rattle.ffs_lib.proofs.Common.{blocks_of}
use Rattle.ffs_model.specs.Library.{pointed, pointer_word}
use Rattle.ffs_lib.proofs.Dropping.{words_more, words_past}
use Rattle.ffs_lib.proofs.steps.blocks_in.Goals.{then-block-ne0+in_ok-push, else-block-ne0}
use Rattle.ffs_lib.proofs.steps.blocks_in.Goals as goal

pub loop-place-preserved : goal.loop-place-preserved
loop-place-preserved c =
    let k = c.loop-place.place in
    let inv : c.loop-place.blocks.items ≡ blocks_of (pointed (pointer_word c.args.bytes.now) k 2) = c.loop-place.invariant in
    let is = c.pointer-block.ensures in
    elim c.if-block-ne0.branch [
      | then-block-ne0+in_ok-push w ↦
          ap (λ (b : Vec ℕ Global). b.items) w.blocks-is
          ∙ (w.in_ok-push.ensures.items ∙ ((λ i. inv i ++ is i ∷ []) ∙ sym (words_more _ 2 k (k + 1) refl (λ z. w.if-block-ne0.true (is ∙ z)))))
      | else-block-ne0 w ↦ ap (λ (b : Vec ℕ Global). b.items) w.blocks-is ∙ (inv ∙ sym (words_past _ 2 k (k + 1) refl (sym is ∙ w.if-block-ne0.false)))
    ]

pub returns : goal.returns
returns c =
    let end : c.loop-place.place ≡ 128 = let k = c.loop-place.auto.place-end in omega arith in
    c.loop-place.invariant ∙ ap (λ n. blocks_of (pointed (pointer_word c.args.bytes.now) n 2)) end
