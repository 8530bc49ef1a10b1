use Rattle.std.proofs.Common.{ap, sym, ◌∙◌, take, Bool, ◌&&◌}
use Rattle.std.specs.Prelude.{◌==◌, bytes_eq}
use Rattle.xn_model.specs.Root.{marked, word_at}
use Rattle.templates.proofs.root.mark_is_right.Goals as goal

pub returns-clause-marked : goal.returns-clause-marked
unfolding marked
returns-clause-marked c =
    let m = c.args.block.now in
    let test = c.eq.ensures ∙ ap (bytes_eq (take 4 m)) c.as_slice.ensures in
    λ count. ap (λ (b : Bool). b && word_at m 4 == count) (sym test)
