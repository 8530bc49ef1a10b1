use Rattle.std.proofs.Common.{◌++◌, length, drop, ap, ◌∙◌}
use Rattle.xn_model.specs.BareDisks.{zeros}
use Rattle.templates.proofs.ForCallers.{drop-zeros}
use Rattle.treefs_format.proofs.types.block_of.Goals as goal

pub returns : goal.returns
returns c =
    let start = c.args.start.now in
    ap (λ front. front ++ drop (length start) (zeros 512)) c.copy_from_slice.ensures.after ∙ ap (λ back. start ++ back) (drop-zeros (length start) 512)
