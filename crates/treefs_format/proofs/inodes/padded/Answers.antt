use Rattle.std.proofs.Common.{◌++◌, length, drop, ap, ◌∙◌}
use Rattle.xn_model.specs.BareDisks.{zeros}
use Rattle.templates.proofs.ForCallers.{drop-zeros}
use Rattle.treefs_format.proofs.inodes.padded.Goals as goal

pub returns : goal.returns
returns c =
    let start = c.args.head.now in
    ap (λ front. front ++ drop (length start) (zeros 384)) c.copy_from_slice.ensures.after ∙ ap (λ back. start ++ back) (drop-zeros (length start) 384)
