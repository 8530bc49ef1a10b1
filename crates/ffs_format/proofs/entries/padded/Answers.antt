use Rattle.std.proofs.Common.{ℕ, ◌++◌, length, drop, replicate, ap, ◌∙◌}
use Rattle.std.proofs.lemmas.List.{drop-replicate}
use Rattle.ffs_format.proofs.entries.padded.Goals as goal

pub returns : goal.returns
returns c =
    let name = c.args.name.now in
    ap (λ front. front ++ drop (length name) (replicate {A = ℕ} 28 0)) c.copy_from_slice.ensures.after ∙ ap (λ back. name ++ back) (drop-replicate (length name) 28 0)
