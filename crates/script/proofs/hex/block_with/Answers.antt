use Rattle.std.proofs.Common.{List, ℕ, ◌≡◌, ◌++◌, length, take, drop, replicate, ap, ◌∙◌}
use Rattle.std.proofs.lemmas.List.{take_min}
use Rattle.script.proofs.hex.block_with.Goals as goal

pub returns : goal.returns
returns c =
    let bytes : List ℕ = c.args.bytes.now in
    let start : List ℕ = take c.min.result bytes in
    let first : start ≡ take 512 bytes = ap (λ n. take n bytes) c.min.ensures ∙ take_min 512 bytes in
    ap (λ front. front ++ drop (length start) (replicate 512 0)) c.copy_from_slice.ensures.after ∙ ap (λ xs. xs ++ drop (length xs) (replicate 512 0)) first
