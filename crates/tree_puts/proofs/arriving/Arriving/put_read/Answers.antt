use Rattle.std.proofs.Common.{◌≡◌, ◌∙◌, ◌<◌, arith, inl, inr, length, sym, take}
use Rattle.std.proofs.lemmas.List.{length-take}
use Rattle.tree_puts.proofs.Performed.{by_plan}
use Rattle.tree_puts.proofs.arriving.Arriving.put_read.Goals as goal

pub returns-then-is_sparse-clause-does : goal.returns-then-is_sparse-clause-does
returns-then-is_sparse-clause-does g c wide within =
    by_plan (c.put_long.ensures.does wide within) (λ actions so. inr ((λ short. sym c.is_sparse.ensures ∙ c.if-is_sparse.true), so))

pub returns-then-first-piece-clause-does : goal.returns-then-first-piece-clause-does
returns-then-first-piece-clause-does g c wide within =
    let piece = c.args.piece.now in
    let first = c.args.first in
    let short : length (take first piece) < length piece = let less = c.if-first-piece.true in omega (arith, length-take first piece) in
    by_plan c.put_whole.ensures.does (λ actions so. inl (short, sym c.is_sparse.ensures ∙ c.if-is_sparse.false, so))

pub returns-clause-does : goal.returns-clause-does
returns-clause-does g c wide within =
    let piece = c.args.piece.now in
    let full : length piece ≡ length (take c.args.first piece) = let more = c.if-first-piece.false in omega (arith, length-take c.args.first piece) in
    by_plan (c.put_long-2.ensures.does wide within) (λ actions so. inr ((λ short. absurd (omega (arith, short, full))), so))
