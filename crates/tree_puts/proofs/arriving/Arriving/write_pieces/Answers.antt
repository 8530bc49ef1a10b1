use Rattle.std.proofs.Common.{◌∙◌, Bool, length, subst, sym, take}
use Rattle.tree_puts.specs.Arriving.{WritesPieces}
use Rattle.tree_puts.proofs.Performed.{by_plan}
use Rattle.tree_puts.proofs.arriving.Arriving.write_pieces.Goals as goal

pub returns-then-is_sparse-clause-does : goal.returns-then-is_sparse-clause-does
returns-then-is_sparse-clause-does g c wide within =
    let sparse = sym c.is_sparse.ensures ∙ c.if-is_sparse.true in
    by_plan (c.write_parts.ensures.does wide within) (λ actions so.
    subst (λ (b : Bool). WritesPieces b c.args.block (length c.args.piece.now) (take c.args.first c.args.piece.now) c.write_parts.result actions) (sym
    sparse) so)

pub returns-clause-does : goal.returns-clause-does
returns-clause-does g c wide within =
    let sparse = sym c.is_sparse.ensures ∙ c.if-is_sparse.false in
    by_plan (c.write_rest.ensures.does wide within) (λ actions so.
    subst (λ (b : Bool). WritesPieces b c.args.block (length c.args.piece.now) (take c.args.first c.args.piece.now) c.write_rest.result actions) (sym
    sparse) so)
