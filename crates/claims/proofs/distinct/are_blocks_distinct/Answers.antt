use Rattle.std.proofs.Common.{◌∙◌, length, sym}
use Rattle.std.proofs.lemmas.Bool.{eqb-true}
use Rattle.claims.proofs.Numbers.{none_twice}
use Rattle.claims.proofs.distinct.are_blocks_distinct.Goals as goal

pub returns-then-is_empty : goal.returns-then-is_empty
returns-then-is_empty c =
    let pairs = c.args.pairs.now in
    c.if-is_empty.true ∙ sym (none_twice pairs (eqb-true (length pairs) 0 (sym c.is_empty.ensures ∙ c.if-is_empty.true)))
