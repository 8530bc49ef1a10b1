use Rattle.std.proofs.Common.{◌∙◌, ◌&&◌, ap, drop, arith}
use Rattle.std.proofs.lemmas.Slice.{between_to_end}
use Rattle.xn_model.specs.Lists.{blank}
use Rattle.crash_check.proofs.Blanks.{blank-halves}
use Rattle.crash_check.proofs.blocks.is_blank_from.Goals as goal

pub returns-then-is_blank : goal.returns-then-is_blank
returns-then-is_blank c =
    let m = c.args.block.now in
    c.is_blank-then-is_blank.ensures ∙ ap blank (between_to_end m 256 512 (omega arith))
    ∙ ap (λ q. q && blank (drop 256 m)) c.if-is_blank.ensures ∙ blank-halves m c.args.from 256 c.if-from-le-HALF.true

pub returns-else-is_blank : goal.returns-else-is_blank
returns-else-is_blank c =
    let m = c.args.block.now in
    c.if-is_blank.false ∙ ap (λ q. q && blank (drop 256 m)) c.if-is_blank.ensures ∙ blank-halves m c.args.from 256 c.if-from-le-HALF.true
