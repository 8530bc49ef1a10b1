use Rattle.std.proofs.Common.{◌++◌, ◌∷◌, [], map, subst, arith}
use Rattle.xn_model.specs.Images.{block_of}
use Rattle.image_model.specs.Walk.{visit_sees, visit_sees_at}
use Rattle.templates.specs.Tables.{table_types}
use Rattle.crash_check.specs.Parts.{part}
use Rattle.crash_check.specs.Sights.{AreSights}
use Rattle.crash_check.proofs.Levels.{part_more}
use Rattle.crash_check.proofs.level.see_part.Goals as goal

pub loop-k-preserved : goal.loop-k-preserved
loop-k-preserved c =
    let T = table_types c.args.table.now in
    let f = visit_sees_at T (block_of c.args.blocks.now) in
    let x = c.get-number.result in
    let ps = c.see_next.new.pairs.items in
    let cs = c.see_next.new.counts.items in
    part_more f c.args.named.now.entries c.args.from c.loop-k.k x ps cs (omega (arith, c.loop-k.auto.k)) c.get-number.ensures (
    subst (λ m. AreSights ps cs (map f (part c.args.named.now.entries c.args.from c.loop-k.k) ++ visit_sees T x.1.ty m ∷ [])) c.block-block.ensures
    (c.in_ok-see_next.ensures _ c.loop-k.invariant))
