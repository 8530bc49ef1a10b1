use Rattle.std.proofs.Common.{map}
use Rattle.xn_model.specs.Images.{block_of}
use Rattle.image_model.specs.Walk.{visit_sees_at}
use Rattle.templates.specs.Tables.{table_types}
use Rattle.crash_check.specs.Parts.{part}
use Rattle.crash_check.specs.Sights.{AreSights}
use Rattle.crash_check.proofs.level.see_part.Given as goal

abbrev pub invariant-loop-k : goal.invariant-loop-k
invariant-loop-k l = AreSights l.pairs.items l.counts.items (map (visit_sees_at (table_types l.table) (block_of l.blocks)) (part l.named.entries l.from l.k))
