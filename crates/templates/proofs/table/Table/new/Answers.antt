use Rattle.std.proofs.Common.{arith}
use Rattle.templates.proofs.TablePlaces.{empty_table}
use Rattle.templates.proofs.table.Table.new.Goals as goal

pub invariant_of-result : goal.invariant_of-result
invariant_of-result c =
    (empty_table c.loop-place.places.items c.loop-place._place c.loop-place.invariant.empty (omega arith), c.in_ok-root.ensures, c.in_ok-leaf.ensures)
