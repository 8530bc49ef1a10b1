use Rattle.std.proofs.Common.{◌≡◌, ◌+◌, drop, length}
use Rattle.templates.specs.Tables.{table_types}
use Rattle.crash_check.specs.Rounds.{Walks, walk_from}
use Rattle.crash_check.specs.Sights.{sights, count_sum}
use Rattle.crash_check.proofs.Walks.{Sees}
use Rattle.crash_check.proofs.rounds.visit_level.Given as goal

abbrev pub invariant-loop-seen : goal.invariant-loop-seen
invariant-loop-seen g l =
    Walks (table_types l.fn.table) l.fn.blocks (walk_from (table_types l.fn.table) l.fn.blocks l.fn.from l.fn.named.entries) l.named.entries l.visited
    × (l.count ≡ length l.fn.blocks)
    × (l.visited ≡ l.fn.from + l.seen-index)
    × Sees (table_types l.fn.table) l.fn.blocks l.named.entries l.visited (sights l.left (drop l.seen-index l.seen-items))
    × (count_sum (drop l.seen-index l.seen-items) ≡ length l.left)
