use Rattle.std.proofs.Common.{◌≡◌}
use Rattle.treefs_lookup.specs.Readable.{readable}
use Rattle.treefs_name_plans.specs.Moves.{is_below, most_above}
use Rattle.treefs_name_plans.proofs.moves.is_below.Given as goal

abbrev pub invariant-loop-left : goal.invariant-loop-left
invariant-loop-left g l =
    let content = readable (g.S.Store.state_of l.store) l.tree.fs.number in
    is_below content l.tree.top l.number l.left l.above ≡ is_below content l.tree.top l.number most_above l.directory

abbrev pub decreases-loop-left : goal.decreases-loop-left
decreases-loop-left g l = l.left
