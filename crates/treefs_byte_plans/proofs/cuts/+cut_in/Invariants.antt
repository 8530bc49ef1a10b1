use Rattle.std.proofs.Common.{◌≡◌, ◌-◌}
use Rattle.treefs_byte_plans.specs.Cuts.{cut_in}
use Rattle.treefs_byte_plans.proofs.CutPlaces.{cut_left}
use Rattle.treefs_lookup.specs.Readable.{readable}
use Rattle.treefs_byte_plans.proofs.cuts.+cut_in.Given as goal

abbrev pub decreases-cut_in : goal.decreases-cut_in
decreases-cut_in g l = l.height

abbrev pub invariant-loop-place : goal.invariant-loop-place
invariant-loop-place g l =
    let content = readable (g.S.Store.state_of l.store) l.fs.number in
    cut_in content l.height l.block l.keep ≡ cut_left content (l.height - 1) l.block l.keep l.place
