use Rattle.std.proofs.Common.{◌≡◌}
use Rattle.treefs_byte_plans.specs.Cuts.{own_cut}
use Rattle.treefs_byte_plans.proofs.CutPlaces.{own_left}
use Rattle.treefs_lookup.specs.Readable.{readable}
use Rattle.treefs_byte_plans.proofs.cuts.own_cut.Given as goal

abbrev pub invariant-loop-other : goal.invariant-loop-other
invariant-loop-other g l =
    let content = readable (g.S.Store.state_of l.store) l.fs.number in
    own_cut content l.block l.place ≡ own_left content l.block l.place l.other
