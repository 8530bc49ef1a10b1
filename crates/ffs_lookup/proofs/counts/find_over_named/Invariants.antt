use Rattle.ffs_model.specs.Cuts.{latest}
use Rattle.ffs_model.specs.Library.{IsLibrary}
use Rattle.ffs_lookup.proofs.Counting.{Enough}
use Rattle.ffs_lookup.proofs.counts.find_over_named.Given as goal

abbrev pub invariant-loop-at : goal.invariant-loop-at
invariant-loop-at g l = IsLibrary (g.S.Store.types_of l.store) → Enough (latest (g.S.Store.state_of l.store).lives) l.fs.number l.counts l.at
