use Rattle.ffs_model.specs.Cuts.{latest}
use Rattle.ffs_model.specs.Library.{IsLibrary}
use Rattle.ffs_lookup.specs.Counts.{AreCounts}
use Rattle.ffs_lookup.proofs.Counting.{numbers_below}
use Rattle.ffs_lookup.proofs.counts.count_names.Given as goal

abbrev pub invariant-loop-at : goal.invariant-loop-at
invariant-loop-at g l = IsLibrary (g.S.Store.types_of l.store) → AreCounts (numbers_below (latest (g.S.Store.state_of l.store).lives) l.fs.number l.at) l.counts
