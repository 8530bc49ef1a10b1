use Rattle.ffs_lookup.proofs.Counting.{none_counted}
use Rattle.ffs_lookup.proofs.counts.NameCounts.none.Goals as goal

pub returns : goal.returns
returns c = none_counted
