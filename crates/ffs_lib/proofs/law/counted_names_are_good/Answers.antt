use Rattle.ffs_lib.proofs.NameCounts.{counted_good}
use Rattle.ffs_lib.proofs.law.counted_names_are_good.Goals as goal

pub returns : goal.returns
returns c = counted_good
