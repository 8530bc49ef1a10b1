use Rattle.treefs_values.proofs.DroppedRead.{drop_read}
use Rattle.treefs_values.proofs.law.edits_that_drop_are_read.Goals as goal

pub returns : goal.returns
returns c = drop_read
