use Rattle.treefs_values.proofs.Readings.{acts_read}
use Rattle.treefs_values.proofs.law.edits_are_read.Goals as goal

pub returns : goal.returns
returns c = acts_read
