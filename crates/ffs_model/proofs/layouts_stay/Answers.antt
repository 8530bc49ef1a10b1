use Rattle.ffs_model.proofs.Grown.{reads_more}
use Rattle.ffs_model.proofs.layouts_stay.Goals as goal

pub returns : goal.returns
returns c = reads_more
