use Rattle.world.proofs.Tellings.{fresh_moment}
use Rattle.world.proofs.law.fresh_disks_have_histories.Goals as goal

pub returns : goal.returns
returns c = fresh_moment
