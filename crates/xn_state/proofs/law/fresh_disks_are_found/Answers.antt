use Rattle.xn_state.proofs.FreshDisks.{fresh_disks_are_found}
use Rattle.xn_state.proofs.law.fresh_disks_are_found.Goals as goal

pub returns : goal.returns
returns c = fresh_disks_are_found
