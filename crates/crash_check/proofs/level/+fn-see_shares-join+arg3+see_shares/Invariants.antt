use Rattle.std.proofs.Common.{◌-◌, ◌*◌}
use Rattle.crash_check.proofs.level.+fn-see_shares-join+arg3+see_shares.Given as goal

abbrev pub decreases-join+arg3 : goal.decreases-join+arg3
decreases-join+arg3 g l = 2 * l.shares - 1

abbrev pub decreases-see_shares : goal.decreases-see_shares
decreases-see_shares g l = 2 * l.shares
