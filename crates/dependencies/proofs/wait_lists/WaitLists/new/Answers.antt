use Rattle.dependencies.proofs.WaitChains.{none_waits}
use Rattle.dependencies.proofs.wait_lists.WaitLists.new.Goals as goal

pub invariant_of-result : goal.invariant_of-result
invariant_of-result c = none_waits c.args.blocks _ _ _ c.in_ok-new.ensures c.in_ok-new-2.ensures c.in_ok-new-3.ensures
