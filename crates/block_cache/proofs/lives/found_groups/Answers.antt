use Rattle.std.proofs.Common.{arith}
use Rattle.block_cache.proofs.GroupLives.{found_groups_are}
use Rattle.block_cache.proofs.lives.found_groups.Goals as goal

pub returns-clause-places : goal.returns-clause-places
returns-clause-places c =
    found_groups_are c.args.found.now c.args.blocks.now c.loop-group.groups.items
    (omega (arith, c.loop-group.invariant.3, c.loop-group-test.false, c.div_ceil-count.ensures))
    (λ g lt. c.loop-group.invariant.0 g (omega (arith, lt, c.loop-group.invariant.3)))
