use Rattle.std.proofs.Common.{arith}
use Rattle.free_map.proofs.MemberRows.{members_of-first, full}
use Rattle.free_map.proofs.set.BlockSet.full.Goals as goal

pub invariant_of-result : goal.invariant_of-result
invariant_of-result c =
    full c.args.bound _ c.in_ok-with_first.field-0 c.in_ok-with_first-2.field-0 c.in_ok-with_first.ensures.first c.in_ok-with_first-2.ensures.first
    (omega (arith, c.div_ceil.ensures)) (omega (arith, c.div_ceil.ensures)) (omega (arith, c.in_ok-with_first.ensures.long))
    (omega (arith, c.in_ok-with_first.ensures.long, c.in_ok-with_first-2.ensures.long))
    (omega (arith, c.in_ok-with_first.ensures.long, c.ranges.bound.fits)) (omega (arith, c.in_ok-with_first-2.ensures.long, c.ranges.bound.fits))

pub returns : goal.returns
returns c = members_of-first c.args.bound c.in_ok-with_first.field-0 c.in_ok-with_first.ensures.first
