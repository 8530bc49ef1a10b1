use Rattle.std.proofs.Common.{◌/◌, ◌^◌, ◌<◌, arith}
use Rattle.free_map.proofs.BitRows.{low_from, none_from}
use Rattle.free_map.proofs.word.lowest_bit_from.Goals as goal

pub returns-clause-some : goal.returns-clause-some
returns-clause-some c =
    let some : 0 < c.args.word / 2 ^ c.args.from = omega (arith, c.if-rest-eq0.false) in
    low_from c.args.word c.args.from (omega (arith, c.ranges.word.fits)) c.requires some

pub returns-then-rest-eq0-clause-none : goal.returns-then-rest-eq0-clause-none
returns-then-rest-eq0-clause-none c = none_from c.args.word c.args.from c.if-rest-eq0.true
