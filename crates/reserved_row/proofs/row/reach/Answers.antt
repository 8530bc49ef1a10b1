use Rattle.std.proofs.Common.{arith}
use Rattle.reserved_row.proofs.Places.{extended}
use Rattle.reserved_row.proofs.row.reach.Goals as goal

pub returns-then-place-len-clause-row : goal.returns-then-place-len-clause-row
returns-then-place-len-clause-row g c =
    extended c.args.blank c.args.places c.args.made.now.items c.extend.new.made.items c.min-count.result (omega arith) (omega arith) c.extend.ensures.items
