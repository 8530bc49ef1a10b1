use Rattle.std.proofs.Common.{inr, refl}
use Rattle.tree_puts.proofs.tree_in.put_name.Goals as goal

-- the path and the source are not told of
pub returns-clause-does : goal.returns-clause-does
returns-clause-does g c wide = inr (
  record {
    place = _;
    path = c.args.frame.1;
    source = c.args.frame.0;
    attributes = record { ref_ptr = c.args.arriving.ref_ptr; now = _ };
  },
  (refl, c.as_bytes-2.ensures.value),
  c.put_goods.ensures.does wide,
)
