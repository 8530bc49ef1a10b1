use Rattle.std.proofs.Common.{inr, refl}
use Rattle.tree_puts.proofs.putting.put_one_file.Goals as goal

pub returns-clause-does : goal.returns-clause-does
returns-clause-does g c wide = inr (
  c.in_ok-place.ensures.0,
  (
    record { place = c.in_ok-place.place; path = c.deref.result; source = c.args.from.0; attributes = c.args.from.1 },
    c.in_ok-place.ensures.1,
    refl,
    c.put_by_kind.ensures.does wide,
  ),
)
