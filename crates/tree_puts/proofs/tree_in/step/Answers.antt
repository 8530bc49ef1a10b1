use Rattle.std.proofs.Common.{arith, inl, inr, map, refl}
use Rattle.std.specs.String.{string_bytes}
use Rattle.tree_puts.specs.Folders.{entered}
use Rattle.tree_puts.proofs.Stepped.{leaves_same, next_waits, none_waits}
use Rattle.tree_puts.proofs.tree_in.step.Goals as goal

pub returns-in_default-clause-does : goal.returns-in_default-clause-does
returns-in_default-clause-does g c wide = inl (
  none_waits string_bytes c.args.last.waiting.items (omega (arith, c.args.last.waiting.ok.0, c.in_default.ensures.cases.0)),
  refl,
  leaves_same (map string_bytes c.pop.new.self.items) (entered c.args.last) c.leave.result _ _ c.leave.ensures.does,
)

pub returns-clause-does : goal.returns-clause-does
returns-clause-does g c wide = inr (
  map string_bytes c.pop.new.self.items,
  c.as_str.result.now,
  next_waits string_bytes c.args.last.waiting.items c.pop.new.self.items c.in-Some.name c.pop.result c.as_str.result.now c.pop.ensures.items
      c.in-Some.is c.as_str.ensures.value,
  c.bring_next.ensures.does wide,
)
