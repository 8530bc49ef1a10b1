use Rattle.std.proofs.Common.{◌-◌, arith}
use Rattle.templates.proofs.TablePlaces.{table_put}
use Rattle.templates.proofs.table.Table.put.Goals as goal

pub invariant_of-self : goal.invariant_of-self
invariant_of-self c = (
  table_put c.self.inside.places.items (c.args.ty - 3) c.args.template (omega arith) c.self.invariant.0 c.owns.ensures.template,
  c.self.invariant.1,
  c.self.invariant.2,
)
