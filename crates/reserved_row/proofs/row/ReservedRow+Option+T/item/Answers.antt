use Rattle.reserved_row.proofs.Places.{none_past}
use Rattle.reserved_row.proofs.row.ReservedRow+Option+T.item.Goals as goal

pub returns-in-None : goal.returns-in-None
returns-in-None g c = none_past c.args.self.now c.args.place c.get.result c.get.ensures c.in-None.is
