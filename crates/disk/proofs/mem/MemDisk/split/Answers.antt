use Rattle.std.proofs.Common.{rules}
use Rattle.disk.proofs.Held.{HoldsBytes-fresh}
use Rattle.disk.proofs.mem.MemDisk.split.Goals as goal

pub returns-in-Ok-clause-holds : goal.returns-in-Ok-clause-holds
returns-in-Ok-clause-holds c = HoldsBytes-fresh c.args.self c.in-Ok.lanes (search rules)
