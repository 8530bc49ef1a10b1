use Rattle.std.proofs.Common.{sym}
use Rattle.treefs_lookup.specs.Readable.{readable}
use Rattle.treefs_lookup.proofs.Walks.{none_pointed}
use Rattle.treefs_lookup.proofs.blocks.pointer_at.Goals as goal

pub returns-in-None : goal.returns-in-None
returns-in-None g c = sym (none_pointed (readable (g.S.Store.state_of c.args.store.now) c.args.fs.number) c.args.block c.args.offset c.in-None.ensures)
