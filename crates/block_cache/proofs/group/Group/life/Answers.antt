use Rattle.std.proofs.Common.{sym, arith}
use Rattle.block_cache.proofs.GroupLives.{free_past}
use Rattle.block_cache.proofs.group.Group.life.Goals as goal

pub returns-in-None : goal.returns-in-None
returns-in-None c = sym (free_past c.self.inside.places.items c.args.self.now c.args.at c.self.view_is (omega (arith, c.in-None.ensures.lookup, c.deref.ensures.len)))
