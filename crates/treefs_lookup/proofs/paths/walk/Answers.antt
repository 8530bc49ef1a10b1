use Rattle.treefs_lookup.specs.Readable.{readable}
use Rattle.treefs_lookup.proofs.Walks.{stopped}
use Rattle.treefs_lookup.proofs.paths.walk.Goals as goal

pub returns-then-next-eq0 : goal.returns-then-next-eq0
returns-then-next-eq0 g c =
    stopped (readable (g.S.Store.state_of c.args.store.now) c.args.fs.number) c.args.top c.args.offsets.now c.loop-left.left c.loop-left.block c.pointer_at-next.result
    c.loop-left-test.true c.loop-left.invariant.within c.loop-left.invariant.so_far c.pointer_at-next.ensures c.if-next-eq0.true
