use Rattle.treefs_lookup.specs.Readable.{readable}
use Rattle.treefs_lookup.proofs.Walks.{blocks_all, blocks_first, blocks_more}
use Rattle.treefs_lookup.proofs.paths.walk_blocks.Goals as goal

pub loop-left-init : goal.loop-left-init
loop-left-init g c =
    blocks_first (readable (g.S.Store.state_of c.args.store.now) c.args.fs.number) c.args.top c.args.offsets.now c.new-blocks.result.items c.new-blocks.ensures

pub loop-left-preserved : goal.loop-left-preserved
loop-left-preserved g c =
    blocks_more (readable (g.S.Store.state_of c.args.store.now) c.args.fs.number) c.args.top c.args.offsets.now c.loop-left.blocks.items c.push.new.self.items
    c.loop-left.left c.loop-left.block c.pointer_at-block.result c.loop-left-test.true c.loop-left.invariant c.pointer_at-block.ensures c.push.ensures.items

pub returns : goal.returns
returns g c =
    blocks_all (readable (g.S.Store.state_of c.args.store.now) c.args.fs.number) c.args.top c.args.offsets.now c.loop-left.blocks.items c.loop-left.left c.loop-left.block
    c.loop-left-test.false c.loop-left.invariant
