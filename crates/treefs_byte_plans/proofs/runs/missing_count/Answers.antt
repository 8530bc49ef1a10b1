use Rattle.treefs_lookup.specs.Readable.{readable}
use Rattle.treefs_byte_plans.specs.Runs.{missing_count}
use Rattle.treefs_byte_plans.proofs.MissingLeaves.{all_counted, no_more, one_more}
use Rattle.treefs_byte_plans.proofs.runs.missing_count.Goals as goal

pub returns-then-leaf_block-ne0-clause-count : goal.returns-then-leaf_block-ne0-clause-count
returns-then-leaf_block-ne0-clause-count g c =
    let content = readable (g.S.Store.state_of c.args.store.now) c.args.fs.number in
    no_more content c.args.inode (missing_count content c.args.inode c.args.leaf c.args.most) c.args.leaf c.args.most c.loop-count.count c.leaf_block.result
    c.loop-count-test.true c.leaf_block.ensures c.if-leaf_block-ne0.true c.loop-count.invariant

pub loop-count-preserved : goal.loop-count-preserved
loop-count-preserved g c =
    let content = readable (g.S.Store.state_of c.args.store.now) c.args.fs.number in
    one_more content c.args.inode (missing_count content c.args.inode c.args.leaf c.args.most) c.args.leaf c.args.most c.loop-count.count c.leaf_block.result
    c.loop-count-test.true c.leaf_block.ensures c.if-leaf_block-ne0.false c.loop-count.invariant
