use Rattle.std.proofs.Common.{arith}
use Rattle.treefs_byte_plans.specs.Roots.{leaf_pointers}
use Rattle.treefs_byte_plans.proofs.RootPointers.{leaf_more, leaf_past}
use Rattle.treefs_lookup.specs.Readable.{readable}
use Rattle.treefs_byte_plans.proofs.roots.leaf_pointers.Goals as goal

pub loop-leaf-preserved-then-block-eq0 : goal.loop-leaf-preserved-then-block-eq0
loop-leaf-preserved-then-block-eq0 g c =
    let content = readable (g.S.Store.state_of c.args.store.now) c.args.fs.number in
    let few = c.loop-leaf.invariant.few in
    record {
      few = omega arith;
      joined = leaf_past content c.args.inode (leaf_pointers content c.args.inode c.args.keep) c.loop-leaf.leaves.items c.loop-leaf.leaf c.pointer_at-block.result c.loop-leaf-test.true c.pointer_at-block.ensures c.if-block-eq0.true c.loop-leaf.invariant.joined;
    }

pub loop-leaf-preserved : goal.loop-leaf-preserved
loop-leaf-preserved g c =
    let content = readable (g.S.Store.state_of c.args.store.now) c.args.fs.number in
    let few = c.loop-leaf.invariant.few in
    let past = c.loop-leaf.auto.leaf in
    record {
      few = omega (arith, c.push.ensures.len);
      joined = leaf_more content c.args.inode (leaf_pointers content c.args.inode c.args.keep) c.loop-leaf.leaves.items c.push.new.self.items c.loop-leaf.leaf c.pointer_at-block.result c.loop-leaf-test.true c.pointer_at-block.ensures c.if-block-eq0.false c.push.ensures.items c.loop-leaf.invariant.joined;
    }
