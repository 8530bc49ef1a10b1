use Rattle.std.proofs.Common.{◌++◌, ◌∙◌, ap, arith, length, sym}
use Rattle.treefs_byte_plans.specs.Drops.{dropped}
use Rattle.treefs_byte_plans.proofs.DroppedBlocks.{dropped_left, joined_more, joined_none, joined_past, left_first}
use Rattle.treefs_lookup.specs.Readable.{readable}
use Rattle.treefs_byte_plans.proofs.drops.dropped.Goals as goal

pub loop-other-init : goal.loop-other-init
loop-other-init g c =
    let content = readable (g.S.Store.state_of c.args.store.now) c.args.fs.number in
    record {
      few = omega (arith, ap length c.new-blocks.ensures);
      joined = sym (ap (λ l. l ++ dropped_left content c.args.block c.args.place) c.new-blocks.ensures ∙ left_first content c.args.block c.args.place);
    }

pub loop-other-preserved-then-below-eq0 : goal.loop-other-preserved-then-below-eq0
loop-other-preserved-then-below-eq0 g c =
    let content = readable (g.S.Store.state_of c.args.store.now) c.args.fs.number in
    let few = c.loop-other.invariant.few in
    record {
      few = omega arith;
      joined = joined_past content c.args.block (dropped content c.args.block c.args.place) c.loop-other.blocks.items c.loop-other.other c.child-below.result c.loop-other-test.true c.child-below.ensures c.if-below-eq0.true c.loop-other.invariant.joined;
    }

pub loop-other-preserved : goal.loop-other-preserved
loop-other-preserved g c =
    let content = readable (g.S.Store.state_of c.args.store.now) c.args.fs.number in
    let few = c.loop-other.invariant.few in
    let past = c.loop-other.auto.other in
    record {
      few = omega (arith, c.push.ensures.len);
      joined = joined_more content c.args.block (dropped content c.args.block c.args.place) c.loop-other.blocks.items c.push.new.self.items c.loop-other.other c.child-below.result c.loop-other-test.true c.child-below.ensures c.if-below-eq0.false c.push.ensures.items c.loop-other.invariant.joined;
    }

pub returns : goal.returns
returns g c =
    let content = readable (g.S.Store.state_of c.args.store.now) c.args.fs.number in
    joined_none content c.args.block (dropped content c.args.block c.args.place) c.loop-other.blocks.items c.loop-other.other c.loop-other-test.false c.loop-other.invariant.joined
