use Rattle.std.proofs.Common.{arith, sym, subst}
use Rattle.treefs_lookup.specs.Leaves.{AreMissing}
use Rattle.treefs_lookup.specs.Readable.{readable}
use Rattle.treefs_lookup.proofs.PassedLeaves.{gets_closer, goes_on, is_next, levels_few, none_before, none_left, passed_over}
use Rattle.treefs_lookup.proofs.leaves.next_leaf.Goals as goal

pub loop-number-init : goal.loop-number-init
loop-number-init g c = record {
  past = omega arith;
  missing = none_before (readable (g.S.Store.state_of c.args.store.now) c.args.fs.number) c.args.inode c.args.from;
}

pub returns-then-reach-eq0 : goal.returns-then-reach-eq0
returns-then-reach-eq0 g c =
    is_next (readable (g.S.Store.state_of c.args.store.now) c.args.fs.number) c.args.inode c.loop-number.number c.args.from c.find_leaf-reach.result
    c.loop-number-test.true c.find_leaf-reach.ensures c.if-reach-eq0.true c.loop-number.invariant.past c.loop-number.invariant.missing

pub leaf_behind-number-requires : goal.leaf_behind-number-requires
leaf_behind-number-requires g c = record {
  there = c.loop-number-test.true;
  few = levels_few (readable (g.S.Store.state_of c.args.store.now) c.args.fs.number) c.args.inode c.loop-number.number c.find_leaf-reach.result
      c.loop-number-test.true c.find_leaf-reach.ensures c.if-reach-eq0.false;
}

pub loop-number-smaller : goal.loop-number-smaller
loop-number-smaller g c =
    gets_closer (readable (g.S.Store.state_of c.args.store.now) c.args.fs.number) c.args.inode c.loop-number.number c.find_leaf-reach.result
    c.loop-number-test.true c.find_leaf-reach.ensures c.if-reach-eq0.false c.leaf_behind-number.result c.leaf_behind-number.ensures

pub loop-number-preserved : goal.loop-number-preserved
loop-number-preserved g c =
    let content = readable (g.S.Store.state_of c.args.store.now) c.args.fs.number in
    let r = c.find_leaf-reach.result in
    let lt = c.loop-number-test.true in
    let more = goes_on content c.args.inode c.loop-number.number r lt c.find_leaf-reach.ensures c.if-reach-eq0.false in
    let is = c.leaf_behind-number.ensures in
    record {
      past = omega arith;
      missing = subst (AreMissing content c.args.inode c.args.from) (sym is) (passed_over content c.args.inode c.loop-number.number r lt c.find_leaf-reach.ensures c.if-reach-eq0.false c.args.from c.loop-number.invariant.past c.loop-number.invariant.missing);
    }

pub returns : goal.returns
returns g c =
    none_left (readable (g.S.Store.state_of c.args.store.now) c.args.fs.number) c.args.inode c.args.from c.loop-number.number c.loop-number-test.false c.loop-number.invariant.missing
