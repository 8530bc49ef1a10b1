use Rattle.std.proofs.Common.{arith}
use Rattle.treefs_lookup.proofs.SoughtBuckets.{gets_closer, none_before, none_more, without_more}
use Rattle.treefs_lookup.proofs.sought.next_bucket.Goals as goal

pub loop-number-init : goal.loop-number-init
loop-number-init g c = record {
  past = omega arith;
  without = none_before (g.S.Store.state_of c.args.store.now) c.args.fs.number c.args.inode c.args.sought c.args.from;
}

pub overflow_add-next : goal.overflow_add-next
overflow_add-next g c = let few = c.in-Some.ensures.few in omega arith

pub loop-number-smaller : goal.loop-number-smaller
loop-number-smaller g c =
    gets_closer (g.S.Store.state_of c.args.store.now) c.args.fs.number c.args.inode c.args.sought c.loop-number.next c.in-Some.number c.in-Some.ensures

pub returns : goal.returns
returns g c =
    none_more (g.S.Store.state_of c.args.store.now) c.args.fs.number c.args.inode c.args.sought c.args.from c.loop-number.next c.loop-number.invariant.without c.in_default.ensures

pub loop-number-preserved : goal.loop-number-preserved
loop-number-preserved g c =
    let there = c.in-Some.ensures in
    let past = there.past in
    let before = c.loop-number.invariant.past in
    record {
      past = omega arith;
      without = without_more (g.S.Store.state_of c.args.store.now) c.args.fs.number c.args.inode c.args.sought c.args.from c.loop-number.next c.in-Some.number c.read_bucket-bucket.result c.has_sought.result
          c.loop-number.invariant.without there c.read_bucket-bucket.ensures c.has_sought.ensures c.if-has_sought.false;
    }
