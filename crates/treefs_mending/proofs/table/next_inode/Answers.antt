use Rattle.std.proofs.Common.{arith, ◌+◌, ap, sym}
use Rattle.std.specs.Prelude.{is_ok}
use Rattle.treefs_format.specs.Paths.{leaf_count}
use Rattle.treefs_lookup.specs.Readable.{readable}
use Rattle.treefs_mending.proofs.FreeNumbers.{free_more, free_none, free_one}
use Rattle.treefs_mending.proofs.table.next_inode.Goals as goal

pub loop-leaf-init : goal.loop-leaf-init
loop-leaf-init g c =
    let content = readable (g.S.Store.state_of c.args.store.now) c.args.tree.fs.number in
    let is = c.saturating_sub-next.ensures in
    record {
      past = omega arith;
      free = λ n ge lt. free_none content c.args.tree.top c.args.from n ge (omega (arith, is));
    }

pub loop-leaf-preserved : goal.loop-leaf-preserved
loop-leaf-preserved g c =
    let content = readable (g.S.Store.state_of c.args.store.now) c.args.tree.fs.number in
    let top = c.args.tree.top in
    let from = c.args.from in
    let next = c.loop-leaf.next in
    let number = c.in-Some.leaf.number in
    let old = c.loop-leaf.invariant.past in
    let past = c.in-Some.ensures.past in
    record {
      past = omega arith;
      free = free_one content top from (number + 1) (free_more content top from next number c.loop-leaf.invariant.free c.in-Some.ensures.first)
          (ap is_ok (sym c.in-Err.ensures));
    }

pub returns-in-Ok : goal.returns-in-Ok
returns-in-Ok g c =
    let content = readable (g.S.Store.state_of c.args.store.now) c.args.tree.fs.number in
    let old = c.loop-leaf.invariant.past in
    let past = c.in-Some.ensures.past in
    let few = c.in-Some.ensures.few in
    record {
      past = omega arith;
      some = omega arith;
      few = omega arith;
      inode = sym c.in-Ok.ensures;
      first = free_more content c.args.tree.top c.args.from c.loop-leaf.next c.in-Some.leaf.number c.loop-leaf.invariant.free c.in-Some.ensures.first;
    }

pub returns : goal.returns
returns g c =
    free_more (readable (g.S.Store.state_of c.args.store.now) c.args.tree.fs.number) c.args.tree.top c.args.from c.loop-leaf.next leaf_count
    c.loop-leaf.invariant.free c.in_default.ensures
