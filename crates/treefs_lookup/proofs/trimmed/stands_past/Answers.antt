use Rattle.std.proofs.Common.{ap, arith, sym, ◌∙◌, subst}
use Rattle.xn_model.specs.Lists.{blank}
use Rattle.treefs_lookup.specs.Readable.{readable}
use Rattle.treefs_lookup.specs.Trimmed.{NoneBegins, pointers_past}
use Rattle.treefs_lookup.proofs.FirstBlocks.{leaf_begins, none_at_all, none_begins, none_yet, node_begins}
use Rattle.treefs_lookup.proofs.PassedLeaves.{gets_closer, goes_on, levels_few}
use Rattle.treefs_lookup.proofs.trimmed.stands_past.Goals.{then-reach-eq0-via-then-reach-eq0, then-reach-eq0-via-else-reach-eq0+then-is_first_node}
use Rattle.treefs_lookup.proofs.ZeroPointers.{none_past}
use Rattle.treefs_lookup.proofs.trimmed.stands_past.Goals as goal

pub returns : goal.returns
returns g c =
    let content = readable (g.S.Store.state_of c.args.store.now) c.args.fs.number in
    none_past content c.args.inode c.args.from
    (ap (λ l. blank (pointers_past l c.args.from)) c.in-Some.ensures ∙ (sym c.has_no_pointers.ensures ∙ c.if-has_no_pointers.true))

pub returns-then-reach-eq0 : goal.returns-then-reach-eq0
returns-then-reach-eq0 g c =
    let content = readable (g.S.Store.state_of c.args.store.now) c.args.fs.number in
    let number = c.loop-number.number in
    let r = c.find_leaf-reach.result in
    let lt = c.loop-number-test.true in
    let is = c.find_leaf-reach.ensures in
    let past = c.loop-number.invariant.past in
    elim c.then-reach-eq0.branch [
      | then-reach-eq0-via-then-reach-eq0 w ↦ (number, 0, past, lt, leaf_begins content c.args.inode number r lt is w.if-reach-eq0.true)
      | then-reach-eq0-via-else-reach-eq0+then-is_first_node w ↦
          (number, r.missing, past, lt, node_begins content c.args.inode number r lt is (sym w.is_first_node.ensures ∙ w.if-is_first_node.true))
    ]

pub loop-number-preserved : goal.loop-number-preserved
loop-number-preserved g c =
    let content = readable (g.S.Store.state_of c.args.store.now) c.args.fs.number in
    let number = c.loop-number.number in
    let r = c.find_leaf-reach.result in
    let lt = c.loop-number-test.true in
    let more = goes_on content c.args.inode number r lt c.find_leaf-reach.ensures c.if-reach-eq0.false in
    let is = c.leaf_behind-number.ensures in
    let past = c.loop-number.invariant.past in
    record {
      past = omega arith;
      none = subst (NoneBegins content c.args.inode c.args.from) (sym is)
          (none_begins content c.args.inode number r lt c.find_leaf-reach.ensures c.if-reach-eq0.false (sym c.is_first_node.ensures ∙ c.if-is_first_node.false) c.args.from c.loop-number.invariant.none);
    }

pub loop-number-init : goal.loop-number-init
loop-number-init g c = record {
  past = omega arith;
  none = none_yet (readable (g.S.Store.state_of c.args.store.now) c.args.fs.number) c.args.inode c.args.from;
}

pub leaf_behind-number-requires : goal.leaf_behind-number-requires
leaf_behind-number-requires g c = record {
  there = c.loop-number-test.true;
  few = levels_few (readable (g.S.Store.state_of c.args.store.now) c.args.fs.number) c.args.inode c.loop-number.number c.find_leaf-reach.result
      c.loop-number-test.true c.find_leaf-reach.ensures c.if-reach-eq0.false;
}

pub loop-number-smaller : goal.loop-number-smaller
loop-number-smaller g c =
    gets_closer (readable (g.S.Store.state_of c.args.store.now) c.args.fs.number) c.args.inode c.loop-number.number c.find_leaf-reach.result
    c.loop-number-test.true c.find_leaf-reach.ensures c.if-reach-eq0.false c.leaf_behind-number.result c.leaf_behind-number.ensures

pub returns-2 : goal.returns-2
returns-2 g c =
    none_at_all (readable (g.S.Store.state_of c.args.store.now) c.args.fs.number) c.args.inode c.args.from c.loop-number.number c.loop-number-test.false c.loop-number.invariant.none
