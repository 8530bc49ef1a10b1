use Rattle.std.proofs.Common.{◌∙◌, arith, sym}
use Rattle.treefs_lookup.specs.Readable.{readable}
use Rattle.treefs_name_plans.proofs.Below.{above_found, above_last, above_next, above_none}
use Rattle.treefs_name_plans.proofs.moves.is_below.Goals as goal

pub returns-then-above-number : goal.returns-then-above-number
returns-then-above-number g c =
    let content = readable (g.S.Store.state_of c.args.store.now) c.args.tree.fs.number in
    let l = c.loop-left in
    sym (above_found content c.args.tree.top c.args.number l.left l.above c.loop-left-test.true c.if-above-number.true) ∙ l.invariant

pub returns-then-parent-above : goal.returns-then-parent-above
returns-then-parent-above g c =
    let content = readable (g.S.Store.state_of c.args.store.now) c.args.tree.fs.number in
    let l = c.loop-left in
    sym (above_last content c.args.tree.top c.args.number l.left l.above c.parent_of-parent.result c.parent_of-parent.ensures c.loop-left-test.true c.if-above-number.false
    c.if-parent-above.true)
    ∙ l.invariant

pub loop-left-preserved : goal.loop-left-preserved
loop-left-preserved g c =
    let content = readable (g.S.Store.state_of c.args.store.now) c.args.tree.fs.number in
    let l = c.loop-left in
    sym (above_next content c.args.tree.top c.args.number l.left l.above c.parent_of-parent.result c.parent_of-parent.ensures c.loop-left-test.true c.if-above-number.false
    c.if-parent-above.false)
    ∙ l.invariant

pub returns : goal.returns
returns g c =
    let content = readable (g.S.Store.state_of c.args.store.now) c.args.tree.fs.number in
    let l = c.loop-left in
    sym (above_none content c.args.tree.top c.args.number l.left l.above (omega (arith, c.loop-left-test.false))) ∙ l.invariant
