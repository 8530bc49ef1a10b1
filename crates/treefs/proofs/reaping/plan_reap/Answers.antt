use Rattle.std.proofs.Common.{◌∙◌, sym}
use Rattle.treefs_lookup.specs.Readable.{readable}
use Rattle.treefs.proofs.Orphans.{no_orphan_0, no_orphan_past, nothing_planned}
use Rattle.treefs.proofs.reaping.plan_reap.Goals.{then-number-eq0-via-then-number-eq0, then-number-eq0-via-else-number-eq0+then-number-gt-LEAVES, then-number-eq0-via-else-number-eq0+else-number-gt-LEAVES+then-orphan_block-eq0}
use Rattle.treefs.proofs.reaping.plan_reap.Goals as goal

pub returns-then-number-eq0 : goal.returns-then-number-eq0
returns-then-number-eq0 g c =
    let state = g.S.Store.state_of c.args.store.now in
    let tree = c.args.tree in
    let content = readable state tree.fs.number in
    let n = c.args.number in
    nothing_planned state tree c.args.memory.now c.args.numbers.now n
    (elim c.then-number-eq0.branch [
      | then-number-eq0-via-then-number-eq0 w ↦ no_orphan_0 content tree.top n w.if-number-eq0.true
      | then-number-eq0-via-else-number-eq0+then-number-gt-LEAVES w ↦ no_orphan_past content tree.top n w.if-number-gt-LEAVES.true
      | then-number-eq0-via-else-number-eq0+else-number-gt-LEAVES+then-orphan_block-eq0 w ↦ sym w.orphan_block.ensures ∙ w.if-orphan_block-eq0.true
    ])
