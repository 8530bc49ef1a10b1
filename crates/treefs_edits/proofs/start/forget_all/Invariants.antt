use Rattle.std.proofs.Common.{◌≡◌, drop}
use Rattle.treefs_edits.specs.Plans.{forgotten}
use Rattle.treefs_edits.proofs.start.forget_all.Given as goal

abbrev pub invariant-loop-block : goal.invariant-loop-block
invariant-loop-block g l =
    let T = g.S.Store.types_of l.fn.store in
    record {
      types : g.S.Store.types_of l.store ≡ T;
      goes : forgotten T l.fs.number (drop l.block-index l.blocks) (g.S.Store.state_of l.store) ≡ forgotten T l.fs.number l.blocks (g.S.Store.state_of l.fn.store);
    }
