use Rattle.std.proofs.Common.{◌≡◌, ◌+◌, ◌≤◌, length}
use Rattle.tree_changes.specs.Copies.{CopiesStretches}
use Rattle.tree_changes.proofs.copies.copy_stretches.Given as goal

abbrev pub invariant-loop-stretch : goal.invariant-loop-stretch
invariant-loop-stretch g l =
    let T = g.S.Store.types_of l.fn.opened.session.store in
    record {
      types : g.S.Store.types_of l.opened.session.store ≡ T;
      folder : l.opened.folder ≡ l.fn.opened.folder;
      told : l.opened.told ≡ l.fn.opened.told;
      far : 384 + l._stretch ≤ l.at;
      copies : CopiesStretches T l.fn.opened.folder (length l.fn.piece) l.copied.node.number l.block 384 l.at (g.S.Store.state_of l.fn.opened.session.store)
          (g.S.Store.state_of l.opened.session.store) l.fn.opened.session.volume l.opened.session.volume;
    }
