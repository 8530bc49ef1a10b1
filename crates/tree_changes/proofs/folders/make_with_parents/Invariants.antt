use Rattle.std.proofs.Common.{◌≡◌, length}
use Rattle.tree_changes.specs.Making.{HasFolder, fronts_below}
use Rattle.tree_changes.specs.Paths.{DoesAll}
use Rattle.tree_changes.proofs.folders.make_with_parents.Given as goal

abbrev pub invariant-loop-end : goal.invariant-loop-end
invariant-loop-end g l =
    let T = g.S.Store.types_of l.fn.opened.session.store in
    record {
      types : g.S.Store.types_of l.opened.session.store ≡ T;
      folder : l.opened.folder ≡ l.fn.opened.folder;
      told : l.opened.told ≡ l.fn.opened.told;
      does : DoesAll (HasFolder T l.fn.opened.folder) (fronts_below l.path (length l.yielded)) (g.S.Store.state_of l.fn.opened.session.store)
          (g.S.Store.state_of l.opened.session.store) l.fn.opened.session.volume l.opened.session.volume;
    }
