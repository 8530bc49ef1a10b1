use Rattle.std.proofs.Common.{◌≡◌}
use Rattle.tree_lines.specs.Walks.{begun, progress}
use Rattle.tree_changes.specs.Emptying.{RemovesEach}
use Rattle.tree_changes.proofs.removing.empty_folder.Given as goal

abbrev pub invariant-loop-name : goal.invariant-loop-name
invariant-loop-name g l =
    let T = g.S.Store.types_of l.fn.opened.session.store in
    record {
      types : g.S.Store.types_of l.opened.session.store ≡ T;
      folder : l.opened.folder ≡ l.fn.opened.folder;
      removes : RemovesEach T l.fn.opened.folder (begun l.fn.path l.fn.folder) l.fn.opened.told (g.S.Store.state_of l.fn.opened.session.store)
          l.fn.opened.session.volume l._name (progress l.walk) l.opened.told l.is_whole (g.S.Store.state_of l.opened.session.store) l.opened.session.volume;
    }
