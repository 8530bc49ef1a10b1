use Rattle.std.proofs.Common.{◌≡◌}
use Rattle.tree_lines.specs.Walks.{begun, progress}
use Rattle.tree_changes.specs.Below.{SetsEach}
use Rattle.tree_changes.proofs.setting.set_below.Given as goal

abbrev pub invariant-loop-name : goal.invariant-loop-name
invariant-loop-name g l =
    let T = g.S.Store.types_of l.fn.opened.session.store in
    record {
      types : g.S.Store.types_of l.opened.session.store ≡ T;
      folder : l.opened.folder ≡ l.fn.opened.folder;
      sets : SetsEach l.fn.setting T l.fn.opened.folder (begun l.fn.path l.fn.folder) l.fn.opened.told (g.S.Store.state_of l.fn.opened.session.store)
          l.fn.opened.session.volume l._name (progress l.walk) l.opened.told (g.S.Store.state_of l.opened.session.store) l.opened.session.volume;
    }
