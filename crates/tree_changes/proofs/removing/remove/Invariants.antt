use Rattle.std.proofs.Common.{◌≡◌, false, map, take, true}
use Rattle.tree_changes.specs.Emptying.{KeepsSome, RemovesAll}
use Rattle.tree_changes.specs.Paths.{TellsEach}
use Rattle.tree_changes.specs.PathsTold.{TellsAlong}
use Rattle.tree_changes.specs.Removing.{IsKept, Removes}
use Rattle.tree_changes.proofs.removing.remove.Given as goal

abbrev pub invariant-loop-path : goal.invariant-loop-path
invariant-loop-path g l =
    let T = g.S.Store.types_of l.fn.opened.session.store in
    record {
      types : g.S.Store.types_of l.opened.session.store ≡ T;
      folder : l.opened.folder ≡ l.fn.opened.folder;
      tells : l.fn.how.is_recursive ≡ false → TellsEach (Removes l.fn.how.is_forced T l.fn.opened.folder) (IsKept T l.fn.opened.folder)
          (take l.path-index (map (λ path. path.now) l.paths)) l.fn.opened.told l.opened.told (g.S.Store.state_of l.fn.opened.session.store)
          (g.S.Store.state_of l.opened.session.store) l.fn.opened.session.volume l.opened.session.volume;
      along : l.fn.how.is_recursive ≡ true → TellsAlong (RemovesAll l.fn.how.is_forced T l.fn.opened.folder) (KeepsSome T l.fn.opened.folder)
          (take l.path-index (map (λ path. path.now) l.paths)) l.fn.opened.told l.opened.told (g.S.Store.state_of l.fn.opened.session.store)
          (g.S.Store.state_of l.opened.session.store) l.fn.opened.session.volume l.opened.session.volume;
    }
