use Rattle.std.proofs.Common.{◌≡◌, map, take}
use Rattle.tree_changes.specs.Files.{IsUnsized, Sizes}
use Rattle.tree_changes.specs.Paths.{TellsEach}
use Rattle.tree_changes.proofs.times.truncate.Given as goal

abbrev pub invariant-loop-path : goal.invariant-loop-path
invariant-loop-path g l =
    let T = g.S.Store.types_of l.fn.opened.session.store in
    record {
      types : g.S.Store.types_of l.opened.session.store ≡ T;
      folder : l.opened.folder ≡ l.fn.opened.folder;
      tells : TellsEach (Sizes l.fn.size T l.fn.opened.folder) (IsUnsized l.fn.size T l.fn.opened.folder)
          (take l.path-index (map (λ path. path.now) l.paths)) l.fn.opened.told l.opened.told (g.S.Store.state_of l.fn.opened.session.store)
          (g.S.Store.state_of l.opened.session.store) l.fn.opened.session.volume l.opened.session.volume;
    }
