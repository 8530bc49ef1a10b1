use Rattle.std.proofs.Common.{◌≡◌, length, map, take}
use Rattle.std.specs.Prelude.{nat_lt}
use Rattle.tree_changes.specs.Moving.{IsUnmoved, Moves}
use Rattle.tree_changes.specs.Paths.{TellsEach}
use Rattle.tree_changes.proofs.moving.rename.Given as goal

abbrev pub invariant-loop-path : goal.invariant-loop-path
invariant-loop-path g l =
    let T = g.S.Store.types_of l.fn.opened.session.store in
    let several = nat_lt 1 (length l.paths) in
    record {
      types : g.S.Store.types_of l.opened.session.store ≡ T;
      folder : l.opened.folder ≡ l.fn.opened.folder;
      tells : TellsEach (Moves T l.fn.opened.folder l.to several) (IsUnmoved T l.fn.opened.folder l.to several) (take l.path-index (map (λ path. path.now) l.paths))
          l.fn.opened.told l.opened.told (g.S.Store.state_of l.fn.opened.session.store) (g.S.Store.state_of l.opened.session.store)
          l.fn.opened.session.volume l.opened.session.volume;
    }
