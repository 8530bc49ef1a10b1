use Rattle.std.proofs.Common.{◌≡◌, false, length, map, take, true, vec_len}
use Rattle.std.specs.Prelude.{nat_lt}
use Rattle.tree_changes.specs.CopiedPaths.{CopiesAlong, HasNothing}
use Rattle.tree_changes.specs.Copying.{CopiesAt, IsLeftAt}
use Rattle.tree_changes.specs.Paths.{TellsEach}
use Rattle.tree_changes.specs.declared.copies.Copying.{Copying}
use Rattle.tree_changes.proofs.copying.copy.Given as goal

abbrev pub invariant-loop-path : goal.invariant-loop-path
invariant-loop-path g l =
    let T = g.S.Store.types_of l.fn.opened.session.store in
    let several = nat_lt 1 (length l.paths) in
    record {
      types : g.S.Store.types_of l.opened.session.store ≡ T;
      folder : l.opened.folder ≡ l.fn.opened.folder;
      piece : vec_len l.copying.piece ≡ 262144;
      recursive : l.copying.is_recursive ≡ l.fn.is_recursive;
      tells : l.fn.is_recursive ≡ false → TellsEach (CopiesAt 262144 T l.fn.opened.folder l.to several) (IsLeftAt 262144 T l.fn.opened.folder l.to several)
          (take l.path-index (map (λ path. path.now) l.paths)) l.fn.opened.told l.opened.told (g.S.Store.state_of l.fn.opened.session.store)
          (g.S.Store.state_of l.opened.session.store) l.fn.opened.session.volume l.opened.session.volume;
      trees : l.fn.is_recursive ≡ true → (copying : Copying) × HasNothing copying × CopiesAlong T l.fn.opened.folder 262144 l.to several l.fn.opened.told
          copying (g.S.Store.state_of l.fn.opened.session.store) l.fn.opened.session.volume (take l.path-index (map (λ path. path.now) l.paths))
          l.opened.told l.copying (g.S.Store.state_of l.opened.session.store) l.opened.session.volume;
    }
