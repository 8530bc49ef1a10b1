use Rattle.std.proofs.Common.{◌≡◌, [], ◌∷◌, Some, vec_len}
use Rattle.tree_lines.specs.Walks.{begun, progress, without}
use Rattle.tree_changes.specs.CopiedTrees.{CopiesThrough}
use Rattle.tree_changes.proofs.copying.copy_contents.Given as goal

abbrev pub invariant-loop-name : goal.invariant-loop-name
invariant-loop-name g l =
    let T = g.S.Store.types_of l.fn.opened.session.store in
    record {
      types : g.S.Store.types_of l.opened.session.store ≡ T;
      folder : l.opened.folder ≡ l.fn.opened.folder;
      piece : vec_len l.copying.piece ≡ vec_len l.fn.copying.piece;
      recursive : l.copying.is_recursive ≡ l.fn.copying.is_recursive;
      through : CopiesThrough T l.fn.opened.folder (vec_len l.fn.copying.piece)
          (without (begun l.fn.copied.path.now l.fn.copied.node.number) l.fn.into.number) l.fn.opened.told (Some l.fn.into ∷ []) l.fn.copying
          (g.S.Store.state_of l.fn.opened.session.store) l.fn.opened.session.volume l._name (progress l.walk) l.opened.told l.folders.items l.copying
          (g.S.Store.state_of l.opened.session.store) l.opened.session.volume;
    }
