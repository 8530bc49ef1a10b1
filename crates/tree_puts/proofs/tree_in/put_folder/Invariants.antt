use Rattle.std.proofs.Common.{◌≡◌, ◌≤◌, ◌∷◌, [], length, map}
use Rattle.tree_puts.specs.Folders.{entered}
use Rattle.tree_puts.specs.Lines.{line_of}
use Rattle.tree_puts.specs.Trees.{BringsNames}
use Rattle.tree_puts.proofs.tree_in.put_folder.Given as goal

abbrev pub invariant-loop-step : goal.invariant-loop-step
invariant-loop-step g l =
    let first = l.fn.volume in
    let now = l.volume in
    record {
      types : g.S.Store.types_of now.session.store ≡ g.S.Store.types_of first.session.store;
      folder : now.folder ≡ first.folder;
      brings : 384 ≤ length l.fn.piece → BringsNames (length l.fn.piece) (entered l.fn.frame ∷ [])
          (line_of (g.S.Store.types_of first.session.store) (g.S.Store.state_of first.session.store) first.folder first.session.volume first.told
          l.fn.arriving.linked l.fn.arriving.sources) l._step (map entered l.frames.items)
          (line_of (g.S.Store.types_of now.session.store) (g.S.Store.state_of now.session.store) now.folder now.session.volume now.told
          l.arriving.linked l.arriving.sources);
    }
