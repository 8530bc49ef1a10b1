use Rattle.std.proofs.Common.{◌≡◌, ◌≤◌, length, take}
use Rattle.tree_puts.proofs.HolePieces.{HolesSoFar}
use Rattle.tree_puts.proofs.sparse.write_parts.Given as goal

abbrev pub invariant-loop-turn : goal.invariant-loop-turn
invariant-loop-turn g l =
    let first = l.fn.volume in
    let now = l.volume in
    let T = g.S.Store.types_of first.session.store in
    record {
      types : g.S.Store.types_of now.session.store ≡ T;
      folder : now.folder ≡ first.folder;
      told : now.told ≡ first.told;
      linked : l.arriving.linked ≡ l.fn.arriving.linked;
      sources : l.arriving.sources ≡ l.fn.arriving.sources;
      written : 384 ≤ length l.fn.piece → l.fn.first ≤ length l.fn.piece → HolesSoFar T first.folder l.fn.block (length l.fn.piece)
          (take l.fn.first l.fn.piece) l._turn l.count l.at l.is_open l.piece (g.S.Store.state_of first.session.store)
          (g.S.Store.state_of now.session.store) first.session.volume now.session.volume;
    }
