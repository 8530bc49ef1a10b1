use Rattle.std.proofs.Common.{◌≡◌, ◌≤◌, length, take}
use Rattle.tree_puts.proofs.Whole.{WrittenSoFar}
use Rattle.tree_puts.proofs.arriving.Arriving.write_rest.Given as goal

abbrev pub invariant-loop-turn : goal.invariant-loop-turn
invariant-loop-turn g l =
    let first = l.fn.volume in
    let now = l.volume in
    let T = g.S.Store.types_of first.session.store in
    record {
      types : g.S.Store.types_of now.session.store ≡ T;
      folder : now.folder ≡ first.folder;
      told : now.told ≡ first.told;
      linked : l.self.linked ≡ l.fn.self.linked;
      sources : l.self.sources ≡ l.fn.self.sources;
      written : 384 ≤ length l.fn.piece → l.fn.first ≤ length l.fn.piece → WrittenSoFar T first.folder l.fn.block (length l.fn.piece)
          (take l.fn.first l.fn.piece) l._turn l.from l.to l.at l.piece (g.S.Store.state_of first.session.store) (g.S.Store.state_of now.session.store)
          first.session.volume now.session.volume;
    }
