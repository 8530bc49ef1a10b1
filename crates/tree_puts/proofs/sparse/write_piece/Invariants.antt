use Rattle.std.proofs.Common.{◌≡◌}
use Rattle.std.specs.Slice.Iter.{chunks_rest, chunks_size}
use Rattle.tree_puts.proofs.Holes.{StretchesSoFar}
use Rattle.tree_puts.proofs.sparse.write_piece.Given as goal

abbrev pub invariant-loop-part : goal.invariant-loop-part
invariant-loop-part g l =
    let first = l.fn.volume in
    let now = l.volume in
    let T = g.S.Store.types_of first.session.store in
    record {
      next : (goal.iterator-loop-part g).can_next l.part-iterator;
      finite : (goal.iterator-loop-part g).is_finite l.part-iterator;
      size : chunks_size l.part-iterator ≡ 4096;
      types : g.S.Store.types_of now.session.store ≡ T;
      folder : now.folder ≡ first.folder;
      told : now.told ≡ first.told;
      written : StretchesSoFar T first.folder l.begun.1 l.at l.bytes l.from l.to (chunks_rest l.part-iterator) (g.S.Store.state_of first.session.store)
          (g.S.Store.state_of now.session.store) first.session.volume now.session.volume;
    }
