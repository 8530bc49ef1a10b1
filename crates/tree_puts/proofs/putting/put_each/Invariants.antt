use Rattle.std.proofs.Common.{◌≡◌, ◌≤◌, length, map, take}
use Rattle.std.specs.Prelude.{nat_lt}
use Rattle.tree_puts.specs.Lines.{line_of}
use Rattle.tree_puts.specs.Sources.{PutsEach}
use Rattle.tree_puts.proofs.putting.put_each.Given as goal

abbrev pub invariant-loop-source : goal.invariant-loop-source
invariant-loop-source g l =
    let first = l.fn.volume in
    let now = l.volume in
    record {
      types : g.S.Store.types_of now.session.store ≡ g.S.Store.types_of first.session.store;
      folder : now.folder ≡ first.folder;
      puts : 384 ≤ length l.fn.piece → PutsEach l.fn.putting.has_lines l.fn.putting.path.now (nat_lt 1 (length l.fn.putting.sources.now)) (length l.fn.piece)
          (line_of (g.S.Store.types_of first.session.store) (g.S.Store.state_of first.session.store) first.folder first.session.volume first.told
          l.fn.arriving.linked l.fn.arriving.sources) (take l.source-index (map (λ source. source.now) l.fn.putting.sources.now))
          (line_of (g.S.Store.types_of now.session.store) (g.S.Store.state_of now.session.store) now.folder now.session.volume now.told
          l.arriving.linked l.arriving.sources);
    }
