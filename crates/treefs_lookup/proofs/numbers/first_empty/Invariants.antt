use Rattle.treefs_lookup.specs.Numbers.{ArePointed}
use Rattle.treefs_lookup.specs.Readable.{readable}
use Rattle.treefs_lookup.proofs.numbers.first_empty.Given as goal

abbrev pub invariant-loop-leaf : goal.invariant-loop-leaf
invariant-loop-leaf g l = ArePointed (readable (g.S.Store.state_of l.store) l.fs.number) l.holder l.from l.leaf
