use Rattle.std.proofs.Common.{◌≤◌, ◌-◌}
use Rattle.std.specs.Bool.{MatchBool}
use Rattle.treefs_format.specs.Paths.{leaf_count}
use Rattle.treefs_lookup.specs.Numbers.{NoneCanGive, SomeIsCrowded}
use Rattle.treefs_lookup.proofs.numbers.next_free.Given as goal

abbrev pub invariant-loop-leaf : goal.invariant-loop-leaf
invariant-loop-leaf g l =
    let state = g.S.Store.state_of l.store in
    record {
      past : l.from ≤ l.leaf;
      none : NoneCanGive state l.fs.number l.top l.from l.leaf;
      crowds : MatchBool l.is_crowded (SomeIsCrowded state l.fs.number l.top l.from leaf_count) (SomeIsCrowded state l.fs.number l.top l.from l.leaf → ⊥);
    }

abbrev pub decreases-loop-leaf : goal.decreases-loop-leaf
decreases-loop-leaf g l = leaf_count - l.leaf
