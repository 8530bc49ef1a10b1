use Rattle.std.proofs.Common.{◌≡◌, ◌-◌, Result}
use Rattle.xn_model.specs.Lives.{StoreState}
use Rattle.treefs_model.specs.declared.fault.Fault.{Fault}
use Rattle.treefs.specs.Trimming.{Drops, most_drops}
use Rattle.treefs.proofs.trimming.drop_pointers.Given as goal

-- what the drops that are left do, all do
abbrev pub invariant-loop-drop : goal.invariant-loop-drop
invariant-loop-drop g l =
    let T = g.S.Store.types_of l.fn.store in
    record {
      types : g.S.Store.types_of l.store ≡ T;
      goes : (new : StoreState) (result : Result (Unit {0}) Fault) →
          Drops T l.tree.fs.number l.memory l.kept (most_drops - l._drop) (g.S.Store.state_of l.store) new result →
          Drops T l.tree.fs.number l.memory l.kept most_drops (g.S.Store.state_of l.fn.store) new result;
    }
