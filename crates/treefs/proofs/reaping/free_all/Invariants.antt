use Rattle.std.proofs.Common.{◌≡◌, Result, drop}
use Rattle.xn_model.specs.Lives.{StoreState}
use Rattle.treefs_model.specs.declared.fault.Fault.{Fault}
use Rattle.treefs_edits.specs.Memories.{Memory}
use Rattle.treefs.specs.Reaping.{Reaps}
use Rattle.treefs.proofs.reaping.free_all.Given as goal

-- what is done of the numbers that are left is done of all
abbrev pub invariant-loop-number : goal.invariant-loop-number
invariant-loop-number g l =
    let T = g.S.Store.types_of l.fn.store in
    record {
      types : g.S.Store.types_of l.store ≡ T;
      goes : (new : StoreState) (memory : Memory) (result : Result (Unit {0}) Fault) →
          Reaps T l.tree l.numbers (drop l.number-index l.numbers) (g.S.Store.state_of l.store) new l.memory memory result →
          Reaps T l.tree l.numbers l.numbers (g.S.Store.state_of l.fn.store) new l.fn.memory memory result;
    }
