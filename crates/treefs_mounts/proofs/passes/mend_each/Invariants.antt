use Rattle.std.proofs.Common.{◌≡◌, ◌+◌, ◌-◌, Result}
use Rattle.xn_model.specs.Lives.{StoreState}
use Rattle.treefs_format.specs.Paths.{leaf_count}
use Rattle.treefs_model.specs.declared.fault.Fault.{Fault}
use Rattle.treefs_mounts.specs.Passes.{MendsFrom}
use Rattle.treefs_mounts.proofs.passes.mend_each.Given as goal

-- what the inodes that are left do, all do
abbrev pub invariant-loop-numbered : goal.invariant-loop-numbered
invariant-loop-numbered g l =
    let T = g.S.Store.types_of l.fn.store in
    record {
      types : g.S.Store.types_of l.store ≡ T;
      goes : (new : StoreState) (result : Result (Unit {0}) Fault) →
          MendsFrom T l.volume l.tallies l.from (g.S.Store.state_of l.store) new result →
          MendsFrom T l.volume l.tallies 1 (g.S.Store.state_of l.fn.store) new result;
    }

abbrev pub decreases-loop-numbered : goal.decreases-loop-numbered
decreases-loop-numbered g l = leaf_count + 1 - l.from
