use Rattle.std.proofs.Common.{◌≡◌, ◌-◌, Result}
use Rattle.xn_model.specs.Lives.{StoreState}
use Rattle.treefs_model.specs.declared.fault.Fault.{Fault}
use Rattle.treefs.specs.declared.volume.Volume.{Volume}
use Rattle.treefs_mounts.specs.Opening.{Repeats, most_rounds}
use Rattle.treefs_mounts.proofs.opening.repeat.Given as goal

-- what the rounds that are left do, all do
abbrev pub invariant-loop-round : goal.invariant-loop-round
invariant-loop-round g l =
    let T = g.S.Store.types_of l.fn.store in
    record {
      types : g.S.Store.types_of l.store ≡ T;
      goes : (new : StoreState) (volume : Volume) (result : Result (Unit {0}) Fault) →
          Repeats l.pass T (most_rounds - l._round) (g.S.Store.state_of l.store) new l.volume volume result →
          Repeats l.pass T most_rounds (g.S.Store.state_of l.fn.store) new l.fn.volume volume result;
    }
