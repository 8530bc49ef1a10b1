use Rattle.std.proofs.Common.{◌≡◌, ◌-◌, Result}
use Rattle.xn_model.specs.Lives.{StoreState}
use Rattle.treefs_model.specs.declared.fault.Fault.{Fault}
use Rattle.treefs.specs.declared.volume.Volume.{Volume}
use Rattle.treefs_session.specs.Tries.{Tries, most_tries}
use Rattle.treefs_session.proofs.tries.repeat.Given as goal

-- what the tries that are left do, all do
abbrev pub invariant-loop-try : goal.invariant-loop-try
invariant-loop-try g l =
    let T = g.S.Store.types_of l.fn.store in
    let Does = g.C.Call.does l.call T in
    record {
      types : g.S.Store.types_of l.store ≡ T;
      goes : (new : StoreState) (volume : Volume) (result : Result _ Fault) →
          Tries Does T (most_tries - l._try) (g.S.Store.state_of l.store) new l.volume volume result →
          Tries Does T most_tries (g.S.Store.state_of l.fn.store) new l.fn.volume volume result;
    }
