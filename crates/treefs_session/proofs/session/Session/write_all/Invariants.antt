use Rattle.std.proofs.Common.{◌≡◌, Result, length}
use Rattle.xn_model.specs.Lives.{StoreState}
use Rattle.treefs_model.specs.declared.fault.Fault.{Fault}
use Rattle.treefs.specs.declared.volume.Volume.{Volume}
use Rattle.treefs_session.specs.Pieces.{WritesAll}
use Rattle.treefs_session.proofs.session.Session.write_all.Given as goal

-- what is written of the bytes that are left, is of all
abbrev pub invariant-loop-left : goal.invariant-loop-left
invariant-loop-left g l =
    let T = g.S.Store.types_of l.fn.self.store in
    record {
      types : g.S.Store.types_of l.self.store ≡ T;
      goes : (new : StoreState) (volume : Volume) (result : Result (Unit {0}) Fault) →
          WritesAll T l.held l.target l.left (g.S.Store.state_of l.self.store) new l.self.volume volume result →
          WritesAll T l.held l.fn.target l.fn.bytes (g.S.Store.state_of l.fn.self.store) new l.fn.self.volume volume result;
    }

abbrev pub decreases-loop-left : goal.decreases-loop-left
decreases-loop-left g l = length l.left
