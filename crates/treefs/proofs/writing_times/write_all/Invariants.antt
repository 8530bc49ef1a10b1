use Rattle.std.proofs.Common.{◌≡◌, List, Result, vec_len}
use Rattle.xn_model.specs.Lives.{StoreState}
use Rattle.treefs_model.specs.declared.fault.Fault.{Fault}
use Rattle.treefs_edits.specs.declared.memory.Touched.{Touched}
use Rattle.treefs.specs.WritingTimes.{WritesTimes}
use Rattle.treefs.proofs.writing_times.write_all.Given as goal

-- what is done of those that are left is done of all
abbrev pub invariant-loop-alloc : goal.invariant-loop-alloc
invariant-loop-alloc g l =
    let T = g.S.Store.types_of l.fn.store in
    record {
      types : g.S.Store.types_of l.store ≡ T;
      goes : (new : StoreState) (left : List Touched) (result : Result (Unit {0}) Fault) →
          WritesTimes T l.tree l.touched.items left (g.S.Store.state_of l.store) new result →
          WritesTimes T l.tree l.fn.touched.items left (g.S.Store.state_of l.fn.store) new result;
    }

abbrev pub decreases-loop-alloc : goal.decreases-loop-alloc
decreases-loop-alloc g l = vec_len l.touched
