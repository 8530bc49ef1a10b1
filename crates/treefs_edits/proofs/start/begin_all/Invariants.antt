use Rattle.std.proofs.Common.{◌≡◌, ◌≤◌, ℕ, List, Result, [], drop, length}
use Rattle.std.specs.Prelude.{vec_capacity, vec_len}
use Rattle.xn_model.specs.Lives.{StoreState}
use Rattle.treefs_model.specs.declared.fault.Fault.{Fault}
use Rattle.treefs_edits.specs.Plans.{Begins}
use Rattle.treefs_edits.proofs.start.begin_all.Given as goal

-- what begins with the blocks that are left begins all
abbrev pub invariant-loop-start : goal.invariant-loop-start
invariant-loop-start g l =
    let T = g.S.Store.types_of l.fn.store in
    record {
      types : g.S.Store.types_of l.store ≡ T;
      goes : (new : StoreState) (result : Result (List ℕ) Fault) →
          Begins T l.fs.number (drop l.start-index l.starts) l.begun.items (g.S.Store.state_of l.store) new result →
          Begins T l.fs.number l.starts [] (g.S.Store.state_of l.fn.store) new result;
      count : vec_len l.begun ≡ l.start-index;
      room : length l.starts ≤ vec_capacity l.begun;
    }
