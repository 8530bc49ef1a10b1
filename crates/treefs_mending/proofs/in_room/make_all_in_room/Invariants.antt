use Rattle.std.proofs.Common.{◌≡◌, length, Result}
use Rattle.xn_model.specs.Lives.{StoreState}
use Rattle.treefs_model.specs.declared.fault.Fault.{Fault}
use Rattle.treefs_mending.specs.InRoom.{MakesAllInRoom}
use Rattle.treefs_mending.proofs.in_room.make_all_in_room.Given as goal

-- what the acts that are left do, all do
abbrev pub invariant-loop-act : goal.invariant-loop-act
invariant-loop-act g l = record {
  types : g.S.Store.types_of l.store ≡ g.S.Store.types_of l.fn.store;
  goes : (new : StoreState) (result : Result (Unit {0}) Fault) →
      MakesAllInRoom (g.S.Store.types_of l.fn.store) l.tree.fs.number (length l.memory.touched) l.rest.items (g.S.Store.state_of l.store) new result →
      MakesAllInRoom (g.S.Store.types_of l.fn.store) l.tree.fs.number (length l.memory.touched) l.fn.acts.items (g.S.Store.state_of l.fn.store) new result;
}

abbrev pub decreases-loop-act : goal.decreases-loop-act
decreases-loop-act g l = length l.rest.items
