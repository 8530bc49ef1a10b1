use Rattle.std.proofs.Common.{◌≡◌, length, Result}
use Rattle.xn_model.specs.Lives.{StoreState}
use Rattle.store_types.specs.declared.refusal.Refusal.{Refusal}
use Rattle.treefs_model.specs.Acts.{Ran}
use Rattle.treefs_edits.proofs.runs.run.Given as goal

-- what the acts that are left do, all do
abbrev pub invariant-loop-act : goal.invariant-loop-act
invariant-loop-act g l = record {
  types : g.S.Store.types_of l.store ≡ g.S.Store.types_of l.fn.store;
  goes : (new : StoreState) (result : Result (Unit {0}) Refusal) →
      Ran (g.S.Store.types_of l.fn.store) l.fs.number l.rest.items (g.S.Store.state_of l.store) new result →
      Ran (g.S.Store.types_of l.fn.store) l.fs.number l.fn.acts.items (g.S.Store.state_of l.fn.store) new result;
}

abbrev pub decreases-loop-act : goal.decreases-loop-act
decreases-loop-act g l = length l.rest.items
