use Rattle.ffs_model.specs.Cuts.{latest}
use Rattle.ffs_model.specs.Library.{IsLibrary}
use Rattle.ffs_lookup.proofs.Repairing.{AreFound}
use Rattle.ffs_lookup.proofs.repairs.look_up_repairs.Given as goal

abbrev pub invariant-loop-at : goal.invariant-loop-at
invariant-loop-at g l = IsLibrary (g.S.Store.types_of l.store) → AreFound (latest (g.S.Store.state_of l.store).lives) l.fs.number l.each l.at
