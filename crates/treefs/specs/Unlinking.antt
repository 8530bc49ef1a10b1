-- What unlink and rmdir do.
use Rattle.std.specs.Prelude.{◌≡◌, ℕ, List, Result, Ok, Err}
use Rattle.xn_model.specs.Types.{Types}
use Rattle.xn_model.specs.Lives.{StoreState}
use Rattle.treefs_model.specs.declared.fault.Fault.{Fault}
use Rattle.treefs_model.specs.Files.{and_then}
use Rattle.treefs_edits.specs.Plans.{DoesPlanned, Plan}
use Rattle.treefs_name_plans.specs.Ends.{IsUnlinkPlanned, end_plan}
use Rattle.treefs_name_plans.specs.Removals.{IsRmdirPlanned, removal_plan}
use Rattle.treefs_name_plans.specs.declared.end.EndPlan.{EndPlan}
use Rattle.treefs_name_plans.specs.declared.name_end.NameEnd.{NameEnd}
use Rattle.treefs_name_plans.specs.declared.removal.RemovalPlan.{RemovalPlan}
use Rattle.treefs.specs.Remembered.{ended_memory}
use Rattle.treefs.specs.declared.volume.Volume.{Volume}

abbrev pub as_plan : {A : Type 0} → (A → Plan) → Result A Fault → Result Plan Fault
as_plan plan (Ok planned) = Ok (plan planned)
as_plan plan (Err fault) = Err fault

-- the volume once a name of a directory ended; where it did not, all is as it was
abbrev pub ended_volume : Volume → ℕ → Result NameEnd Fault → Result (Unit {0}) Fault → Volume
ended_volume volume directory (Ok end) (Ok done) = record volume { memory = ended_memory volume.memory directory end }
ended_volume volume directory (Ok end) (Err fault) = volume
ended_volume volume directory (Err fault) result = volume

abbrev pub UnlinkDoes : Types → StoreState → StoreState → Volume → Volume → ℕ → List ℕ → Result (Unit {0}) Fault → Type 0
UnlinkDoes T state state' volume volume' directory name result =
    (planned : Result EndPlan Fault) × IsUnlinkPlanned state volume.tree volume.memory directory name planned
    × DoesPlanned T volume.tree.fs.number (as_plan end_plan planned) state state' result
    × (volume' ≡ ended_volume volume directory (and_then planned (λ plan. Ok plan.end)) result)

abbrev pub RmdirDoes : Types → StoreState → StoreState → Volume → Volume → ℕ → List ℕ → Result (Unit {0}) Fault → Type 0
RmdirDoes T state state' volume volume' directory name result =
    (planned : Result RemovalPlan Fault) × IsRmdirPlanned state volume.tree volume.memory directory name planned
    × DoesPlanned T volume.tree.fs.number (as_plan removal_plan planned) state state' result
    × (volume' ≡ ended_volume volume directory (and_then planned (λ plan. Ok plan.end)) result)
