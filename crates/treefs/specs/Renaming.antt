-- What rename does.
--     renamed_touched, moved_entry     what a session remembers once a name moved
--     RenameDoes            what rename does
use Rattle.std.specs.Prelude.{◌≡◌, ℕ, List, Option, None, Some, Result, Ok, Err, if◌then◌else◌}
use Rattle.xn_model.specs.Types.{Types}
use Rattle.xn_model.specs.Lives.{StoreState}
use Rattle.xn_model.specs.PendingIn.{newest_entry_of}
use Rattle.treefs_model.specs.declared.fault.Fault.{Fault}
use Rattle.treefs_edits.specs.Memories.{Memory, with_touched, without_touched}
use Rattle.treefs_edits.specs.Plans.{Does, DoesPlanned}
use Rattle.treefs_edits.specs.declared.memory.Touched.{Touched}
use Rattle.treefs_edits.specs.declared.times.Times.{Times}
use Rattle.treefs_name_plans.specs.RenamePlans.{IsRenamePlanned, rename_plan}
use Rattle.treefs_name_plans.specs.declared.rename_plan.Moving.{Moving}
use Rattle.treefs_name_plans.specs.declared.rename_plan.Moving.TheVariants.{Apart, Together}
use Rattle.treefs_name_plans.specs.declared.rename_plan.RenamePlan.{RenamePlan}
use Rattle.treefs.specs.Linking.{entry_or}
use Rattle.treefs.specs.Remembered.{named_orphans, named_touched, now_times}
use Rattle.treefs.specs.declared.volume.Volume.{Volume}

-- The memory

-- one edit writes no times, and several do
abbrev pub moving_touched : List Touched → ℕ → Moving → List Touched
moving_touched touched number (Together times) = with_touched touched number times
moving_touched touched number (Apart links) = without_touched touched number

-- from d to d', both of which are touched
abbrev pub renamed_touched : List Touched → Times → ℕ → ℕ → RenamePlan → List Touched
renamed_touched touched now d d' plan =
    with_touched (with_touched (named_touched (moving_touched touched plan.number plan.moving) plan.naming) d now) d' now

-- of a directory the edit that ended its old name, which is the newest one of that block
abbrev pub moved_entry : StoreState → RenamePlan → ℕ → ℕ
moved_entry state plan word = if plan.is_directory then entry_or (newest_entry_of state plan.block) word else word

-- state: the store's, once it is done
abbrev pub renamed_memory : StoreState → Memory → ℕ → ℕ → RenamePlan → Memory
renamed_memory state memory d d' plan = record memory {
  touched = renamed_touched memory.touched (now_times memory) d d' plan;
  last_dir = moved_entry state plan memory.last_dir;
  orphans = named_orphans memory.orphans plan.naming;
}

abbrev pub renamed_volume : StoreState → Volume → ℕ → ℕ → Result (Option RenamePlan) Fault → Result (Unit {0}) Fault → Volume
renamed_volume state volume d d' (Ok (Some plan)) (Ok done) = record volume { memory = renamed_memory state volume.memory d d' plan }
renamed_volume state volume d d' (Ok (Some plan)) (Err fault) = volume
renamed_volume state volume d d' (Ok None) result = volume
renamed_volume state volume d d' (Err fault) result = volume

-- The call

-- nothing is done where the new name leads to the inode already
abbrev pub DoesRename : Types → ℕ → List ℕ → Result (Option RenamePlan) Fault → StoreState → StoreState → Result (Unit {0}) Fault → Type 0
DoesRename T fs name (Ok None) old new result = (result ≡ Ok tt) × (new ≡ old)
DoesRename T fs name (Ok (Some plan)) old new result = Does T fs (rename_plan name plan) old new result
DoesRename T fs name (Err fault) old new result = DoesPlanned T fs (Err fault) old new result

abbrev pub RenameDoes : Types → StoreState → StoreState → Volume → Volume → ℕ → List ℕ → ℕ → List ℕ → Result (Unit {0}) Fault → Type 0
RenameDoes T state state' volume volume' d name d' name' result =
    (planned : Result (Option RenamePlan) Fault) × IsRenamePlanned state volume.tree volume.memory d name d' name' planned
    × DoesRename T volume.tree.fs.number name' planned state state' result
    × (volume' ≡ renamed_volume state' volume d d' planned result)
