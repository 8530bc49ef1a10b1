-- A new inode with its first name, in one call.
--     new_plan         what it takes: the bytes of the inode's block, and what its name takes
--     IsNewPlanned     what the name of a new inode takes, or the fault
use Rattle.std.specs.Prelude.{◌≡◌, ℕ, List, [], ◌∷◌, drop, length, slice_index, Result, Ok, Err, MatchResult, if◌then◌else◌}
use Rattle.xn_model.specs.Lives.{StoreState}
use Rattle.treefs_model.specs.declared.fault.Fault.{Fault}
use Rattle.treefs_model.specs.declared.fault.Fault.TheVariants.{Full}
use Rattle.treefs_model.specs.Files.{and_then}
use Rattle.treefs_lookup.specs.Readable.{readable}
use Rattle.treefs_edits.specs.declared.tree.Tree.{Tree}
use Rattle.treefs_edits.specs.Memories.{Memory}
use Rattle.treefs_edits.specs.Plans.{Plan}
use Rattle.treefs_edits.specs.Rooms.{has_room}
use Rattle.treefs_name_plans.specs.CommitPlans.{IsNumberFound, commit_acts, commit_in_room, commit_starts}
use Rattle.treefs_name_plans.specs.NewNames.{addition_in, free_name}
use Rattle.treefs_name_plans.specs.declared.commit_plan.CommitPlan.{CommitPlan}
use Rattle.treefs_name_plans.specs.declared.naming.Naming.TheVariants.{Added}

abbrev pub new_plan : List ℕ → List ℕ → CommitPlan → Plan
new_plan name inode p = record {
  starts = record { ty = p.inode_type; bytes = inode } ∷ commit_starts p;
  acts = λ begun. commit_acts p name (slice_index begun 0) (drop 1 begun);
}

-- the directory of a name that is free, where there is room for a first block
abbrev pub free_in_room : StoreState → Tree → Memory → ℕ → List ℕ → Result ℕ Fault
free_in_room state tree memory d name =
    and_then (free_name (readable state tree.fs.number) tree.top d name) (λ directory.
    if has_room state tree.fs.number (length memory.touched) 2 [] then Ok directory else Err Full)

-- the beginning of the inode is one edit more than its name takes
abbrev pub IsNewPlanned : StoreState → Tree → Memory → ℕ → List ℕ → Result CommitPlan Fault → Type 0
IsNewPlanned state tree memory d name result =
    MatchResult (free_in_room state tree memory d name)
    (λ directory. (number : Result ℕ Fault) × IsNumberFound state tree memory number
    × (result ≡ and_then number (λ n. and_then (addition_in state tree d directory name) (λ a. commit_in_room state tree memory 31 n directory (Added a)))))
    (λ fault. result ≡ Err fault)
