-- What commit does, and what begin does to the store.
--     committed_memory      what a session remembers once a new inode has its first name
--     IsBegunPlanned        what commit takes, where the inode's block may be read
--     CommitDoes            an inode that was begun gets its first name, or the place of another one
--     BeginsInRoom          a block is begun, where there is room
use Rattle.std.specs.Prelude.{◌≡◌, ⊤, ℕ, ◌+◌, ◌-◌, ◌^◌, Bool, List, [], min, Result, Ok, Err, IfOk, MatchBool, MatchResult}
use Rattle.xn_model.specs.Types.{Types}
use Rattle.xn_model.specs.Lives.{StoreState}
use Rattle.xn_model.specs.Calls.{read_of}
use Rattle.store_types.specs.declared.refusal.Refusal.{Refusal}
use Rattle.treefs_model.specs.declared.fault.Fault.{Fault}
use Rattle.treefs_model.specs.declared.fault.Fault.TheVariants.{Full, Kernel}
use Rattle.treefs_model.specs.Files.{and_then}
use Rattle.treefs_edits.specs.Memories.{Memory, with_touched}
use Rattle.treefs_edits.specs.Plans.{Begun, DoesPlanned, start_fault}
use Rattle.treefs_edits.specs.Rooms.{has_room}
use Rattle.treefs_edits.specs.declared.start.Start.{Start}
use Rattle.treefs_edits.specs.declared.tree.Tree.{Tree}
use Rattle.treefs_name_plans.specs.CommitPlans.{IsCommitPlanned, commit_plan}
use Rattle.treefs_name_plans.specs.declared.commit_plan.CommitPlan.{CommitPlan}
use Rattle.treefs.specs.Remembered.{named_orphans, named_touched, now_times}
use Rattle.treefs.specs.Unlinking.{as_plan}
use Rattle.treefs.specs.declared.volume.Volume.{Volume}

-- The memory

-- the directory is touched, and the next number is looked for behind this one
abbrev pub committed_memory : Memory → ℕ → CommitPlan → Memory
committed_memory memory directory plan = record memory {
  touched = with_touched (named_touched memory.touched plan.naming) directory (now_times memory);
  hint = min (plan.number + 1) (2 ^ 32 - 1);
  orphans = named_orphans memory.orphans plan.naming;
}

-- The calls

-- whether it was done
abbrev pub done_of : {A : Type 0} → Result A Fault → Result (Unit {0}) Fault
done_of (Ok x) = Ok tt
done_of (Err fault) = Err fault

-- where it was not named, all is as it was
abbrev pub committed_volume : Volume → ℕ → Result CommitPlan Fault → Result (Unit {0}) Fault → Volume
committed_volume volume directory (Ok plan) (Ok done) = record volume { memory = committed_memory volume.memory directory plan }
committed_volume volume directory (Ok plan) (Err fault) = volume
committed_volume volume directory (Err fault) result = volume

-- where the inode's block may be read
abbrev pub if_readable : Result (List ℕ) Refusal → CommitPlan → Result CommitPlan Fault
if_readable (Ok bytes) plan = Ok plan
if_readable (Err reason) plan = Err (Kernel reason)

abbrev pub IsBegunPlanned : StoreState → Tree → Memory → ℕ → ℕ → List ℕ → Bool → Result CommitPlan Fault → Type 0
IsBegunPlanned state tree memory inode directory name replace result =
    (planned : Result CommitPlan Fault) × IsCommitPlanned state tree memory directory name replace planned
    × (result ≡ and_then planned (if_readable (read_of state tree.fs.number inode)))

abbrev pub CommitDoes : Types → StoreState → StoreState → Volume → Volume → ℕ → ℕ → List ℕ → Bool → Result ℕ Fault → Type 0
CommitDoes T state state' volume volume' inode directory name replace result =
    (planned : Result CommitPlan Fault) × IsBegunPlanned state volume.tree volume.memory inode directory name replace planned
    × DoesPlanned T volume.tree.fs.number (as_plan (commit_plan name inode) planned) state state' (done_of result)
    × MatchResult result (λ number. IfOk planned (λ plan. number ≡ plan.number)) (λ fault. ⊤)
    × (volume' ≡ committed_volume volume directory planned (done_of result))

-- a block is begun
abbrev pub BeginsOne : Types → ℕ → Start → StoreState → StoreState → Result ℕ Fault → Type 0
BeginsOne T fs start old new result =
    MatchResult result (λ block. (entry : ℕ) × Begun T fs start old new (Ok (block, entry)))
    (λ fault. (reason : Refusal) × Begun T fs start old new (Err reason) × (fault ≡ start_fault reason))

-- where there is room for it, and so many inodes have times that no edit has written
abbrev pub BeginsInRoom : Types → ℕ → ℕ → Start → StoreState → StoreState → Result ℕ Fault → Type 0
BeginsInRoom T fs touched start old new result =
    MatchBool (has_room old fs touched 2 []) (BeginsOne T fs start old new result) ((result ≡ Err Full) × (new ≡ old))
