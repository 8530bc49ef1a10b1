-- What write_some does.
use Rattle.std.specs.Prelude.{◌≡◌, ◌⊎◌, ℕ, Bool, List, [], length, is_some, Option, Result, Ok, Err, MatchResult}
use Rattle.xn_model.specs.Types.{Types}
use Rattle.xn_model.specs.Lives.{StoreState}
use Rattle.treefs_model.specs.declared.fault.Fault.{Fault}
use Rattle.treefs_lookup.specs.Readable.{readable}
use Rattle.treefs_edits.specs.Plans.{Does, Plan}
use Rattle.treefs_byte_plans.specs.Runs.{run_plan}
use Rattle.treefs_byte_plans.specs.Writes.{IsTrimToWrite, Nothing, Piece, Run, Step, write_planned}
use Rattle.treefs_byte_plans.specs.declared.kept.Kept.{Kept}
use Rattle.treefs.specs.Changed.{changed_volume}
use Rattle.treefs.specs.Sizing.{Refuses}
use Rattle.treefs.specs.Trimming.{TrimsFirst}
use Rattle.treefs.specs.declared.volume.Volume.{Volume}

-- a plan is carried out, and answers how many bytes it takes; is_dated: it writes the times of the inode
abbrev pub Takes : Types → StoreState → StoreState → Volume → Volume → ℕ → Plan → ℕ → Bool → Result ℕ Fault → Type 0
Takes T old new volume volume' number plan taken is_dated result = MatchResult result
    (λ count. (count ≡ taken) × Does T volume.tree.fs.number plan old new (Ok tt) × (volume' ≡ changed_volume volume number is_dated))
    (λ fault. Does T volume.tree.fs.number plan old new (Err fault) × (volume' ≡ volume))

abbrev pub StepDoes : Types → StoreState → StoreState → Volume → Volume → ℕ → List ℕ → Result Step Fault → Result ℕ Fault → Type 0
StepDoes T old new volume volume' number bytes (Err fault) result = Refuses fault old new volume volume' result
StepDoes T old new volume volume' number bytes (Ok Nothing) result = (result ≡ Ok 0) × (new ≡ old) × (volume' ≡ volume)
StepDoes T old new volume volume' number bytes (Ok (Piece taken is_dated acts)) result =
    Takes T old new volume volume' number (record { starts = []; acts = λ begun. acts }) taken is_dated result
StepDoes T old new volume volume' number bytes (Ok (Run plan)) result =
    Takes T old new volume volume' number (run_plan bytes plan) plan.taken (is_some plan.size) result

abbrev pub WriteDoes : Types → StoreState → StoreState → Volume → Volume → ℕ → ℕ → List ℕ → Result ℕ Fault → Type 0
WriteDoes T old new volume volume' number at bytes result =
    (kept : Option Kept) × IsTrimToWrite (readable old volume.tree.fs.number) volume.tree.top number at (length bytes) kept
    × ((MatchResult result (λ taken. ⊥) (λ fault. TrimsFirst T volume.tree.fs.number volume.memory kept old new (Err fault)) × (volume' ≡ volume))
    ⊎ ((middle : StoreState) × TrimsFirst T volume.tree.fs.number volume.memory kept old middle (Ok tt)
    × StepDoes T middle new volume volume' number bytes (write_planned middle volume.tree volume.memory number at bytes) result))
