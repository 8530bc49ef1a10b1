-- What `write_begun` does: the next piece of some bytes is written from a byte on of an inode that was begun, and to which nothing points yet.
--     begun_planned         what that piece answers, or takes
--     IsTrimToWriteBegun    what is trimmed before
--     StepWrites            a piece is written
--     WriteBegunDoes        what write_begun does
use Rattle.std.specs.Prelude.{◌≡◌, ◌⊎◌, ℕ, ◌==◌, not, List, [], length, Option, Result, Ok, Err, MatchResult}
use Rattle.xn_model.specs.Lives.{StoreState}
use Rattle.xn_model.specs.Types.{Types}
use Rattle.treefs_model.specs.Files.{and_then}
use Rattle.treefs_model.specs.declared.fault.Fault.{Fault}
use Rattle.treefs_lookup.specs.Readable.{readable}
use Rattle.treefs_edits.specs.Memories.{Memory}
use Rattle.treefs_edits.specs.Plans.{Does, Plan}
use Rattle.treefs_edits.specs.declared.tree.Tree.{Tree}
use Rattle.treefs_byte_plans.specs.Kept.{IsTrimSought}
use Rattle.treefs_byte_plans.specs.Runs.{run_plan}
use Rattle.treefs_byte_plans.specs.Writes.{Nothing, Piece, Run, Step, step_planned}
use Rattle.treefs_byte_plans.specs.declared.kept.Kept.{Kept}
use Rattle.treefs.specs.Trimming.{TrimsFirst}
use Rattle.treefs.specs.declared.volume.Volume.{Volume}
use Rattle.treefs_puts.specs.Begun.{written_begun}

abbrev pub begun_planned : StoreState → Tree → Memory → ℕ → ℕ → List ℕ → Result Step Fault
begun_planned state tree memory inode at bytes =
    and_then (written_begun (readable state tree.fs.number) inode at) (step_planned state tree memory at bytes)

-- all past the size, where there are bytes to write
abbrev pub IsTrimToWriteBegun : (ℕ → List ℕ) → ℕ → ℕ → ℕ → Option Kept → Type 0
IsTrimToWriteBegun content inode at count = IsTrimSought content (written_begun content inode at) (λ file. not (count == 0))

-- a plan is carried out, and answers how many bytes it takes
abbrev pub Writes : Types → ℕ → Plan → ℕ → StoreState → StoreState → Result ℕ Fault → Type 0
Writes T fs plan taken old new result =
    MatchResult result (λ count. (count ≡ taken) × Does T fs plan old new (Ok tt)) (λ fault. Does T fs plan old new (Err fault))

-- each piece writes the size and the times of the inode
abbrev pub StepWrites : Types → ℕ → List ℕ → Result Step Fault → StoreState → StoreState → Result ℕ Fault → Type 0
StepWrites T fs bytes (Err fault) old new result = (result ≡ Err fault) × (new ≡ old)
StepWrites T fs bytes (Ok Nothing) old new result = (result ≡ Ok 0) × (new ≡ old)
StepWrites T fs bytes (Ok (Piece taken is_dated acts)) old new result = Writes T fs (record { starts = []; acts = λ begun. acts }) taken old new result
StepWrites T fs bytes (Ok (Run plan)) old new result = Writes T fs (run_plan bytes plan) plan.taken old new result

abbrev pub WriteBegunDoes : Types → StoreState → StoreState → Volume → ℕ → ℕ → List ℕ → Result ℕ Fault → Type 0
WriteBegunDoes T old new volume inode at bytes result =
    (kept : Option Kept) × IsTrimToWriteBegun (readable old volume.tree.fs.number) inode at (length bytes) kept
    × (MatchResult result (λ taken. ⊥) (λ fault. TrimsFirst T volume.tree.fs.number volume.memory kept old new (Err fault))
    ⊎ ((middle : StoreState) × TrimsFirst T volume.tree.fs.number volume.memory kept old middle (Ok tt)
    × StepWrites T volume.tree.fs.number bytes (begun_planned middle volume.tree volume.memory inode at bytes) middle new result))
