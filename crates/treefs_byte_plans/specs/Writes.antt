-- A piece of a write: bytes that stand together, in the inode or in a leaf, or a run of leaves that are missing.
--     ContentPlan, content_acts, LeafPlan, leaf_acts    what a piece in the inode takes, and one in a leaf that is there
--     Step               what comes next: nothing, acts that take so many bytes, or a run
--     write_planned      what the next piece of a write answers, or takes
--     IsTrimToWrite      what is trimmed before that: all past the size, where that rises
use Rattle.std.specs.Prelude.{ℕ, ◌+◌, ◌/◌, ◌%◌, ◌==◌, nat_le, nat_lt, Bool, true, not, ◌&&◌, List, []}
use Rattle.std.specs.Prelude.{◌∷◌, is_some, length, take, Option, None, Result, Ok, Err, ⊤, if◌then◌else◌}
use Rattle.xn_model.specs.Lives.{StoreState}
use Rattle.treefs_format.specs.Fields.{changes_patch}
use Rattle.treefs_format.specs.Inodes.{content_patch}
use Rattle.treefs_format.specs.Leaves.{greatest_size}
use Rattle.treefs_model.specs.Acts.{Act, bytes_act, patch_act}
use Rattle.treefs_model.specs.Files.{and_then}
use Rattle.treefs_model.specs.Reading.{leaf_block}
use Rattle.treefs_model.specs.declared.fault.Fault.{Fault}
use Rattle.treefs_model.specs.declared.fault.Fault.TheVariants.{Full, TooLarge}
use Rattle.treefs_lookup.specs.Bytes.{part_left}
use Rattle.treefs_lookup.specs.Inodes.{file_found}
use Rattle.treefs_lookup.specs.Readable.{readable}
use Rattle.treefs_lookup.specs.declared.inodes.Found.{Found}
use Rattle.treefs_edits.specs.Memories.{Memory}
use Rattle.treefs_edits.specs.Rooms.{has_room}
use Rattle.treefs_edits.specs.declared.tree.Tree.{Tree}
use Rattle.treefs_byte_plans.specs.Fields.{bytes_patch, risen, size_acts, size_changes, times_now}
use Rattle.treefs_byte_plans.specs.Kept.{IsTrimSought}
use Rattle.treefs_byte_plans.specs.Runs.{IsRun, run_planned}
use Rattle.treefs_byte_plans.specs.declared.kept.Kept.{Kept}
use Rattle.treefs_byte_plans.specs.declared.piece.ContentPlan.{ContentPlan}
use Rattle.treefs_byte_plans.specs.declared.piece.LeafPlan.{LeafPlan}
use Rattle.treefs_byte_plans.specs.declared.piece.WriteStep.{WriteStep}
use Rattle.treefs_byte_plans.specs.declared.piece.WriteStep.TheVariants as rust
use Rattle.treefs_byte_plans.specs.declared.run_plan.RunPlan.{RunPlan}

-- Acts

-- bytes, then fields, by one edit
abbrev pub content_acts : ContentPlan → List Act
content_acts p = patch_act p.block (bytes_patch p.offset p.bytes.now ∷ changes_patch (size_changes p.size p.times) ∷ []) None ∷ []

abbrev pub leaf_acts : LeafPlan → List Act
leaf_acts p = bytes_act p.leaf p.offset p.bytes.now None ∷ size_acts p.inode p.leaf p.size p.times

-- Steps

pub data Step : Type 0 where
  Nothing : Step
  -- in the inode, or in a leaf that is there; whether its acts write the times of the inode
  Piece : (taken : ℕ) (is_dated : Bool) (acts : List Act) → Step
  Run : (plan : RunPlan) → Step

abbrev pub step_of : WriteStep → Step
step_of rust.Nothing = Nothing
step_of (rust.Content p) = Piece (length p.bytes.now) true (content_acts p)
step_of (rust.Leaf p) = Piece (length p.bytes.now) (is_some p.size) (leaf_acts p)
step_of (rust.Run p) = Run p

abbrev pub IsWithin : WriteStep → Type 0
IsWithin rust.Nothing = ⊤
IsWithin (rust.Content p) = ⊤
IsWithin (rust.Leaf p) = ⊤
IsWithin (rust.Run p) = IsRun p

abbrev pub planned_step : Result WriteStep Fault → Result Step Fault
planned_step (Ok step) = Ok (step_of step)
planned_step (Err fault) = Err fault

abbrev pub content_step : Memory → Found → ℕ → List ℕ → Step
content_step memory file at bytes = Piece (length bytes) true
    (patch_act file.block
    (content_patch at bytes ∷ changes_patch (size_changes (risen file.fields.size (at + length bytes)) (times_now memory)) ∷ []) None ∷ [])

abbrev pub leaf_step : Memory → Found → ℕ → ℕ → List ℕ → Step
leaf_step memory file leaf at bytes =
    let size = risen file.fields.size (at + length bytes) in
    Piece (length bytes) (is_some size) (bytes_act leaf (at % 512) bytes None ∷ size_acts file.block leaf size (times_now memory))

abbrev pub content_in_room : StoreState → ℕ → Memory → Found → ℕ → List ℕ → Result Step Fault
content_in_room state fs memory file at bytes =
    if has_room state fs (length memory.touched) 1 ((file.block, 1) ∷ []) then Ok (content_step memory file at bytes) else Err Full

abbrev pub leaf_in_room : StoreState → ℕ → Memory → Found → ℕ → ℕ → List ℕ → Result Step Fault
leaf_in_room state fs memory file leaf at bytes =
    if has_room state fs (length memory.touched) 2 ((leaf, 1) ∷ (file.block, 1) ∷ []) then Ok (leaf_step memory file leaf at bytes) else Err Full

abbrev pub run_step : Result RunPlan Fault → Result Step Fault
run_step (Ok p) = Ok (Run p)
run_step (Err fault) = Err fault

-- of all bytes those that stand together with the first
abbrev pub first_piece : ℕ → List ℕ → List ℕ
first_piece at bytes = take (part_left at) bytes

-- in a leaf, or in a run of leaves where the first one is missing
abbrev pub leaves_step : StoreState → Tree → Memory → Found → ℕ → ℕ → List ℕ → Result Step Fault
leaves_step state tree memory file leaf at bytes =
    if leaf == 0 then run_step (run_planned state tree memory file at (length bytes))
    else leaf_in_room state tree.fs.number memory file leaf at (first_piece at bytes)

abbrev pub piece_step : StoreState → Tree → Memory → Found → ℕ → List ℕ → Result Step Fault
piece_step state tree memory file at bytes =
    if nat_lt at 384 then content_in_room state tree.fs.number memory file at (first_piece at bytes)
    else leaves_step state tree memory file (leaf_block (readable state tree.fs.number) file.block (at / 512)) at bytes

abbrev pub written_file : (ℕ → List ℕ) → ℕ → ℕ → ℕ → Result Found Fault
written_file content top number at = and_then (file_found content top number) (λ file. if nat_le greatest_size at then Err TooLarge else Ok file)

-- no bytes take nothing
abbrev pub step_planned : StoreState → Tree → Memory → ℕ → List ℕ → Found → Result Step Fault
step_planned state tree memory at bytes file = if length bytes == 0 then Ok Nothing else piece_step state tree memory file at bytes

abbrev pub write_planned : StoreState → Tree → Memory → ℕ → ℕ → List ℕ → Result Step Fault
write_planned state tree memory number at bytes =
    and_then (written_file (readable state tree.fs.number) tree.top number at) (step_planned state tree memory at bytes)

-- Before that

-- with all bytes the size rises
abbrev pub raises : ℕ → ℕ → Found → Bool
raises at count file = not (count == 0) && nat_lt file.fields.size (at + count)

-- what is trimmed first
abbrev pub IsTrimToWrite : (ℕ → List ℕ) → ℕ → ℕ → ℕ → ℕ → Option Kept → Type 0
IsTrimToWrite content top number at count = IsTrimSought content (written_file content top number at) (raises at count)
