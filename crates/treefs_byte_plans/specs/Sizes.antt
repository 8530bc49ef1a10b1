-- The size of a file or a symbolic link is set.
--     SizePlan, size_plan       one edit of the inode's block: the size where it changes, the times, and zeros behind the size in the inode
--     blank_from                the byte of the block from which on zeros are written, where bytes are there behind a size that falls
--     truncate_planned          what a call that sets a size answers, or takes
--     IsTrimToTruncate          what is trimmed before that: all past the old size
use Rattle.std.specs.Prelude.{ℕ, ◌+◌, ◌-◌, ◌==◌, nat_lt, Bool, true, not, ◌&&◌, List}
use Rattle.std.specs.Prelude.{[], ◌∷◌, length, replicate, Option, None, Some, Result, Ok, Err, if◌then◌else◌}
use Rattle.xn_model.specs.Calls.{Patch}
use Rattle.xn_model.specs.Lists.{blank}
use Rattle.xn_model.specs.Lives.{StoreState}
use Rattle.treefs_format.specs.Fields.{changes_patch}
use Rattle.treefs_format.specs.Leaves.{greatest_size}
use Rattle.treefs_model.specs.Acts.{Act, patch_act}
use Rattle.treefs_model.specs.Files.{and_then}
use Rattle.treefs_model.specs.declared.fault.Fault.{Fault}
use Rattle.treefs_model.specs.declared.fault.Fault.TheVariants.{Full, TooLarge}
use Rattle.treefs_lookup.specs.Inodes.{file_found}
use Rattle.treefs_lookup.specs.Readable.{readable}
use Rattle.treefs_lookup.specs.Trimmed.{bytes_past}
use Rattle.treefs_lookup.specs.declared.inodes.Found.{Found}
use Rattle.treefs_edits.specs.Memories.{Memory}
use Rattle.treefs_edits.specs.Plans.{Plan}
use Rattle.treefs_edits.specs.Rooms.{has_room}
use Rattle.treefs_edits.specs.declared.tree.Tree.{Tree}
use Rattle.treefs_byte_plans.specs.Fields.{bytes_patch, size_changes, times_now}
use Rattle.treefs_byte_plans.specs.Kept.{IsTrimSought, kept_up_to}
use Rattle.treefs_byte_plans.specs.declared.kept.Kept.{Kept}
use Rattle.treefs_byte_plans.specs.declared.size.SizePlan.{SizePlan}

abbrev pub zero_parts : Option ℕ → List Patch
zero_parts None = []
zero_parts (Some offset) = bytes_patch offset (replicate (512 - offset) 0) ∷ []

abbrev pub size_act : SizePlan → Act
size_act p = patch_act p.block (changes_patch (size_changes p.size p.times) ∷ zero_parts p.blank_from) None

abbrev pub size_plan : SizePlan → Plan
size_plan p = record { starts = []; acts = λ begun. size_act p ∷ [] }

abbrev pub falls : Found → ℕ → Bool
falls file size = nat_lt size file.fields.size

abbrev pub has_bytes_behind : (ℕ → List ℕ) → ℕ → ℕ → Bool
has_bytes_behind content inode size = nat_lt size 384 && not (blank (bytes_past content inode size))

abbrev pub blank_from : (ℕ → List ℕ) → Found → ℕ → Option ℕ
blank_from content file size = if falls file size && has_bytes_behind content file.block size then Some (128 + size) else None

abbrev pub changed_size : ℕ → ℕ → Option ℕ
changed_size old new = if new == old then None else Some new

-- what stands past a size that falls is trimmed then
abbrev pub trimmed_then : Found → ℕ → Option Kept
trimmed_then file size = if falls file size then Some (kept_up_to file.block size) else None

abbrev pub planned_size : (ℕ → List ℕ) → Memory → Found → ℕ → SizePlan
planned_size content memory file size = record {
  block = file.block;
  size = changed_size file.fields.size size;
  times = times_now memory;
  blank_from = blank_from content file size;
  trimmed_then = trimmed_then file size;
}

-- where the size falls, there is also room for what is trimmed then
abbrev pub most_edits : Found → ℕ → ℕ
most_edits file size = if falls file size then 12 else 1

abbrev pub size_in_room : StoreState → ℕ → Memory → ℕ → Found → Result SizePlan Fault
size_in_room state fs memory size file =
    if has_room state fs (length memory.touched) (most_edits file size) ((file.block, most_edits file size) ∷ [])
    then Ok (planned_size (readable state fs) memory file size) else Err Full

abbrev pub truncated_file : (ℕ → List ℕ) → ℕ → ℕ → ℕ → Result Found Fault
truncated_file content top number size = and_then (file_found content top number) (λ file. if nat_lt greatest_size size then Err TooLarge else Ok file)

abbrev pub truncate_planned : StoreState → Tree → Memory → ℕ → ℕ → Result SizePlan Fault
truncate_planned state tree memory number size =
    and_then (truncated_file (readable state tree.fs.number) tree.top number size) (size_in_room state tree.fs.number memory size)

-- what is trimmed before that
abbrev pub IsTrimToTruncate : (ℕ → List ℕ) → ℕ → ℕ → ℕ → Option Kept → Type 0
IsTrimToTruncate content top number size = IsTrimSought content (truncated_file content top number size) (λ file. true)
