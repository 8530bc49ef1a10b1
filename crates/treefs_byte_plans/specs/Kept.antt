-- What a trim keeps of an inode.
--     kept_of            all up to the size of a file
--     HasFewLeaves       no more leaves than there may be
--     IsTrimSought       a file that is found, and asked for, is to be trimmed where something stands past its size
use Rattle.std.specs.Prelude.{◌≡◌, ℕ, ◌≤◌, ⊤, Bool, List, Option, None, Some, Result, MatchBool, MatchOption, MatchResult}
use Rattle.treefs_format.specs.Leaves.{leaves_kept}
use Rattle.treefs_format.specs.Paths.{leaf_count}
use Rattle.treefs_lookup.specs.Bytes.{file_end}
use Rattle.treefs_lookup.specs.Trimmed.{IsTrimmed}
use Rattle.treefs_lookup.specs.declared.inodes.Found.{Found}
use Rattle.treefs_model.specs.declared.fault.Fault.{Fault}
use Rattle.treefs_byte_plans.specs.declared.kept.Kept.{Kept}

abbrev pub kept_up_to : ℕ → ℕ → Kept
kept_up_to inode size = record { inode = inode; keep = leaves_kept (file_end size); size = Some (file_end size) }

abbrev pub HasFewLeaves : Option Kept → Type 0
HasFewLeaves None = ⊤
HasFewLeaves (Some kept) = kept.keep ≤ leaf_count

abbrev pub kept_of : Found → Kept
kept_of file = kept_up_to file.block file.fields.size

abbrev pub IsUntrimmed : (ℕ → List ℕ) → Found → Option Kept → Type 0
IsUntrimmed content file kept = MatchOption kept (IsTrimmed content file) (λ k. (IsTrimmed content file → ⊥) × (k ≡ kept_of file))

abbrev pub IsTrimSought : (ℕ → List ℕ) → Result Found Fault → (Found → Bool) → Option Kept → Type 0
IsTrimSought content found asked kept =
    MatchResult found (λ file. MatchBool (asked file) (IsUntrimmed content file kept) (kept ≡ None)) (λ fault. kept ≡ None)
