-- What is told of a volume that was made, and how it is marked as closed.
--     root_found       the root of a volume that was made
--     opened           what open_to_look answers
--     mark_plan        inode 0 says that the volume is closed, or open
use Rattle.std.specs.Prelude.{ℕ, ℤ, ◌==◌, Bool, false, not, ◌&&◌, List, [], ◌∷◌, Option, None, Some, Result, Ok, Err, if◌then◌else◌}
use Rattle.std.specs.Int.{from_bool}
use Rattle.edit_list.specs.declared.fs.Fs.{Fs}
use Rattle.xn_model.specs.Calls.{kind_of, root_of}
use Rattle.xn_model.specs.Lives.{StoreState}
use Rattle.store_types.specs.declared.refusal.Refusal.{Refusal}
use Rattle.treefs_format.specs.Inodes.{content_of}
use Rattle.treefs_format.specs.Roots.{is_marked}
use Rattle.treefs_model.specs.Acts.{content_act}
use Rattle.treefs_model.specs.Files.{and_then}
use Rattle.treefs_model.specs.Reading.{pointed}
use Rattle.treefs_model.specs.declared.fault.Fault.{Fault}
use Rattle.treefs_model.specs.declared.fault.Fault.TheVariants.{NoEntry}
use Rattle.treefs_lookup.specs.Readable.{readable}
use Rattle.treefs_edits.specs.Plans.{Plan}
use Rattle.treefs.specs.Making.{fresh_volume, tree_at}
use Rattle.treefs.specs.declared.block_types.BlockTypes.{BlockTypes}
use Rattle.treefs.specs.declared.volume.Volume.{Volume}

abbrev pub has_type : Result ℕ Refusal → ℕ → Bool
has_type (Ok ty) wanted = ty == wanted
has_type (Err reason) wanted = false

-- with the mark, and with inode 1
abbrev pub is_root : (ℕ → List ℕ) → ℕ → Bool
is_root content top = is_marked (content_of (content top)) && not (pointed content top 48 == 0)

abbrev pub root_at : StoreState → ℕ → ℕ → Option ℕ → Result ℕ Fault
root_at state fs inode_type None = Err NoEntry
root_at state fs inode_type (Some top) =
    if has_type (kind_of state fs top) inode_type && is_root (readable state fs) top then Ok top else Err NoEntry

abbrev pub root_found : StoreState → ℕ → ℕ → Result ℕ Fault
root_found state fs inode_type = root_at state fs inode_type (root_of state fs)

abbrev pub opened : StoreState → Fs → BlockTypes → ℤ → Result Volume Fault
opened state fs types time = and_then (root_found state fs.number types.inode) (λ top. Ok (fresh_volume (tree_at fs types top) time))

abbrev pub mark_plan : ℕ → Bool → Plan
mark_plan top clean = record { starts = []; acts = λ begun. content_act top 24 (from_bool clean ∷ []) None ∷ [] }
