-- Bytes past the size of a file that are not 0 become 0: in the inode, or in the last leaf that the size keeps.
--     BlankPlan, blank_plan     all bytes of a block from one on become 0
--     blank_planned             what that takes for an inode, if there are any
use Rattle.std.specs.Prelude.{ℕ, ◌+◌, ◌/◌, ◌%◌, ◌==◌, nat_lt, Bool, not, ◌&&◌, List, [], ◌∷◌, length, Option, None, Some, Result, Ok, Err, if◌then◌else◌}
use Rattle.xn_model.specs.Lists.{blank}
use Rattle.xn_model.specs.Lives.{StoreState}
use Rattle.treefs_format.specs.Leaves.{greatest_size}
use Rattle.treefs_model.specs.Acts.{Act, patch_act}
use Rattle.treefs_model.specs.Reading.{leaf_block}
use Rattle.treefs_model.specs.declared.fault.Fault.{Fault}
use Rattle.treefs_model.specs.declared.fault.Fault.TheVariants.{Full}
use Rattle.treefs_lookup.specs.Readable.{readable}
use Rattle.treefs_lookup.specs.Trimmed.{bytes_past}
use Rattle.treefs_edits.specs.Memories.{Memory}
use Rattle.treefs_edits.specs.Plans.{Plan}
use Rattle.treefs_edits.specs.Rooms.{has_room}
use Rattle.treefs_byte_plans.specs.Sizes.{has_bytes_behind, zero_parts}
use Rattle.treefs_byte_plans.specs.declared.blank.BlankPlan.{BlankPlan}

abbrev pub blank_act : BlankPlan → Act
blank_act p = patch_act p.block (zero_parts (Some p.offset)) p.behind

abbrev pub blank_plan : BlankPlan → Plan
blank_plan p = record { starts = []; acts = λ begun. blank_act p ∷ [] }

-- a size that ends in the middle of a leaf, with bytes behind it there
abbrev pub has_tail : (ℕ → List ℕ) → ℕ → ℕ → Bool
has_tail content inode size =
    nat_lt 384 size && (nat_lt size greatest_size && (not (size % 512 == 0) && not (blank (bytes_past content inode size))))

abbrev pub tail_in_room : StoreState → ℕ → Memory → ℕ → ℕ → ℕ → Result (Option BlankPlan) Fault
tail_in_room state fs memory inode leaf size =
    if has_room state fs (length memory.touched) 10 ((leaf, 1) ∷ []) then Ok (Some (record { block = leaf; offset = size % 512; behind = Some inode }))
    else Err Full

abbrev pub blank_planned : StoreState → ℕ → Memory → ℕ → ℕ → Result (Option BlankPlan) Fault
blank_planned state fs memory inode size =
    if has_bytes_behind (readable state fs) inode size then Ok (Some (record { block = inode; offset = 128 + size; behind = None }))
    else if has_tail (readable state fs) inode size then tail_in_room state fs memory inode (leaf_block (readable state fs) inode (size / 512)) size
    else Ok None
