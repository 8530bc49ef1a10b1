-- The waits that end a trim: the inode waits for what is pending on the path to the last leaf that it keeps.
--     pending_path           the blocks on the path to a leaf in which something is pending, from the top
--     WaitsPlan, waits_plan  a wait of the inode on each of some blocks
--     IsWaitsPlanned         the waits of an inode that keeps so many leaves
use Rattle.std.specs.Prelude.{◌≡◌, ℕ, ◌-◌, ◌==◌, Bool, not, ◌&&◌, List, [], ◌∷◌, filter, is_some, map, slice_index, if◌then◌else◌}
use Rattle.xn_model.specs.Lives.{StoreState}
use Rattle.xn_model.specs.PendingIn.{newest_entry_of}
use Rattle.treefs_format.specs.Paths.{steps}
use Rattle.treefs_model.specs.Acts.{wait_act}
use Rattle.treefs_lookup.specs.Readable.{readable}
use Rattle.treefs_lookup.specs.Walks.{path_blocks}
use Rattle.treefs_edits.specs.Plans.{Plan}
use Rattle.treefs_byte_plans.specs.declared.waits_plan.WaitsPlan.{WaitsPlan}

abbrev pub is_pending : StoreState → ℕ → Bool
is_pending state block = not (block == 0) && is_some (newest_entry_of state block)

abbrev pub pending_path : StoreState → ℕ → ℕ → ℕ → List ℕ
pending_path state fs inode leaf = filter (is_pending state) (path_blocks (readable state fs) inode (steps leaf))

-- first: byte 0 of the inode's block, which is written again
abbrev pub waits_plan : WaitsPlan → Plan
waits_plan p = record { starts = []; acts = λ begun. map (wait_act p.inode (p.first ∷ [])) p.others.items }

abbrev pub awaited : StoreState → ℕ → ℕ → ℕ → List ℕ
awaited state fs inode keep = if keep == 0 then [] else pending_path state fs inode (keep - 1)

pub record IsWaitsPlanned (state : StoreState) (fs inode keep : ℕ) (plan : WaitsPlan) : Type 0 where
  pub inode_is : plan.inode ≡ inode
  pub first_is : plan.first ≡ slice_index (readable state fs inode) 0
  pub others_are : plan.others.items ≡ awaited state fs inode keep
