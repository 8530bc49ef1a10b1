-- A run of leaves that are missing, with pointers side by side in one block, is written.
--     leaf_starts            the leaves of some bytes, of which the first stands at a place of the first leaf; all other bytes are 0
--     attach_acts            pointers from an offset on, in patches of at most 16
--     run_plan, IsRun        what a run takes; what a run is
--     missing_count          how many leaves from one on are missing, of at most so many
--     run_planned            what a run answers, or takes: `Full`, where few leaves of many have room, or where one of the blocks has none
use Rattle.std.specs.Prelude.{ℕ, zero, suc, ◌+◌, ◌-◌, ◌*◌, ◌/◌, ◌%◌, ◌==◌, ◌<◌, ◌≤◌, min, nat_lt, Bool, not, ◌&&◌, List, [], ◌∷◌, ◌++◌}
use Rattle.std.specs.Prelude.{drop, is_none, length, map, take, Option, None, Some, Result, Ok, Err, if◌then◌else◌}
use Rattle.std.specs.Int.{div_ceil}
use Rattle.xn_model.specs.BareDisks.{zeros}
use Rattle.xn_model.specs.Calls.{Patch, pending_of}
use Rattle.xn_model.specs.Lists.{put}
use Rattle.xn_model.specs.Lives.{StoreState}
use Rattle.treefs_format.specs.Fields.{changes_patch}
use Rattle.treefs_format.specs.Nodes.{pointers_patch}
use Rattle.treefs_format.specs.Paths.{last_beside, leaf_count, steps}
use Rattle.treefs_model.specs.Acts.{Act, attach_act, wait_act}
use Rattle.treefs_model.specs.Files.{and_then}
use Rattle.treefs_model.specs.Reading.{leaf_block}
use Rattle.treefs_model.specs.declared.fault.Fault.{Fault}
use Rattle.treefs_model.specs.declared.fault.Fault.TheVariants.{Full}
use Rattle.treefs_lookup.specs.Readable.{readable}
use Rattle.treefs_lookup.specs.Walks.{pointer_offset, reach}
use Rattle.treefs_lookup.specs.declared.inodes.Found.{Found}
use Rattle.treefs_lookup.specs.declared.paths.Reach.{Reach}
use Rattle.treefs_edits.specs.Memories.{Memory}
use Rattle.treefs_edits.specs.Missing.{last_or_owner, missing_path, node_acts, node_starts}
use Rattle.treefs_edits.specs.Plans.{Plan}
use Rattle.treefs_edits.specs.Rooms.{has_room}
use Rattle.treefs_edits.specs.declared.start.Start.{Start}
use Rattle.treefs_edits.specs.declared.times.Times.{Times}
use Rattle.treefs_edits.specs.declared.tree.Tree.{Tree}
use Rattle.treefs_byte_plans.specs.Fields.{risen, size_acts, size_changes, times_now}
use Rattle.treefs_byte_plans.specs.declared.run_plan.RunPlan.{RunPlan}

-- Blocks

abbrev pub leaf_of : ℕ → List ℕ → List ℕ
leaf_of place bytes = put (zeros 512) place bytes

abbrev pub leaf_starts : ℕ → ℕ → List ℕ → List Start
leaf_starts zero place bytes = []
leaf_starts (suc n) place bytes = record { ty = 2; bytes = leaf_of place (take (512 - place) bytes) } ∷ leaf_starts n 0 (drop (512 - place) bytes)

-- the pointers that are missing on the path to the first leaf; those of them that lead to nodes
abbrev pub run_path : RunPlan → List ℕ
run_path p = missing_path p.leaf p.missing

abbrev pub run_nodes : RunPlan → List ℕ
run_nodes p = take (p.missing - 1) (run_path p)

abbrev pub run_starts : List ℕ → RunPlan → List Start
run_starts bytes p = node_starts p.node_type 2 (run_nodes p) ++ leaf_starts p.count (p.at % 512) bytes

-- Acts

-- so many edits
abbrev pub attach_acts : ℕ → ℕ → ℕ → List ℕ → List Act
attach_acts zero holder offset leaves = []
attach_acts (suc n) holder offset leaves = attach_act holder offset 2 (take 16 leaves) None ∷ attach_acts n holder (offset + 64) (drop 16 leaves)

abbrev pub size_parts : Option ℕ → Times → List Patch
size_parts None times = []
size_parts (Some size) times = changes_patch (size_changes (Some size) times) ∷ []

-- in the inode itself there are at most 16: one edit, which raises the size too
abbrev pub own_act : RunPlan → ℕ → ℕ → List ℕ → Act
own_act p holder offset leaves = record {
  block = holder;
  edit = record { patches = pointers_patch offset leaves ∷ size_parts p.size p.times; adds = map (λ b. (b, 2)) leaves; drops = []; after = None };
  behind = None;
}

-- where the size stays, and stands in the middle of the last leaf
abbrev pub run_waits : RunPlan → ℕ → List Act
run_waits p holder = if p.waits then wait_act p.inode (p.first ∷ []) holder ∷ [] else []

abbrev pub holder_acts : RunPlan → ℕ → ℕ → List ℕ → List Act
holder_acts p holder offset leaves =
    if nat_lt p.leaf 16 then own_act p holder offset leaves ∷ []
    else attach_acts (div_ceil p.count 16) holder offset leaves ++ (size_acts p.inode holder p.size p.times ++ run_waits p holder)

-- the new nodes, and the leaves
abbrev pub run_acts_of : RunPlan → List ℕ → List ℕ → List Act
run_acts_of p nodes leaves =
    node_acts p.node_type 2 p.owner (run_nodes p) nodes
    ++ holder_acts p (last_or_owner p.owner nodes) (pointer_offset p.leaf) leaves

abbrev pub run_acts : RunPlan → List ℕ → List Act
run_acts p begun = run_acts_of p (take (length (run_nodes p)) begun) (drop (length (run_nodes p)) begun)

abbrev pub run_plan : List ℕ → RunPlan → Plan
run_plan bytes p = record { starts = run_starts bytes p; acts = run_acts p }

-- the leaves are some, with pointers in one block
pub record IsRun (p : RunPlan) : Type 0 where
  pub within : p.leaf < leaf_count
  pub few : p.count ≤ 127

-- How many leaves

-- bytes: how many from the beginning of the first leaf on
abbrev pub most_leaves : ℕ → ℕ → ℕ
most_leaves leaf bytes = min (last_beside leaf + 1 - leaf) (div_ceil bytes 512)

-- how many leaves the entries make room for that may still come to be pending: a leaf takes one, and 16 of them one more
abbrev pub leaves_with_room : StoreState → ℕ → ℕ → ℕ
leaves_with_room state fs touched = (4096 - pending_of state fs - touched - 16) * 16 / 17 - 2

-- few of many wait
abbrev pub fitting : ℕ → ℕ → Result ℕ Fault
fitting most room = if nat_lt room most && nat_lt room 64 then Err Full else Ok (min most room)

abbrev pub missing_count : (ℕ → List ℕ) → ℕ → ℕ → ℕ → ℕ
missing_count content inode leaf zero = 0
missing_count content inode leaf (suc n) = if leaf_block content inode leaf == 0 then 1 + missing_count content inode (leaf + 1) n else 0

-- The plan

abbrev pub run_taken : ℕ → ℕ → ℕ → ℕ
run_taken at bytes count = min bytes (512 * count - at % 512)

-- a size that ends in the middle of a leaf
abbrev pub ends_in : ℕ → ℕ → Bool
ends_in size leaf = (size / 512 == leaf) && not (size % 512 == 0)

abbrev pub planned_run : Tree → Memory → Found → Reach → ℕ → ℕ → ℕ → RunPlan
planned_run tree memory file owner at bytes count =
    let size = risen file.fields.size (at + run_taken at bytes count) in
    record {
      inode = file.block;
      first = file.fields.leaf_type;
      node_type = tree.node_type;
      owner = owner.block;
      missing = owner.missing;
      leaf = at / 512;
      count = count;
      at = at;
      taken = run_taken at bytes count;
      size = size;
      times = times_now memory;
      waits = is_none size && ends_in file.fields.size (at / 512 + count - 1);
    }

abbrev pub run_in_room : StoreState → Tree → Memory → Found → ℕ → ℕ → ℕ → Result RunPlan Fault
run_in_room state tree memory file at bytes count =
    let owner = reach (readable state tree.fs.number) file.block (steps (at / 512)) in
    if has_room state tree.fs.number (length memory.touched) (count + count / 16 + 12) ((file.block, 3) ∷ (owner.block, count / 16 + 2) ∷ [])
    then Ok (planned_run tree memory file owner at bytes count) else Err Full

-- bytes: how many there are from a byte of the content on
abbrev pub run_planned : StoreState → Tree → Memory → Found → ℕ → ℕ → Result RunPlan Fault
run_planned state tree memory file at bytes =
    and_then (fitting (most_leaves (at / 512) (at % 512 + bytes)) (leaves_with_room state tree.fs.number (length memory.touched)))
    (λ fit. run_in_room state tree memory file at bytes (missing_count (readable state tree.fs.number) file.block (at / 512) fit))
