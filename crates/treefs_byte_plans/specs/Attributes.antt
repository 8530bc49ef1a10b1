-- Attributes of an inode are set: permissions, owner, and the time when the content changed.
--     mode_parts, owner_parts    the changes of a mode, of an owner
--     times_of                   the times that an inode's block says
--     attributes_plan            one edit of the inode's block
--     attributes_planned         what a call that sets attributes answers, or takes
use Rattle.std.specs.Prelude.{ℕ, ℤ, ◌%◌, List, [], ◌∷◌, ◌++◌, length, Option, None, Some, Result, Ok, Err, option_map, if◌then◌else◌}
use Rattle.xn_model.specs.Lives.{StoreState}
use Rattle.treefs_format.specs.Inodes.{mode_of}
use Rattle.treefs_format.specs.declared.fields.Change.{Change}
use Rattle.treefs_format.specs.declared.fields.Change.TheVariants.{Mode, Uid, Gid}
use Rattle.treefs_format.specs.declared.fields.Fields.{Fields}
use Rattle.treefs_model.specs.Acts.{Act, changes_act}
use Rattle.treefs_model.specs.Files.{and_then}
use Rattle.treefs_model.specs.declared.fault.Fault.{Fault}
use Rattle.treefs_model.specs.declared.fault.Fault.TheVariants.{Full}
use Rattle.treefs_lookup.specs.Inodes.{inode_found}
use Rattle.treefs_lookup.specs.Readable.{readable}
use Rattle.treefs_lookup.specs.declared.inodes.Found.{Found}
use Rattle.treefs_edits.specs.Kinds.{time_parts}
use Rattle.treefs_edits.specs.Memories.{Memory, newest_times}
use Rattle.treefs_edits.specs.Plans.{Plan}
use Rattle.treefs_edits.specs.Rooms.{has_room}
use Rattle.treefs_edits.specs.declared.times.Times.{Times}
use Rattle.treefs_edits.specs.declared.tree.Tree.{Tree}
use Rattle.treefs_byte_plans.specs.declared.attributes.Owner.{Owner}
use Rattle.treefs_byte_plans.specs.declared.attributes.Attributes.{Attributes}
use Rattle.treefs_byte_plans.specs.declared.attributes.AttributesPlan.{AttributesPlan}

abbrev pub mode_parts : Option ℕ → List (List Change)
mode_parts None = []
mode_parts (Some mode) = (Mode mode ∷ []) ∷ []

abbrev pub owner_parts : Option Owner → List (List Change)
owner_parts None = []
owner_parts (Some owner) = (Uid owner.uid ∷ Gid owner.gid ∷ []) ∷ []

-- each part is a patch: the mode, the owner, the times
abbrev pub attributes_act : AttributesPlan → Act
attributes_act p = changes_act p.block (mode_parts p.mode ++ (owner_parts p.owner ++ time_parts (Some p.times))) None

abbrev pub attributes_plan : AttributesPlan → Plan
attributes_plan p = record { starts = []; acts = λ begun. attributes_act p ∷ [] }

abbrev pub times_of : Fields → Times
times_of fields = record { mtime = fields.mtime; ctime = fields.ctime }

-- the content changed when the call says; else as it was last touched
abbrev pub set_times : Memory → ℕ → Fields → Option ℤ → Times
set_times memory number fields None = newest_times memory number (times_of fields)
set_times memory number fields (Some mtime) = record { mtime = mtime; ctime = memory.clock }

-- 12 permission bits; the kind stays
abbrev pub planned_attributes : Memory → ℕ → Attributes → Found → AttributesPlan
planned_attributes memory number attributes found = record {
  block = found.block;
  mode = option_map (λ permissions. mode_of found.kind (permissions % 4096)) attributes.permissions;
  owner = attributes.owner;
  times = set_times memory number found.fields attributes.mtime;
}

abbrev pub attributes_in_room : StoreState → ℕ → Memory → ℕ → Attributes → Found → Result AttributesPlan Fault
attributes_in_room state fs memory number attributes found =
    if has_room state fs (length memory.touched) 1 ((found.block, 1) ∷ []) then Ok (planned_attributes memory number attributes found) else Err Full

abbrev pub attributes_planned : StoreState → Tree → Memory → ℕ → Attributes → Result AttributesPlan Fault
attributes_planned state tree memory number attributes =
    and_then (inode_found (readable state tree.fs.number) tree.top number) (attributes_in_room state tree.fs.number memory number attributes)
