-- What link does.
use Rattle.std.specs.Prelude.{◌≡◌, ℕ, nat_lt, List, Option, None, Some, Result, Ok, Err, if◌then◌else◌}
use Rattle.xn_model.specs.Types.{Types}
use Rattle.xn_model.specs.Lives.{StoreState}
use Rattle.xn_model.specs.PendingIn.{newest_entry_of}
use Rattle.treefs_format.specs.Paths.{leaf_count}
use Rattle.treefs_model.specs.declared.fault.Fault.{Fault}
use Rattle.treefs_model.specs.Reading.{leaf_block}
use Rattle.treefs_lookup.specs.Readable.{readable}
use Rattle.treefs_edits.specs.Memories.{Memory, with_touched, without_touched}
use Rattle.treefs_edits.specs.Plans.{DoesPlanned}
use Rattle.treefs_name_plans.specs.LinkPlans.{link_plan, link_planned}
use Rattle.treefs_name_plans.specs.declared.addition.Addition.{Addition}
use Rattle.treefs_name_plans.specs.declared.addition.Addition.TheVariants.{Behind, Rewritten, Made}
use Rattle.treefs_name_plans.specs.declared.link_plan.LinkPlan.{LinkPlan}
use Rattle.treefs.specs.Remembered.{now_times}
use Rattle.treefs.specs.Unlinking.{as_plan}
use Rattle.treefs.specs.declared.volume.Volume.{Volume}

-- the block in which the record stands then; 0 where its bucket is not there
abbrev pub record_block : (ℕ → List ℕ) → ℕ → Addition → ℕ
record_block content directory (Behind block offset) = block
record_block content directory (Rewritten old) = old.block
record_block content directory (Made made) = if nat_lt made.leaf leaf_count then leaf_block content directory made.leaf else 0

abbrev pub entry_or : Option ℕ → ℕ → ℕ
entry_or None word = word
entry_or (Some entry) word = entry

-- the number of the newest entry there
abbrev pub record_entry : StoreState → ℕ → ℕ → Addition → ℕ → ℕ
record_entry state fs directory addition word = entry_or (newest_entry_of state (record_block (readable state fs) directory addition)) word

-- the inode's times are written, the directory is touched, and the record is the last link's
abbrev pub linked_memory : StoreState → ℕ → Memory → ℕ → LinkPlan → Memory
linked_memory state fs memory directory plan = record memory {
  touched = with_touched (without_touched memory.touched plan.number) directory (now_times memory);
  last_link = record_entry state fs plan.directory plan.addition memory.last_link;
}

-- state: the store's, once it is done
abbrev pub linked_volume : StoreState → Volume → ℕ → Result LinkPlan Fault → Result (Unit {0}) Fault → Volume
linked_volume state volume directory (Ok plan) (Ok done) = record volume { memory = linked_memory state volume.tree.fs.number volume.memory directory plan }
linked_volume state volume directory (Ok plan) (Err fault) = volume
linked_volume state volume directory (Err fault) result = volume

abbrev pub LinkDoes : Types → StoreState → StoreState → Volume → Volume → ℕ → ℕ → List ℕ → Result (Unit {0}) Fault → Type 0
LinkDoes T state state' volume volume' n directory name result =
    let planned = link_planned state volume.tree volume.memory n directory name in
    DoesPlanned T volume.tree.fs.number (as_plan (link_plan name) planned) state state' result
    × (volume' ≡ linked_volume state' volume directory planned result)
