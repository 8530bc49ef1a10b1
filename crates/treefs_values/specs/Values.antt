-- Words for what edits make of the files of a volume.
--     led_to number      where a name with a record of this number leads
--     AreChanges           changes of fields that one patch makes
--     links_parts          the changes of an edit that sets links, and where told times and a parent
--     inode_with_links           an inode with other links, and where told other times and another parent
--     KeepsBlocks          an edit that drops no block
--     found_value          an inode that is found, as a value
use Rattle.std.specs.Prelude.{◌≡◌, ◌==◌, ℕ, All, IsTrue, List, [], ◌∷◌, ◌++◌, Option, None, Some, if◌then◌else◌}
use Rattle.treefs_format.specs.Fields.{IsInRange, are_adjoining}
use Rattle.treefs_format.specs.declared.fields.Change.{Change}
use Rattle.treefs_format.specs.declared.fields.Change.TheVariants.{Links}
use Rattle.treefs_model.specs.Acts.{Act}
use Rattle.treefs_model.specs.Changes.{moved_to}
use Rattle.treefs_model.specs.Files.{Inode}
use Rattle.treefs_model.specs.Reading.{content_at, inode_with, key_in}
use Rattle.treefs_lookup.specs.declared.inodes.Found.{Found}
use Rattle.treefs_edits.specs.Kinds.{parent_parts, time_parts}
use Rattle.treefs_edits.specs.declared.times.Times.{Times}

abbrev pub led_to : ℕ → Option ℕ
led_to number = if number == 0 then None else Some number

abbrev pub AreChanges : List Change → Type 0
AreChanges changes = IsTrue (are_adjoining changes) × All IsInRange changes

abbrev pub with_times : Option Times → Inode → Inode
with_times None inode = inode
with_times (Some times) inode = record inode { mtime = times.mtime; ctime = times.ctime }

abbrev pub with_parent : Option ℕ → Inode → Inode
with_parent None inode = inode
with_parent (Some parent) inode = record inode { content = moved_to parent inode.content }

abbrev pub inode_with_links : ℕ → Option Times → Option ℕ → Inode → Inode
inode_with_links links times parent inode = with_parent parent (with_times times (record inode { links = links }))

abbrev pub links_parts : ℕ → Option Times → Option ℕ → List (List Change)
links_parts links times parent = (Links links ∷ []) ∷ (time_parts times ++ parent_parts parent)

abbrev pub KeepsBlocks : Act → Type 0
KeepsBlocks act = act.edit.drops ≡ []

abbrev pub found_value : (ℕ → List ℕ) → ℕ → Found → Inode
found_value content top x = inode_with x.fields (content_at content (key_in content top) x.block x.fields.parent x.kind)
