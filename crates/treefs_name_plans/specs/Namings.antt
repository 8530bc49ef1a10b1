-- A name comes to lead to an inode: a record is made, or the one that the name has is used again.
--     naming_for, naming_in  where its record stands, by the place of a new one; the faults are the directory's, then `Full`, `TooLarge`
--     naming_starts, naming_rewriting, naming_acts, naming_ends     the blocks that are begun for it, and its acts
--     naming_block           the block of its record
--     naming_parts           in which blocks how many entries may come to be pending for it
--     IsReplaceable          the end of a file's name that is replaced
use Rattle.std.specs.Prelude.{◌≡◌, ℕ, List, [], ◌∷◌, is_some, Option, None, Some, Result, Ok, Err, if◌then◌else◌}
use Rattle.xn_model.specs.Lives.{StoreState}
use Rattle.xn_model.specs.PendingIn.{newest_entry_of}
use Rattle.treefs_format.specs.Records.{Entry}
use Rattle.treefs_model.specs.declared.fault.Fault.{Fault}
use Rattle.treefs_model.specs.declared.fault.Fault.TheVariants.{Full}
use Rattle.treefs_model.specs.Acts.{Act, number_act}
use Rattle.treefs_model.specs.Files.{and_then}
use Rattle.treefs_lookup.specs.Readable.{readable}
use Rattle.treefs_lookup.specs.declared.places.NamePlace.{NamePlace}
use Rattle.treefs_edits.specs.declared.start.Start.{Start}
use Rattle.treefs_edits.specs.declared.tree.Tree.{Tree}
use Rattle.treefs_edits.specs.Memories.{Memory}
use Rattle.treefs_name_plans.specs.Additions.{addition_acts, addition_starts, last_block, rewriting}
use Rattle.treefs_name_plans.specs.Ends.{IsOther, name_end}
use Rattle.treefs_name_plans.specs.Links.{link_act}
use Rattle.treefs_name_plans.specs.NewNames.{addition_for, addition_parts, place_in}
use Rattle.treefs_name_plans.specs.declared.addition.Addition.TheVariants.{Behind, Rewritten, Made}
use Rattle.treefs_name_plans.specs.declared.ended.Ended.{Ended}
use Rattle.treefs_name_plans.specs.declared.name_end.NameEnd.{NameEnd}
pub use Rattle.treefs_name_plans.specs.declared.naming.Naming.{Naming}
use Rattle.treefs_name_plans.specs.declared.naming.Naming.TheVariants.{Added, Replaced}

-- directory: its inode block; replaced: what the end of the name changes that is there
abbrev pub naming_for : (ℕ → List ℕ) → ℕ → ℕ → Result NamePlace Fault → Option NameEnd → Result Naming Fault
naming_for content node_type directory place None = and_then (addition_for content node_type directory place) (λ addition. Ok (Added addition))
naming_for content node_type directory place (Some end) = Ok (Replaced end)

abbrev pub naming_in : StoreState → Tree → ℕ → ℕ → List ℕ → Option NameEnd → Result Naming Fault
naming_in state tree d directory name replaced =
    naming_for (readable state tree.fs.number) tree.node_type directory (place_in state tree.fs.number tree.top d name) replaced

-- What it does

abbrev pub naming_starts : Naming → List Start
naming_starts (Added addition) = addition_starts addition
naming_starts (Replaced end) = []

-- before all other acts of the call
abbrev pub naming_rewriting : Naming → List Act
naming_rewriting (Added addition) = rewriting addition
naming_rewriting (Replaced end) = []

-- begun: the blocks that were begun for it
abbrev pub naming_acts : Naming → List ℕ → Entry → ℕ → List Act
naming_acts (Added addition) begun entry behind = addition_acts addition begun entry behind
naming_acts (Replaced end) begun entry behind = number_act end.block end.offset entry.number (Some behind) ∷ []

-- behind all others that change names: what was replaced gets a link fewer
abbrev pub naming_ends : Naming → List Act
naming_ends (Added addition) = []
naming_ends (Replaced end) = link_act end.fewer end.block ∷ []

abbrev pub naming_block : Naming → List ℕ → ℕ
naming_block (Added (Behind block offset)) begun = block
naming_block (Added (Rewritten old)) begun = old.block
naming_block (Added (Made made)) begun = last_block begun
naming_block (Replaced end) begun = end.block

abbrev pub naming_parts : Naming → ℕ → List (ℕ × ℕ)
naming_parts (Added addition) directory = addition_parts addition directory
naming_parts (Replaced end) directory = (end.block, 2) ∷ (end.fewer.block, 1) ∷ []

-- What is replaced

-- where the other name stands, nothing may be pending
abbrev pub if_written : StoreState → NameEnd → Option ℕ → Result NameEnd Fault
if_written state end None = Ok end
if_written state end (Some block) = if is_some (newest_entry_of state block) then Err Full else Ok end

-- a file's name that may end by the edit that replaces it, which stands behind no other name of the file
abbrev pub IsReplaceable : StoreState → ℕ → Memory → Ended → Result NameEnd Fault → Type 0
IsReplaceable state fs memory ended answer =
    (other : Result (Option ℕ) Fault) × IsOther state fs memory ended other × (answer ≡ and_then other (if_written state (name_end memory ended)))
