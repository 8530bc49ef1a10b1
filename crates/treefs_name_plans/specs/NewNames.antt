-- A new name in a directory.
--     taken_in          the record that has a name of a directory
--     directory_for     the directory that is to have a name: its faults, then `BadName`
--     free_name         the directory, where it does not have the name yet: its faults, then `BadName`, `Exists`
--     addition_at       what a place for the record takes
--     addition_for, addition_in       where the record of a new name goes; the faults are the directory's, then `Full`, `TooLarge`
--     addition_parts    in which blocks how many entries may come to be pending for it
--     IsWithinBlocks    a place begins within its block, and a bucket that is to be made is a leaf
use Rattle.std.specs.Prelude.{ℕ, ◌+◌, ◌-◌, ◌==◌, ◌<◌, ◌≤◌, List, [], ◌∷◌, length, Option, None, Some, Result, Ok, Err, if◌then◌else◌}
use Rattle.xn_model.specs.Lives.{StoreState}
use Rattle.treefs_format.specs.Names.{is_name}
use Rattle.treefs_format.specs.Paths.{leaf_count, steps}
use Rattle.treefs_model.specs.declared.fault.Fault.{Fault}
use Rattle.treefs_model.specs.declared.fault.Fault.TheVariants.{BadName, Exists, NoEntry}
use Rattle.treefs_model.specs.Files.{and_then}
use Rattle.treefs_model.specs.Reading.{key_in}
use Rattle.treefs_lookup.specs.Inodes.{directory_found}
use Rattle.treefs_lookup.specs.Names.{entry_found, place_of}
use Rattle.treefs_lookup.specs.Readable.{readable}
use Rattle.treefs_lookup.specs.Walks.{reach}
use Rattle.treefs_lookup.specs.declared.inodes.Found.{Found}
use Rattle.treefs_lookup.specs.declared.names.Slot.{Slot}
use Rattle.treefs_lookup.specs.declared.paths.Reach.{Reach}
use Rattle.treefs_lookup.specs.declared.places.NamePlace.{NamePlace}
use Rattle.treefs_lookup.specs.declared.places.NamePlace.TheVariants as place
use Rattle.treefs_edits.specs.declared.tree.Tree.{Tree}
use Rattle.treefs_name_plans.specs.declared.addition.Addition.{Addition}
use Rattle.treefs_name_plans.specs.declared.addition.Addition.TheVariants.{Behind, Rewritten, Made}

-- Names that are there, or free

abbrev pub if_taken : Result Slot Fault → Result (Option Slot) Fault
if_taken (Ok slot) = Ok (Some slot)
if_taken (Err NoEntry) = Ok None
if_taken (Err fault) = Err fault

abbrev pub taken_in : (ℕ → List ℕ) → ℕ → ℕ → List ℕ → Result (Option Slot) Fault
taken_in content top d name = if_taken (entry_found content top d name)

abbrev pub directory_for : (ℕ → List ℕ) → ℕ → ℕ → List ℕ → Result Found Fault
directory_for content top d name = and_then (directory_found content top d) (λ directory. if is_name name then Ok directory else Err BadName)

abbrev pub if_free : ℕ → Option Slot → Result ℕ Fault
if_free directory None = Ok directory
if_free directory (Some slot) = Err Exists

-- its inode block
abbrev pub free_name : (ℕ → List ℕ) → ℕ → ℕ → List ℕ → Result ℕ Fault
free_name content top d name =
    and_then (directory_for content top d name) (λ directory. and_then (taken_in content top d name) (if_free directory.block))

-- Where they go

abbrev pub made_at : ℕ → ℕ → Reach → Addition
made_at node_type leaf r = Made (record { owner = r.block; leaf = leaf; missing = r.missing; node_type = node_type })

abbrev pub addition_at : (ℕ → List ℕ) → ℕ → ℕ → NamePlace → Addition
addition_at content node_type directory (place.DeadRecord block offset) = Behind block offset
addition_at content node_type directory (place.Behind block offset) = Behind block offset
addition_at content node_type directory (place.Rewritten block start offset) =
    Rewritten (record { block = block; in_inode = start == 128; bytes = content block; offset = offset })
addition_at content node_type directory (place.NewBucket bucket) = made_at node_type (bucket - 1) (reach content directory (steps (bucket - 1)))

abbrev pub place_in : StoreState → ℕ → ℕ → ℕ → List ℕ → Result NamePlace Fault
place_in state fs top d name =
    and_then (directory_found (readable state fs) top d) (λ directory. place_of state fs (key_in (readable state fs) top) directory.block name)

-- by the place that was found for it
abbrev pub addition_for : (ℕ → List ℕ) → ℕ → ℕ → Result NamePlace Fault → Result Addition Fault
addition_for content node_type directory place = and_then place (λ place. Ok (addition_at content node_type directory place))

abbrev pub addition_in : StoreState → Tree → ℕ → ℕ → List ℕ → Result Addition Fault
addition_in state tree d directory name = addition_for (readable state tree.fs.number) tree.node_type directory (place_in state tree.fs.number tree.top d name)

abbrev pub addition_parts : Addition → ℕ → List (ℕ × ℕ)
addition_parts (Behind block offset) directory = (block, 3) ∷ (directory, 3) ∷ []
addition_parts (Rewritten old) directory = (old.block, 3) ∷ (directory, 3) ∷ []
addition_parts (Made made) directory = (made.owner, 2) ∷ (directory, 4) ∷ []

-- Places

abbrev pub IsWithinBlocks : (ℕ → List ℕ) → NamePlace → Type 0
IsWithinBlocks content (place.DeadRecord block offset) = offset ≤ 128 + length (content block)
IsWithinBlocks content (place.Behind block offset) = offset ≤ 128 + length (content block)
IsWithinBlocks content (place.Rewritten block start offset) = (0 < length (content block)) × (offset ≤ 128 + length (content block))
IsWithinBlocks content (place.NewBucket bucket) = bucket ≤ leaf_count
