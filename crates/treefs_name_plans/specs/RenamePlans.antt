-- A name moves.
--     old_offset             where the old name's record begins once a bucket is rewritten
--     RenamePlan, rename_plan     what the move takes
--     rename_in              where the new name's record stands, the links, and room
--     IsRenamePlanned        what a call that moves a name answers, or takes
use Rattle.std.specs.Prelude.{◌≡◌, ℕ, ◌+◌, ◌-◌, ◌==◌, Bool, false, not, ◌&&◌, List, [], ◌∷◌, ◌++◌, drop, length, take, Option, None, Some, Result, Ok, Err, MatchBool, MatchResult, if◌then◌else◌}
use Rattle.std.specs.Int.{w32, to_le_bytes}
use Rattle.std.specs.List.{list_all}
use Rattle.xn_model.specs.Lives.{StoreState}
use Rattle.xn_model.specs.Calls.{Patch}
use Rattle.treefs_format.specs.Buckets.{room_without}
use Rattle.treefs_format.specs.Records.{Entry, entry_bytes}
use Rattle.treefs_model.specs.declared.fault.Fault.{Fault}
use Rattle.treefs_model.specs.declared.fault.Fault.TheVariants.{Full}
use Rattle.treefs_model.specs.Acts.{Act, number_act, one_patch, patch_act}
use Rattle.treefs_model.specs.Files.{and_then}
use Rattle.treefs_lookup.specs.Readable.{readable}
use Rattle.treefs_lookup.specs.declared.names.Slot.{Slot}
use Rattle.treefs_lookup.specs.declared.places.NamePlace.{NamePlace}
use Rattle.treefs_edits.specs.declared.tree.Tree.{Tree}
use Rattle.treefs_edits.specs.Memories.{Memory, is_past, newest_times}
use Rattle.treefs_edits.specs.Plans.{Plan}
use Rattle.treefs_edits.specs.Rooms.{has_room, has_room_in}
use Rattle.treefs_name_plans.specs.Additions.{old_start}
use Rattle.treefs_name_plans.specs.Ends.{times_of}
use Rattle.treefs_name_plans.specs.LinkPlans.{holder_of, more_links}
use Rattle.treefs_name_plans.specs.Links.{link_act}
use Rattle.treefs_name_plans.specs.Moves.{IsTakenReplaced, is_kind_directory, moved_in}
use Rattle.treefs_name_plans.specs.Namings.{naming_acts, naming_block, naming_ends, naming_for, naming_parts, naming_rewriting, naming_starts}
use Rattle.treefs_name_plans.specs.NewNames.{place_in, taken_in}
use Rattle.treefs_name_plans.specs.declared.addition.Addition.TheVariants.{Behind, Rewritten, Made}
use Rattle.treefs_name_plans.specs.declared.addition.OldBucket.{OldBucket}
use Rattle.treefs_name_plans.specs.declared.link_change.LinkChange.{LinkChange}
use Rattle.treefs_name_plans.specs.declared.moved.Moved.{Moved}
use Rattle.treefs_name_plans.specs.declared.name_end.NameEnd.{NameEnd}
use Rattle.treefs_name_plans.specs.declared.naming.Naming.{Naming}
use Rattle.treefs_name_plans.specs.declared.naming.Naming.TheVariants.{Added, Replaced}
use Rattle.treefs_name_plans.specs.declared.rename_plan.LinksBetween.{LinksBetween}
use Rattle.treefs_name_plans.specs.declared.rename_plan.Moving.{Moving}
use Rattle.treefs_name_plans.specs.declared.rename_plan.Moving.TheVariants.{Apart, Together}
use Rattle.treefs_name_plans.specs.declared.rename_plan.RenamePlan.{RenamePlan}

-- The old record

-- the bytes of a bucket before a place of its block
abbrev pub bytes_before : OldBucket → ℕ → List ℕ
bytes_before old offset = take (offset - old_start old) (drop (old_start old) old.bytes)

-- the live records before it stand before it then, too
abbrev pub rewritten_offset : OldBucket → ℕ → ℕ
rewritten_offset old offset = old_start old + (length (bytes_before old offset) - room_without (bytes_before old offset))

abbrev pub old_offset : Slot → Naming → ℕ
old_offset slot (Added (Behind block offset)) = slot.offset
old_offset slot (Added (Rewritten old)) = if old.block == slot.block then rewritten_offset old slot.offset else slot.offset
old_offset slot (Added (Made made)) = slot.offset
old_offset slot (Replaced end) = slot.offset

-- The plan

-- the patch that makes the new name lead to the inode, where its record stands in a block that is there
abbrev pub naming_patches : Naming → Entry → List Patch
naming_patches (Added (Behind block offset)) entry = one_patch offset (entry_bytes entry)
naming_patches (Added (Rewritten old)) entry = one_patch old.offset (entry_bytes entry)
naming_patches (Added (Made made)) entry = []
naming_patches (Replaced end) entry = one_patch end.offset (to_le_bytes w32 entry.number)

-- the number in the old record becomes 0, and that in the new one the inode's, behind all of the inode
abbrev pub both_act : RenamePlan → Entry → Act
both_act p entry = patch_act p.block (one_patch p.offset (to_le_bytes w32 0) ++ naming_patches p.naming entry) (Some p.inode)

-- the inode gets a link more, then its new name behind all of itself; behind that the old one ends, and behind that the link goes
abbrev pub apart_acts : RenamePlan → LinksBetween → List ℕ → Entry → List Act
apart_acts p links begun entry =
    link_act links.more links.behind
    ∷ (naming_acts p.naming begun entry p.inode
    ++ (number_act p.block p.offset 0 (Some (naming_block p.naming begun))
    ∷ link_act links.less p.block
    ∷ []))

abbrev pub moving_acts : RenamePlan → Moving → List ℕ → Entry → List Act
moving_acts p (Together times) begun entry = both_act p entry ∷ []
moving_acts p (Apart links) begun entry = apart_acts p links begun entry

-- name: the new one
abbrev pub rename_acts : RenamePlan → List ℕ → List ℕ → List Act
rename_acts p name begun =
    naming_rewriting p.naming ++ (moving_acts p p.moving begun (record { number = p.number; name = name }) ++ naming_ends p.naming)

abbrev pub rename_plan : List ℕ → RenamePlan → Plan
rename_plan name p = record { starts = naming_starts p.naming; acts = rename_acts p name }

-- Links and room

abbrev pub planned_move : Moved → Naming → Moving → RenamePlan
planned_move moved naming moving = record {
  number = moved.old.slot.number;
  inode = moved.old.inode.block;
  is_directory = is_kind_directory moved.old.inode.kind;
  block = moved.old.slot.block;
  offset = old_offset moved.old.slot naming;
  naming = naming;
  moving = moving;
}

abbrev pub replaced_parts : Naming → List (ℕ × ℕ)
replaced_parts (Added addition) = []
replaced_parts (Replaced end) = (end.fewer.block, 1) ∷ []

abbrev pub together_in_room : StoreState → Tree → Memory → Moved → Naming → Result RenamePlan Fault
together_in_room state tree memory moved naming =
    if has_room state tree.fs.number (length memory.touched) 4 ((moved.old.slot.block, 2) ∷ [])
    && list_all (has_room_in state) (replaced_parts naming)
    then Ok (planned_move moved naming (Together (newest_times memory moved.old.slot.number (times_of moved.old.inode.fields)))) else Err Full

-- a directory's record stands behind its old one, and comes to stand in another directory with its link
abbrev pub links_between : StoreState → Tree → Moved → ℕ → LinkChange → LinksBetween
links_between state tree moved d more =
    let is_directory = is_kind_directory moved.old.inode.kind in
    record {
      behind = if is_directory then moved.old.slot.block else holder_of (readable state tree.fs.number) tree.top moved.old.slot.number;
      more = record more { parent = if is_directory then Some d else None };
      less = record more { links = moved.old.inode.fields.links };
    }

abbrev pub apart_in_room : StoreState → Tree → Memory → Moved → ℕ → Naming → LinkChange → Result RenamePlan Fault
apart_in_room state tree memory moved d naming more =
    if has_room state tree.fs.number (length memory.touched) 25 (naming_parts naming moved.directory)
    && list_all (has_room_in state) ((moved.old.inode.block, 3) ∷ (moved.old.slot.block, 2) ∷ [])
    then Ok (planned_move moved naming (Apart (links_between state tree moved d more))) else Err Full

-- whether the new record stands in a block that is there
abbrev pub stands_in : Naming → ℕ → Bool
stands_in (Added (Behind place offset)) block = place == block
stands_in (Added (Rewritten old)) block = old.block == block
stands_in (Added (Made made)) block = false
stands_in (Replaced end) block = end.block == block

-- `TooLarge` where the inode has 2^32 - 1 links, and one more is needed
abbrev pub linked_in_room : StoreState → Tree → Memory → Moved → ℕ → Naming → Result RenamePlan Fault
linked_in_room state tree memory moved d naming =
    if stands_in naming moved.old.slot.block then together_in_room state tree memory moved naming
    else and_then (more_links memory moved.old.slot.number moved.old.inode) (apart_in_room state tree memory moved d naming)

-- from d to d', where the directories' records that were made or moved before are durable; by the place of a new record
abbrev pub rename_in : StoreState → Tree → Memory → Moved → ℕ → ℕ → Result NamePlace Fault → Option NameEnd → Result RenamePlan Fault
rename_in state tree memory moved d d' place replaced =
    if not (d == d') && not (is_past state tree.fs.number memory.last_dir) then Err Full
    else and_then (naming_for (readable state tree.fs.number) tree.node_type moved.directory place replaced) (linked_in_room state tree memory moved d')

-- What is done

abbrev pub leads_to : Option Slot → ℕ → Bool
leads_to None n = false
leads_to (Some slot) n = slot.number == n

abbrev pub move_of : Result RenamePlan Fault → Result (Option RenamePlan) Fault
move_of (Ok plan) = Ok (Some plan)
move_of (Err fault) = Err fault

abbrev pub IsMovePlanned : StoreState → Tree → Memory → Moved → ℕ → ℕ → List ℕ → Option Slot → Result (Option RenamePlan) Fault → Type 0
IsMovePlanned state tree memory moved d d' name taken result =
    (replaced : Result (Option NameEnd) Fault) × IsTakenReplaced state tree memory moved.old.inode.kind d' name taken replaced
    × (result ≡ and_then replaced (λ end. move_of (rename_in state tree memory moved d d' (place_in state tree.fs.number tree.top d' name) end)))

-- Ok None: the new name leads to the inode already, and nothing is done
abbrev pub IsRenamePlanned : StoreState → Tree → Memory → ℕ → List ℕ → ℕ → List ℕ → Result (Option RenamePlan) Fault → Type 0
IsRenamePlanned state tree memory d name d' name' result =
    MatchResult (moved_in (readable state tree.fs.number) tree.top d name d' name')
    (λ moved. MatchResult (taken_in (readable state tree.fs.number) tree.top d' name')
    (λ taken. MatchBool (leads_to taken moved.old.slot.number) (result ≡ Ok None) (IsMovePlanned state tree memory moved d d' name' taken result))
    (λ fault. result ≡ Err fault))
    (λ fault. result ≡ Err fault)
