-- A name ends.
--     Ended, ended_in            the record that ends, its directory, and its inode
--     IsWithin                   a record begins within its block
--     IsOther                    the block of the other name behind which it ends, if it has to
--     fewer_links                what becomes of the inode
--     name_end                   what the end of a name changes
--     end_acts, EndPlan, end_plan     what a name's end takes
--     IsUnlinkPlanned            what the end of a file's name answers, or takes
use Rattle.std.specs.Prelude.{◌≡◌, ◌⊎◌, ℕ, ◌+◌, ◌-◌, ◌==◌, ◌≤◌, nat_le, nat_lt, Bool, ◌||◌, List, [], ◌∷◌, length, Option, None, Some, Result, Ok, Err, MatchBool, MatchResult, if◌then◌else◌}
use Rattle.xn_model.specs.Lives.{StoreState}
use Rattle.treefs_format.specs.declared.kind.Kind.{Kind}
use Rattle.treefs_format.specs.declared.kind.Kind.TheVariants as kind
use Rattle.treefs_format.specs.declared.fields.Fields.{Fields}
use Rattle.treefs_format.specs.Paths.{leaf_count}
use Rattle.treefs_model.specs.declared.fault.Fault.{Fault}
use Rattle.treefs_model.specs.declared.fault.Fault.TheVariants.{Full, IsDir, NotDir}
use Rattle.treefs_model.specs.Acts.{Act, number_act}
use Rattle.treefs_model.specs.Files.{and_then}
use Rattle.treefs_lookup.specs.Inodes.{directory_found, inode_found}
use Rattle.treefs_lookup.specs.Names.{entry_found}
use Rattle.treefs_lookup.specs.Readable.{readable}
use Rattle.treefs_lookup.specs.Sought.{AreWithout, IsNextBucket}
use Rattle.treefs_lookup.specs.declared.bucket.Bucket.{Bucket}
use Rattle.treefs_lookup.specs.declared.inodes.Found.{Found}
use Rattle.treefs_lookup.specs.declared.names.Slot.{Slot}
use Rattle.treefs_lookup.specs.declared.sought.Sought.TheVariants.{Other}
use Rattle.treefs_edits.specs.declared.times.Times.{Times}
use Rattle.treefs_edits.specs.declared.tree.Tree.{Tree}
use Rattle.treefs_edits.specs.Memories.{Memory, is_past, newest_times}
use Rattle.treefs_edits.specs.Plans.{Plan}
use Rattle.treefs_edits.specs.Rooms.{has_room}
use Rattle.treefs_name_plans.specs.Links.{link_act}
use Rattle.treefs_name_plans.specs.declared.link_change.LinkChange.{LinkChange}
use Rattle.treefs_name_plans.specs.declared.end.EndPlan.{EndPlan}
use Rattle.treefs_name_plans.specs.declared.name_end.NameEnd.{NameEnd}
use Rattle.treefs_name_plans.specs.declared.ended.Ended.{Ended}

-- What ends

abbrev pub ended_in : (ℕ → List ℕ) → ℕ → ℕ → List ℕ → Result Ended Fault
ended_in content top d name =
    and_then (entry_found content top d name) (λ slot.
    and_then (directory_found content top d) (λ directory.
    and_then (inode_found content top slot.number) (λ inode.
    Ok (record { directory = directory.block; slot = slot; inode = inode }))))

abbrev pub if_no_directory : Ended → Kind → Result Ended Fault
if_no_directory ended kind.Directory = Err IsDir
if_no_directory ended kind.File = Ok ended
if_no_directory ended kind.SymbolicLink = Ok ended

-- of a file or a symbolic link
abbrev pub file_ended : (ℕ → List ℕ) → ℕ → ℕ → List ℕ → Result Ended Fault
file_ended content top d name = and_then (ended_in content top d name) (λ ended. if_no_directory ended ended.inode.kind)

abbrev pub if_directory : Ended → Kind → Result Ended Fault
if_directory ended kind.Directory = Ok ended
if_directory ended kind.File = Err NotDir
if_directory ended kind.SymbolicLink = Err NotDir

abbrev pub directory_ended : (ℕ → List ℕ) → ℕ → ℕ → List ℕ → Result Ended Fault
directory_ended content top d name = and_then (ended_in content top d name) (λ ended. if_directory ended ended.inode.kind)

abbrev pub IsWithin : (ℕ → List ℕ) → Slot → Type 0
IsWithin content slot = slot.offset ≤ 128 + length (content slot.block)

-- The other name

-- none has to be there: the inode has no other link, or all names that were made since are durable
abbrev pub ends_alone : StoreState → ℕ → Memory → Ended → Bool
ends_alone state fs memory ended = nat_lt ended.inode.fields.links 2 || is_past state fs memory.last_link

-- what is pending in the record's own block is before it anyway
abbrev pub behind_other : ℕ → ℕ → Option ℕ
behind_other block other = if other == block then None else Some other

-- in the first bucket of the directory with a record of the inode that stands elsewhere; where there is none, the call waits
abbrev pub IsOtherBucket : StoreState → ℕ → Ended → Result (Option ℕ) Fault → Type 0
IsOtherBucket state fs ended answer =
    (AreWithout state fs ended.directory (Other ended.slot) 0 (leaf_count + 1) × (answer ≡ Err Full))
    ⊎ ((bucket : Bucket) × IsNextBucket state fs ended.directory (Other ended.slot) 0 bucket × (answer ≡ Ok (behind_other ended.slot.block bucket.block)))

abbrev pub IsOther : StoreState → ℕ → Memory → Ended → Result (Option ℕ) Fault → Type 0
IsOther state fs memory ended answer = MatchBool (ends_alone state fs memory ended) (answer ≡ Ok None) (IsOtherBucket state fs ended answer)

-- The inode

abbrev pub times_of : Fields → Times
times_of fields = record { mtime = fields.mtime; ctime = fields.ctime }

-- times change where links are left; without them the inode is an orphan
abbrev pub fewer_links : Memory → ℕ → Found → LinkChange
fewer_links memory number inode = record {
  block = inode.block;
  links = inode.fields.links - 1;
  times = if nat_le inode.fields.links 1 then None else Some (newest_times memory number (times_of inode.fields));
  parent = None;
}

-- The plan

-- its record, and its inode
abbrev pub name_end : Memory → Ended → NameEnd
name_end memory ended = record {
  number = ended.slot.number;
  block = ended.slot.block;
  offset = ended.slot.offset;
  fewer = fewer_links memory ended.slot.number ended.inode;
}

-- the number in its record becomes 0; then its inode gets a link fewer
abbrev pub end_acts : NameEnd → Option ℕ → List Act
end_acts end behind = number_act end.block end.offset 0 behind ∷ link_act end.fewer end.block ∷ []

abbrev pub end_plan : EndPlan → Plan
end_plan p = record { starts = []; acts = λ begun. end_acts p.end p.behind }

abbrev pub end_in_room : StoreState → ℕ → Memory → Ended → Option ℕ → Result EndPlan Fault
end_in_room state fs memory ended behind =
    if has_room state fs (length memory.touched) 4 ((ended.slot.block, 2) ∷ (ended.inode.block, 1) ∷ [])
    then Ok (record { end = name_end memory ended; behind = behind }) else Err Full

abbrev pub IsUnlinkPlanned : StoreState → Tree → Memory → ℕ → List ℕ → Result EndPlan Fault → Type 0
IsUnlinkPlanned state tree memory d name result =
    MatchResult (file_ended (readable state tree.fs.number) tree.top d name)
    (λ ended. (other : Result (Option ℕ) Fault) × IsOther state tree.fs.number memory ended other
    × (result ≡ and_then other (end_in_room state tree.fs.number memory ended)))
    (λ fault. result ≡ Err fault)
