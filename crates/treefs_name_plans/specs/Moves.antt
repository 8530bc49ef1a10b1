-- A name moves: what is looked up before.
--     is_below               a directory is another one, or stands below it
--     Moved, moved_in        the old name, and the directory of the new one
--     IsTakenReplaced        the end of what has it
use Rattle.std.specs.Prelude.{◌≡◌, ℕ, zero, suc, ◌==◌, Bool, false, true, not, ◌&&◌, List, Option, None, Some, Result, Ok, Err, MatchBool, MatchResult, if◌then◌else◌}
use Rattle.xn_model.specs.Images.{most_blocks}
use Rattle.xn_model.specs.Lives.{StoreState}
use Rattle.treefs_format.specs.Names.{is_name}
use Rattle.treefs_format.specs.declared.kind.Kind.{Kind}
use Rattle.treefs_format.specs.declared.kind.Kind.TheVariants as kind
use Rattle.treefs_model.specs.declared.fault.Fault.{Fault}
use Rattle.treefs_model.specs.declared.fault.Fault.TheVariants.{BadName, Cycle, Full, IsDir, NotDir, NotEmpty}
use Rattle.treefs_model.specs.Files.{and_then}
use Rattle.treefs_lookup.specs.Inodes.{directory_found, inode_found}
use Rattle.treefs_lookup.specs.Readable.{readable}
use Rattle.treefs_lookup.specs.declared.inodes.Found.{Found}
use Rattle.treefs_lookup.specs.declared.names.Slot.{Slot}
use Rattle.treefs_lookup.specs.declared.sought.Sought.TheVariants.{Live, Pending}
use Rattle.treefs_edits.specs.declared.tree.Tree.{Tree}
use Rattle.treefs_edits.specs.Memories.{Memory}
use Rattle.treefs_name_plans.specs.CommitPlans.{some_of}
use Rattle.treefs_name_plans.specs.Ends.{ended_in, name_end}
use Rattle.treefs_name_plans.specs.Namings.{IsReplaceable}
use Rattle.treefs_name_plans.specs.Removals.{HasBucket}
use Rattle.treefs_name_plans.specs.declared.ended.Ended.{Ended}
use Rattle.treefs_name_plans.specs.declared.moved.Moved.{Moved}
use Rattle.treefs_name_plans.specs.declared.name_end.NameEnd.{NameEnd}

-- Directories above others

abbrev pub is_kind_directory : Kind → Bool
is_kind_directory kind.Directory = true
is_kind_directory kind.File = false
is_kind_directory kind.SymbolicLink = false

-- the directory in which an inode stands; 0 where it isn't there
abbrev pub parent_in : Result Found Fault → ℕ
parent_in (Ok found) = found.fields.parent
parent_in (Err fault) = 0

abbrev pub parent_of : (ℕ → List ℕ) → ℕ → ℕ → ℕ
parent_of content top d = parent_in (inode_found content top d)

-- directory d is n, or one of so many above it is, up to one that stands in itself
unfoldable pub is_below : (ℕ → List ℕ) → ℕ → ℕ → ℕ → ℕ → Bool
is_below content top n zero d = false
is_below content top n (suc steps) d =
    if d == n then true else if parent_of content top d == d then false else is_below content top n steps (parent_of content top d)

-- each is a block, and no store has more
abbrev pub most_above : ℕ
most_above = most_blocks

-- The old name

-- no directory comes to stand below itself
abbrev pub is_cycle : (ℕ → List ℕ) → ℕ → Ended → ℕ → Bool
is_cycle content top old d = is_kind_directory old.inode.kind && is_below content top old.slot.number most_above d

abbrev pub moved_old : (ℕ → List ℕ) → ℕ → ℕ → List ℕ → ℕ → ℕ → Result Moved Fault
moved_old content top d name d' directory =
    and_then (ended_in content top d name) (λ old. if is_cycle content top old d' then Err Cycle else Ok (record { old = old; directory = directory }))

-- from a name of d to a name of d': the faults of both directories, `BadName`, `NoEntry`, `Cycle`
abbrev pub moved_in : (ℕ → List ℕ) → ℕ → ℕ → List ℕ → ℕ → List ℕ → Result Moved Fault
moved_in content top d name d' name' =
    and_then (directory_found content top d) (λ from. and_then (directory_found content top d') (λ to.
    if is_name name && is_name name' then moved_old content top d name d' to.block else Err BadName))

-- The new name

-- only a directory takes the place of a directory
abbrev pub kinds_agree : Kind → Ended → Result Ended Fault
kinds_agree kind ended =
    if is_kind_directory ended.inode.kind && not (is_kind_directory kind) then Err IsDir
    else if is_kind_directory kind && not (is_kind_directory ended.inode.kind) then Err NotDir
    else Ok ended

-- a directory's name that may end by one edit: nothing stands in the directory, and nothing is pending in its buckets
abbrev pub IsEmptyReplaceable : StoreState → ℕ → Memory → Ended → Result NameEnd Fault → Type 0
IsEmptyReplaceable state fs memory ended answer =
    (live : Bool) × HasBucket state fs ended.inode.block Live live
    × MatchBool live (answer ≡ Err NotEmpty) ((pending : Bool) × HasBucket state fs ended.inode.block Pending pending
    × (answer ≡ (if pending then Err Full else Ok (name_end memory ended))))

abbrev pub IsAnyReplaceable : StoreState → ℕ → Memory → Ended → Result NameEnd Fault → Type 0
IsAnyReplaceable state fs memory ended answer =
    MatchBool (is_kind_directory ended.inode.kind) (IsEmptyReplaceable state fs memory ended answer) (IsReplaceable state fs memory ended answer)

-- the end of a name of d that something of a kind takes; None where it isn't there
abbrev pub IsTakenReplaced : StoreState → Tree → Memory → Kind → ℕ → List ℕ → Option Slot → Result (Option NameEnd) Fault → Type 0
IsTakenReplaced state tree memory kind d name None answer = answer ≡ Ok None
IsTakenReplaced state tree memory kind d name (Some slot) answer =
    MatchResult (and_then (ended_in (readable state tree.fs.number) tree.top d name) (kinds_agree kind))
    (λ ended. (end : Result NameEnd Fault) × IsAnyReplaceable state tree.fs.number memory ended end × (answer ≡ some_of end))
    (λ fault. answer ≡ Err fault)
