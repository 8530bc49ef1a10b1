-- A new inode gets its first name, or takes the place of another one.
--     IsNumberFound     the number that it gets; `Full`, `NoInode`
--     CommitPlan        where the table points to it, and how its name leads to it
--     commit_starts, commit_acts     the blocks that are begun for that, and its acts
--     commit_in_room    where there is room for them
--     IsCommitPlanned   what a call that names a new inode answers, or takes
use Rattle.std.specs.Prelude.{◌≡◌, ℕ, ◌-◌, Bool, List, [], ◌∷◌, ◌++◌, drop, length, slice_index, take, ◌&&◌, Option, None, Some, Result, Ok, Err, MatchBool, MatchResult, if◌then◌else◌}
use Rattle.std.specs.List.{list_all}
use Rattle.xn_model.specs.Lives.{StoreState}
use Rattle.treefs_format.specs.Paths.{steps}
use Rattle.treefs_format.specs.Roots.{leaf_of_inode}
use Rattle.treefs_model.specs.declared.fault.Fault.{Fault}
use Rattle.treefs_model.specs.declared.fault.Fault.TheVariants.{Exists, Full}
use Rattle.treefs_model.specs.Acts.{Act, attach_act}
use Rattle.treefs_model.specs.Files.{and_then}
use Rattle.treefs_lookup.specs.Numbers.{IsNextNumber, IsNoneFree}
use Rattle.treefs_lookup.specs.Readable.{readable}
use Rattle.treefs_lookup.specs.Walks.{reach}
use Rattle.treefs_lookup.specs.declared.names.Slot.{Slot}
use Rattle.treefs_edits.specs.declared.start.Start.{Start}
use Rattle.treefs_edits.specs.declared.tree.Tree.{Tree}
use Rattle.treefs_edits.specs.Memories.{Memory}
use Rattle.treefs_edits.specs.Missing.{last_or_owner, missing_path, node_acts, node_starts}
use Rattle.treefs_edits.specs.Plans.{Plan}
use Rattle.treefs_edits.specs.Rooms.{has_room, has_room_in}
use Rattle.treefs_name_plans.specs.Ends.{file_ended}
use Rattle.treefs_name_plans.specs.Namings.{IsReplaceable, naming_acts, naming_ends, naming_in, naming_parts, naming_rewriting, naming_starts}
use Rattle.treefs_name_plans.specs.NewNames.{directory_for, taken_in}
use Rattle.treefs_name_plans.specs.declared.commit_plan.CommitPlan.{CommitPlan}
use Rattle.treefs_name_plans.specs.declared.name_end.NameEnd.{NameEnd}
use Rattle.treefs_name_plans.specs.declared.naming.Naming.{Naming}

-- The number

abbrev pub IsNumberFound : StoreState → Tree → Memory → Result ℕ Fault → Type 0
IsNumberFound state tree memory found =
    MatchResult found (IsNextNumber state tree.fs.number tree.top memory.hint) (IsNoneFree state tree.fs.number tree.top 0)

-- What it takes

-- the pointers of the table's path that are missing: those to nodes, and behind them that to the inode
abbrev pub table_path : CommitPlan → List ℕ
table_path p = missing_path (leaf_of_inode p.number) p.missing

abbrev pub table_nodes : CommitPlan → List ℕ
table_nodes p = take (p.missing - 1) (table_path p)

-- the table's nodes, and what the record takes
abbrev pub commit_starts : CommitPlan → List Start
commit_starts p = node_starts p.node_type p.inode_type (table_nodes p) ++ naming_starts p.naming

-- inode: its block; nodes, others: the new nodes of the table, and the blocks for the record. The inode is attached behind all of itself, and the
-- record leads to it behind the block to which it was attached.
abbrev pub commit_acts_of : CommitPlan → List ℕ → ℕ → List ℕ → List ℕ → List Act
commit_acts_of p name inode nodes others =
    let holder = last_or_owner p.owner nodes in
    naming_rewriting p.naming
    ++ (node_acts p.node_type p.inode_type p.owner (table_nodes p) nodes
    ++ (attach_act holder (slice_index (table_path p) (p.missing - 1)) p.inode_type (inode ∷ []) (Some inode)
    ∷ (naming_acts p.naming others (record { number = p.number; name = name }) holder ++ naming_ends p.naming)))

abbrev pub commit_acts : CommitPlan → List ℕ → ℕ → List ℕ → List Act
commit_acts p name inode begun = commit_acts_of p name inode (take (length (table_nodes p)) begun) (drop (length (table_nodes p)) begun)

-- inode: the block of the inode
abbrev pub commit_plan : List ℕ → ℕ → CommitPlan → Plan
commit_plan name inode p = record { starts = commit_starts p; acts = commit_acts p name inode }

-- Room

-- edits: how many edits are made at most
abbrev pub commit_in_room : StoreState → Tree → Memory → ℕ → ℕ → ℕ → Naming → Result CommitPlan Fault
commit_in_room state tree memory edits n directory naming =
    let table = reach (readable state tree.fs.number) tree.top (steps (leaf_of_inode n)) in
    if has_room state tree.fs.number (length memory.touched) edits (naming_parts naming directory) && list_all (has_room_in state) ((table.block, 2) ∷ [])
    then Ok (record {
      number = n;
      directory = directory;
      node_type = tree.node_type;
      inode_type = tree.inode_type;
      owner = table.block;
      missing = table.missing;
      naming = naming;
    })
    else Err Full

-- Replacing

abbrev pub some_of : {A : Type 0} → Result A Fault → Result (Option A) Fault
some_of (Ok x) = Ok (Some x)
some_of (Err fault) = Err fault

-- the end of a name that is there: `NoEntry` where it leads to nothing, `IsDir`, `Full`
abbrev pub IsReplaced : StoreState → Tree → Memory → ℕ → List ℕ → Result NameEnd Fault → Type 0
IsReplaced state tree memory d name answer =
    MatchResult (file_ended (readable state tree.fs.number) tree.top d name) (λ ended. IsReplaceable state tree.fs.number memory ended answer)
    (λ fault. answer ≡ Err fault)

-- of a name with this record; None where it isn't there
abbrev pub IsTargetOf : StoreState → Tree → Memory → ℕ → List ℕ → Bool → Result (Option NameEnd) Fault → Option Slot → Type 0
IsTargetOf state tree memory d name replace target None = target ≡ Ok None
IsTargetOf state tree memory d name replace target (Some slot) =
    MatchBool replace ((end : Result NameEnd Fault) × IsReplaced state tree memory d name end × (target ≡ some_of end)) (target ≡ Err Exists)

abbrev pub IsTarget : StoreState → Tree → Memory → ℕ → List ℕ → Bool → Result (Option NameEnd) Fault → Type 0
IsTarget state tree memory d name replace target =
    MatchResult (taken_in (readable state tree.fs.number) tree.top d name) (IsTargetOf state tree memory d name replace target) (λ fault. target ≡ Err fault)

-- The plan

-- with a number, the end of what is replaced, and the inode block of the directory
abbrev pub numbered : StoreState → Tree → Memory → ℕ → ℕ → List ℕ → Option NameEnd → Result ℕ Fault → Result CommitPlan Fault
numbered state tree memory d directory name replaced number =
    and_then number (λ n. and_then (naming_in state tree d directory name replaced) (commit_in_room state tree memory 30 n directory))

abbrev pub IsNumbered : StoreState → Tree → Memory → ℕ → ℕ → List ℕ → Result CommitPlan Fault → Option NameEnd → Type 0
IsNumbered state tree memory d directory name result replaced =
    (number : Result ℕ Fault) × IsNumberFound state tree memory number × (result ≡ numbered state tree memory d directory name replaced number)

abbrev pub IsCommitPlanned : StoreState → Tree → Memory → ℕ → List ℕ → Bool → Result CommitPlan Fault → Type 0
IsCommitPlanned state tree memory d name replace result =
    MatchResult (directory_for (readable state tree.fs.number) tree.top d name)
    (λ directory. (target : Result (Option NameEnd) Fault) × IsTarget state tree memory d name replace target
    × MatchResult target (IsNumbered state tree memory d directory.block name result) (λ fault. result ≡ Err fault))
    (λ fault. result ≡ Err fault)
