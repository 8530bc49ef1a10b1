-- What `rm` does below a folder: names of files and symbolic links are taken as they are met, a folder's once it is left.
--     TakesName               the call that takes the name of a file or a symbolic link, or of a folder
--     TellsLeft               a fault is that of a folder in which something is left
--     TakesIfAny              the name was taken; or its fault is told, but for that of a folder in which something was told before
--     still_whole             whether all so far was removed
--     RemovesMet, RemovesVisited      what is done of a name that is met, or of a folder that is left; of what a walk comes to
--     visit_outcome, step_visited     what a walk comes to, as the word is told of it
--     RemovesEach             the same, of all that a walk comes to
--     RemovesNext             the same call, of the next
--     Empties, EmptiesUpTo    all below a folder is removed; or up to a fault that ends the line
--     RemovesTree, KeepsTree  the same, and then the folder
--     RemovesAllNamed, KeepsNamed     the same, of what has a name
--     RemovesAll, KeepsSome   the same, of a path
use Rattle.std.specs.Prelude.{◌≡◌, ◌⊎◌, ℕ, nat_lt, Bool, false, true, not, ◌&&◌, List, Option, None, Some, Result, Ok, Err}
use Rattle.xn_model.specs.Lives.{StoreState}
use Rattle.xn_model.specs.Types.{Types}
use Rattle.treefs_model.specs.declared.fault.Fault.{Fault}
use Rattle.tree_lines.specs.Values.{Volume}
use Rattle.tree_lines.specs.Places.{IsFolder, IsOwnName}
use Rattle.tree_lines.specs.Telling.{EndsLine, Tells, count_of}
use Rattle.tree_lines.specs.Trees.{ComesIn, IsPlaceIn, IsThereIn}
use Rattle.tree_lines.specs.Walks.{IsUnseen, Met, Outcome, Progress, begun, met_of}
use Rattle.tree_lines.specs.Walks.Outcome.{Ends, Leaves, Meets, Unseen}
use Rattle.tree_lines.specs.declared.fault.Fault.{Fault as LineFault}
use Rattle.tree_lines.specs.declared.fault.Fault.TheVariants.{At}
use Rattle.tree_lines.specs.declared.node.Node.{Node}
use Rattle.tree_lines.specs.declared.reason.Reason.TheVariants.{NotEmpty}
use Rattle.tree_lines.specs.declared.told.Told.{Told}
use Rattle.tree_lines.specs.declared.walking.Step.{Step}
use Rattle.tree_changes.specs.Below.{GoesThrough, HasEnded}
use Rattle.tree_changes.specs.Folders.{RmdirIn}
use Rattle.tree_changes.specs.Paths.{IsRefused, IsSame}
use Rattle.tree_changes.specs.Removing.{IsAway, IsNameKept, RemovesNamed, UnlinkIn}

-- behind: whether it is a folder that was left
abbrev pub TakesName : Types → ℕ → Bool → ℕ → List ℕ → StoreState → StoreState → Volume → Volume → Result (Unit {0}) Fault → Type 0
TakesName T folder false directory name = UnlinkIn T folder directory name
TakesName T folder true directory name = RmdirIn T folder directory name

-- a fault is that of a folder in which something is left
abbrev pub TellsLeft : LineFault → Type 0
TellsLeft (At path reason) = reason ≡ NotEmpty
TellsLeft other = ⊥

-- whole: whether all on the way there was removed
abbrev pub TakesIfAny : (Result (Unit {0}) Fault → Type 0) → Bool → Told → Told → Bool → Type 0
TakesIfAny Does whole told told' true = Does (Ok tt) × (told' ≡ told)
TakesIfAny Does whole told told' false = (fault : Fault) × (line : LineFault) × Does (Err fault)
    × (((whole ≡ false) × TellsLeft line × (told' ≡ told)) ⊎ (¬ ((whole ≡ false) × TellsLeft line) × (¬ EndsLine line) × Tells told told' line))

-- where a walk goes on to something nothing is told if all can be seen
abbrev pub still_whole : Bool → Told → Told → Bool
still_whole whole told told' = whole && not (nat_lt (count_of told) (count_of told'))

-- a folder that is met is gone into; it is taken once it is left
abbrev pub RemovesMet : Types → ℕ → Bool → Met → Told → Told → Told → Bool → Bool → StoreState → StoreState → Volume → Volume → Type 0
RemovesMet T folder behind met before told told' whole whole' old new volume volume' =
    (IsFolder met.node × (behind ≡ false) × IsSame old new volume volume' × (told' ≡ told) × (whole' ≡ still_whole whole before told))
    ⊎ (¬ (IsFolder met.node × (behind ≡ false)) × (removed : Bool) × TakesIfAny (TakesName T folder behind met.folder met.name old new volume volume')
    (still_whole whole before told) told told' removed × (whole' ≡ (still_whole whole before told && removed)))

abbrev pub RemovesVisited : Types → ℕ → Outcome → Told → Told → Told → Bool → Bool → StoreState → StoreState → Volume → Volume → Type 0
RemovesVisited T folder (Meets met) = RemovesMet T folder false met
RemovesVisited T folder (Leaves met) = RemovesMet T folder true met
RemovesVisited T folder Unseen = λ before told told' whole whole' old new volume volume'. ⊥
RemovesVisited T folder Ends = λ before told told' whole whole' old new volume volume'. ⊥

abbrev pub visit_outcome : Bool → Met → Outcome
visit_outcome false met = Meets met
visit_outcome true met = Leaves met

-- as the word is told of it
abbrev pub step_visited : Option (Step × Bool) → Outcome
step_visited None = Ends
step_visited (Some visit) = visit_outcome visit.1 (met_of visit.0)

abbrev pub RemovesEach : Types → ℕ → Progress → Told → StoreState → Volume → ℕ → Progress → Told → Bool → StoreState → Volume → Type 0
RemovesEach T folder far told old volume steps far' told' whole new volume' =
    GoesThrough IsUnseen (RemovesVisited T folder) far told true old volume steps far' told' whole new volume'

abbrev pub RemovesNext : Types → ℕ → Progress → Told → StoreState → StoreState → Volume → Volume → Result (Unit {0}) Fault → Type 0
RemovesNext T folder far told old new volume volume' result = (far' : Progress) × (told' : Told) × (behind : Bool) × (met : Met)
    × ComesIn old volume IsUnseen far told far' told' (visit_outcome behind met)
    × TakesName T folder behind met.folder met.name old new volume volume' result

-- number: of the folder; whole': whether nothing is left in it
abbrev pub Empties : Types → ℕ → List ℕ → ℕ → Bool → Told → Told → StoreState → StoreState → Volume → Volume → Type 0
Empties T folder path number whole' told told' old new volume volume' = (steps : ℕ) × (far : Progress) × (told1 : Told) × (whole : Bool)
    × RemovesEach T folder (begun path number) told old volume steps far told1 whole new volume'
    × HasEnded IsUnseen steps far told1 told' new volume' × (whole' ≡ still_whole whole told1 told')

abbrev pub EmptiesUpTo : Types → ℕ → List ℕ → ℕ → Told → StoreState → StoreState → Volume → Volume → Type 0
EmptiesUpTo T folder path number told old new volume volume' = (steps : ℕ) × (far : Progress) × (told1 : Told) × (whole : Bool) × (middle : StoreState)
    × (between : Volume) × RemovesEach T folder (begun path number) told old volume steps far told1 whole middle between
    × IsRefused (RemovesNext T folder far told1 middle new between volume') middle new between volume'

-- all below a folder and the folder itself, of a number, and of a folder and a name; where something is left in it that was told
abbrev pub RemovesTree : Types → ℕ → List ℕ → ℕ → ℕ → List ℕ → Told → Told → StoreState → StoreState → Volume → Volume → Type 0
RemovesTree T folder path number directory name told told' old new volume volume' = (whole : Bool) × (middle : StoreState) × (between : Volume)
    × Empties T folder path number whole told told' old middle volume between
    × (((whole ≡ true) × RmdirIn T folder directory name middle new between volume' (Ok tt)) ⊎ ((whole ≡ false) × IsSame middle new between volume'))

-- line: the fault that is answered
abbrev pub KeepsTree : Types → ℕ → List ℕ → ℕ → ℕ → List ℕ → LineFault → Told → Told → StoreState → StoreState → Volume → Volume → Type 0
KeepsTree T folder path number directory name line told told' old new volume volume' =
    (EmptiesUpTo T folder path number told old new volume volume' × EndsLine line)
    ⊎ ((middle : StoreState) × (between : Volume) × (fault : Fault) × Empties T folder path number true told told' old middle volume between
    × RmdirIn T folder directory name middle new between volume' (Err fault))

-- a name with all below it where it is a folder's, and otherwise alone
abbrev pub RemovesAllNamed : Bool → Types → ℕ → List ℕ → ℕ → List ℕ → Bool → Told → Told → StoreState → StoreState → Volume → Volume → Type 0
RemovesAllNamed forced T folder path directory name slash told told' old new volume volume' =
    (RemovesNamed forced T folder directory name slash old new volume volume' × (told' ≡ told))
    ⊎ ((node : Node) × IsThereIn old volume directory name (Some node) × IsFolder node
    × RemovesTree T folder path node.number directory name told told' old new volume volume')

abbrev pub KeepsNamed : Types → ℕ → List ℕ → ℕ → List ℕ → Bool → LineFault → Told → Told → StoreState → StoreState → Volume → Volume → Type 0
KeepsNamed T folder path directory name slash line told told' old new volume volume' =
    (IsNameKept T folder directory name slash old new volume volume' × (told' ≡ told))
    ⊎ ((node : Node) × IsThereIn old volume directory name (Some node) × IsFolder node
    × KeepsTree T folder path node.number directory name line told told' old new volume volume')

-- Of a path

-- own: the last name of the path, which is not `.` or `..`; forced: whether it is no fault that nothing is there
abbrev pub RemovesAll : Bool → Types → ℕ → List ℕ → Told → Told → StoreState → StoreState → Volume → Volume → Type 0
RemovesAll forced T folder path told told' old new volume volume' =
    ((forced ≡ true) × IsAway old volume folder path × IsSame old new volume volume' × (told' ≡ told))
    ⊎ ((own : List ℕ) × (directory : ℕ) × (name : List ℕ) × (slash : Bool) × IsOwnName path own × IsPlaceIn old volume folder path directory name slash
    × RemovesAllNamed forced T folder path directory name slash told told' old new volume volume')

abbrev pub KeepsSome : Types → ℕ → List ℕ → LineFault → Told → Told → StoreState → StoreState → Volume → Volume → Type 0
KeepsSome T folder path line told told' old new volume volume' = (IsSame old new volume volume' × (told' ≡ told))
    ⊎ ((own : List ℕ) × (directory : ℕ) × (name : List ℕ) × (slash : Bool) × IsOwnName path own × IsPlaceIn old volume folder path directory name slash
    × KeepsNamed T folder path directory name slash line told told' old new volume volume')
